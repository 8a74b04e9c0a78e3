-- `time::whole_tempos::whole_of` meets its contract.
use Rattle.std.proofs.lemmas.Bool.{ne_eqb}
use Rattle.std.proofs.Common.{◌≡◌, ℕ, ◌^◌, ◌≤◌, Bool, true, false, T, eqb, sym, refl, ap, ◌∙◌, subst, ap₂, true≢false, arith}
use lib.Ieee.{Float, binary64, fits, of_int, of_bits, to_bits, to_unsigned, le, eq}
use lib.Ieee.Fits.{eq→eqb}
use Rattle.signed.specs.Laws.Tests.{yes}
use Rattle.float.specs.Laws.Wholes.{whole}
use Rattle.time.specs.Inner.WholeTempo.{InTable}
use Rattle.time.proofs.WholeFloats.{slowest_is, fastest_is, le_whole, cut_asks, cut_gives, equal_whole, whole_equal, cut_whole, masked, MasksAll, masked_0}
use Rattle.time.proofs.whole_tempos.whole_of.Goals.{else-x-via-then-x+then-x-2+else-x-eq0, else-x-via-then-x+else-x-2, else-x-via-else-x}
use Rattle.time.proofs.whole_tempos.whole_of.Goals as goal

not-both : (b : Bool) → T b → b ≡ false → ⊥
not-both true t e = true≢false e
not-both false t e = elim t [ ]

-- where both tests have passed, x is from 20 to 999
above : (x : Float) → le (of_bits binary64 0x4034_0000_0000_0000) x ≡ true → T (le (whole 20) x)
above x e = subst (λ (k : Float). T (le k x)) slowest_is (yes e)

below : (x : Float) → le x (of_bits binary64 0x408f_3800_0000_0000) ≡ true → T (le x (whole 999))
below x e = subst (λ (k : Float). T (le x k)) fastest_is (yes e)

pub truncating_f64_to_u64-n-requires-clause-lower_bound : goal.truncating_f64_to_u64-n-requires-clause-lower_bound
truncating_f64_to_u64-n-requires-clause-lower_bound c =
    (cut_asks c.args.x (above c.args.x c.if-x.true) (below c.args.x c.if-x-2.true)).0

pub truncating_f64_to_u64-n-requires-clause-upper_bound : goal.truncating_f64_to_u64-n-requires-clause-upper_bound
truncating_f64_to_u64-n-requires-clause-upper_bound c =
    (cut_asks c.args.x (above c.args.x c.if-x.true) (below c.args.x c.if-x-2.true)).1

-- and so is the number n that it is cut to
within : (x : Float) (n : ℕ) → n ≡ to_unsigned 64 x → le (of_bits binary64 0x4034_0000_0000_0000) x ≡ true
    → le x (of_bits binary64 0x408f_3800_0000_0000) ≡ true → (20 ≤ n) × (n ≤ 999)
within x n cut l u = subst (λ (k : ℕ). (20 ≤ k) × (k ≤ 999)) (sym cut) (cut_gives x (above x l) (below x u))

pub overflow_cast-n : goal.overflow_cast-n
overflow_cast-n c =
    let w = within c.args.x c.truncating_f64_to_u64-n.result c.truncating_f64_to_u64-n.ensures c.if-x.true c.if-x-2.true in
    record { fits = omega arith }

-- where n equals x, it is x
pub returns-then-x-n : goal.returns-then-x-n
returns-then-x-n c =
    let n = c.truncating_f64_to_u64-n.result in
    let w = within c.args.x n c.truncating_f64_to_u64-n.ensures c.if-x.true c.if-x-2.true in
    let f : T (fits binary64 c.args.x) = yes c.well_formed.0.1 in
    (w.0, w.1, equal_whole n c.args.x (omega arith) (omega arith) f (yes c.if-x-n.true))

-- a whole tempo, cut, would be itself
pub returns-else-x-n : goal.returns-else-x-n
returns-else-x-n c k t =
    let small : k ≤ 2 ^ 53 = omega (arith, t.1) in
    let same : c.truncating_f64_to_u64-n.result ≡ k = c.truncating_f64_to_u64-n.ensures ∙ ap (to_unsigned 64) t.2 ∙ cut_whole k small in
    not-both (eq (whole k) (whole k)) (whole_equal k small) (ap₂ (λ (y : Float) (m : ℕ). eq y (whole m)) (sym t.2) (sym same) ∙ c.if-x-n.false)

-- and would have passed the three tests
module _ (y : Float) (k : ℕ) (t : InTable y k) where
  passes-slowest : le (of_bits binary64 0x4034_0000_0000_0000) y ≡ false → ⊥
  passes-slowest e = not-both (le (whole 20) (whole k)) (le_whole 20 k t.0 (omega (arith, t.1))) (ap₂ le (sym slowest_is) (sym t.2) ∙ e)

  passes-fastest : le y (of_bits binary64 0x408f_3800_0000_0000) ≡ false → ⊥
  passes-fastest e = not-both (le (whole k) (whole 999)) (le_whole k 999 t.1 (omega arith)) (ap₂ le (sym t.2) (sym fastest_is) ∙ e)

  passes-digits : (mask : ℕ) → eqb (masked mask y) 0 ≡ false → MasksAll mask → ⊥
  passes-digits mask e all =
      not-both (eqb (masked mask (whole k)) 0) (eq→eqb (masked_0 mask all k t.0 t.1)) (ap (λ (z : Float). eqb (masked mask z) 0) (sym t.2) ∙ e)

pub returns-else-x : goal.returns-else-x
unfolding to_bits of_int
returns-else-x c k t = elim c.else-x.branch [
  | else-x-via-then-x+then-x-2+else-x-eq0 w ↦ passes-digits c.args.x k t _ (ne_eqb _ _ w.if-x-eq0.false) refl
  | else-x-via-then-x+else-x-2 w ↦ passes-fastest c.args.x k t w.if-x-2.false
  | else-x-via-else-x w ↦ passes-slowest c.args.x k t w.if-x.false
]
