-- What a signed test tells: a branch on `a < b` of two `i64` hands its arms an equation of the flag, `lt_z a b ≡ true` or `≡ false`.
use Rattle.std.specs.Prelude.{◌≡◌, ℕ, suc, ◌-◌, ◌^◌, Bool, true, false, T, ℤ, pos, negsuc, ◌-ℤ◌, neg_ℤ, nat_abs, ◌≤ℤ◌, ◌<ℤ◌, ◌==◌, refl}
use Rattle.std.proofs.Common.{sym, ap, ◌∙◌, arith, SFits, to_z, of_z, to_z-of_z, ltb-true, leb-false, eqb-true, lt-ltb, eq-eqb, ne_eqb}
use Rattle.std.specs.Int.Signed.{mag, lt_z, le_z, lt_z_yes, lt_z_no, le_z_yes, clash_ℤ}
use Rattle.std.specs.Int.{w64}
use Rattle.std.proofs.lemmas.Bool.{eqb-false}
use Rattle.signed.specs.Equal.{eq_z}
use Rattle.signed.specs.Laws.Diff.{diff_eq, ring}
use Rattle.signed.specs.Laws.Tests.{yes, no}

-- the flag as an order
pub lt_z-true : {a b : ℤ} → lt_z a b ≡ true → a <ℤ b
lt_z-true e = lt_z_yes (yes e)

pub lt_z-false : {a b : ℤ} → lt_z a b ≡ false → b ≤ℤ a
lt_z-false e = lt_z_no (no e)

-- a number below 0 is a `negsuc`, one that is not is a `pos`
pub by_neg {ℓ} : (P : ℤ → Type ℓ) → ((n : ℕ) → P (negsuc n)) → (a : ℤ) → lt_z a (pos 0) ≡ true → P a
by_neg P f (pos n) e = let z : ⊥ = omega (arith, ltb-true n 0 e) in absurd z
by_neg P f (negsuc n) e = f n

pub by_nonneg {ℓ} : (P : ℤ → Type ℓ) → ((n : ℕ) → P (pos n)) → (a : ℤ) → lt_z a (pos 0) ≡ false → P a
by_nonneg P f (pos n) e = f n
by_nonneg P f (negsuc n) e = let z : ◌≡◌ {A = ℕ} 0 1 = cc in let y : ⊥ = omega arith in absurd y

-- −1 − a is not negative for a negative a, and the size of what `SFits` bounds
pub flip : (a : ℤ) → lt_z a (pos 0) ≡ true → negsuc 0 -ℤ a ≡ pos (mag a)
flip = by_neg _ λ n. simp ring (diff_eq _ _ _ _ (omega arith))

pub below_minus_one : (n : ℕ) → negsuc 0 -ℤ pos n ≡ negsuc n
below_minus_one n = simp ring (diff_eq _ _ _ _ (omega arith))

-- a size, by the sign
pub size_neg : (a : ℤ) → lt_z a (pos 0) ≡ true → neg_ℤ a ≡ pos (nat_abs a)
size_neg = by_neg _ λ n. refl

pub size_nonneg : (a : ℤ) → lt_z a (pos 0) ≡ false → a ≡ pos (nat_abs a)
size_nonneg = by_nonneg _ λ n. refl

-- a signed local holds bits, and is read through `to_z w64 (of_z w64 a)`: the flag of a test of the local against 0, and −1 − a
pub read_flag : {b : Bool} (a : ℤ) → SFits w64 a → lt_z (to_z w64 (of_z w64 a)) (pos 0) ≡ b → lt_z a (pos 0) ≡ b
read_flag a f t = simp (to_z-of_z f) at t

pub flip_fits : (a : ℤ) → SFits w64 a → lt_z a (pos 0) ≡ true → SFits w64 (negsuc 0 -ℤ to_z w64 (of_z w64 a))
flip_fits a f t = simp (to_z-of_z f, flip a t) (record { sfits = f.sfits })

pub flip_read : (a : ℤ) → SFits w64 a → lt_z a (pos 0) ≡ true → to_z w64 (of_z w64 (negsuc 0 -ℤ to_z w64 (of_z w64 a))) ≡ pos (mag a)
flip_read a f t = to_z-of_z (flip_fits a f t) ∙ simp (to_z-of_z f, flip a t)

-- a number that is not negative is the number of its size, which is what its cast to a `u64` gives
pub nonneg_read : (a : ℤ) → SFits w64 a → lt_z a (pos 0) ≡ false → to_z w64 (of_z w64 a) ≡ pos (mag a)
nonneg_read a f t = to_z-of_z f ∙ by_nonneg (λ (z : ℤ). z ≡ pos (mag z)) (λ n. refl) a t

-- the tests `<=` and `>=`, and the flags from the orders
pub le_z-true : {a b : ℤ} → le_z a b ≡ true → a ≤ℤ b
le_z-true e = le_z_yes (yes e)

nle : (a b : ℤ) → le_z a b ≡ false → lt_z b a ≡ true
nle (pos a) (pos b) e = lt-ltb b a (leb-false a b e)
nle (pos a) (negsuc b) e = refl
nle (negsuc a) (pos b) e = sym e
nle (negsuc a) (negsuc b) e = lt-ltb a b (leb-false b a e)

pub le_z-false : {a b : ℤ} → le_z a b ≡ false → b <ℤ a
le_z-false {a} {b} e = lt_z-true (nle a b e)

is_true : (t : Bool) → T t → t ≡ true
is_true true h = refl
is_true false h = absurd h

is_false : (t : Bool) → (T t → ⊥) → t ≡ false
is_false true h = absurd (h tt)
is_false false h = refl

pub le_le_z : (a b : ℤ) → a ≤ℤ b → le_z a b ≡ true
le_le_z a b h = is_true (le_z a b) h.le

pub lt_le_z : (a b : ℤ) → b <ℤ a → le_z a b ≡ false
lt_le_z a b h = is_false (le_z a b) (λ t. clash_ℤ {X = ⊥} h (le_z_yes {a = a} {b = b} t))

-- ---- the test `==`

pub eq_z_true : {a b : ℤ} → eq_z a b ≡ true → a ≡ b
eq_z_true {a = pos a} {b = pos b} e = ap pos (eqb-true a b e)
eq_z_true {a = pos a} {b = negsuc b} e = let z : ◌≡◌ {A = ℕ} 0 1 = cc in let y : ⊥ = omega arith in absurd y
eq_z_true {a = negsuc a} {b = pos b} e = let z : ◌≡◌ {A = ℕ} 0 1 = cc in let y : ⊥ = omega arith in absurd y
eq_z_true {a = negsuc a} {b = negsuc b} e = ap negsuc (eqb-true a b e)

pub eq_z_refl : (a : ℤ) → eq_z a a ≡ true
eq_z_refl (pos a) = eq-eqb a a refl
eq_z_refl (negsuc a) = eq-eqb a a refl

-- two tests of numbers agree where each equation follows from the other
eqb-eqb : (m n p q : ℕ) → (m ≡ n → p ≡ q) → (p ≡ q → m ≡ n) → (m == n) ≡ (p == q)
eqb-eqb m n p q f g = go (p == q) refl
  where
    go : (t : Bool) → (p == q) ≡ t → (m == n) ≡ t
    go true e = eq-eqb m n (g (eqb-true p q e))
    go false e = ne_eqb m n (λ h. eqb-false p q e (f h))

-- two signed locals are compared by their bits
pub eq_read : (a b : ℤ) → SFits w64 a → SFits w64 b → (of_z w64 a == of_z w64 b) ≡ eq_z a b
eq_read (pos a) (pos b) f g = refl
eq_read (pos a) (negsuc b) f g = ne_eqb a (2 ^ 64 - suc b) (λ e. omega (arith, f.sfits, g.sfits))
eq_read (negsuc a) (pos b) f g = ne_eqb (2 ^ 64 - suc a) b (λ e. omega (arith, f.sfits, g.sfits))
eq_read (negsuc a) (negsuc b) f g = eqb-eqb (2 ^ 64 - suc a) (2 ^ 64 - suc b) a b (λ e. omega (arith, f.sfits, g.sfits)) (λ e. omega (arith, f.sfits, g.sfits))
