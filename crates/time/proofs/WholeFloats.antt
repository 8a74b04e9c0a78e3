-- Floats from 20 to 999 beside whole numbers: what the proof of `whole_of` cites.
use Rattle.std.proofs.Common.{◌≡◌, ℕ, ◌+◌, ◌*◌, ◌/◌, ◌^◌, ◌<◌, ◌≤◌, Bool, true, false, not, ◌||◌, T, eqb, pos, sym, refl, ap, ◌∙◌, subst, true≢false, mul-pos, le-div_iff_mul-le, mul-one, mul_right_comm, arith, le→leb, eqb→eq, lt→ltb}
use mathlib.Core.Bool.{beq}
use native.Mathlib.Nat.{div-le_of_le-mul, eq_of_mul-eq-mul_right}
use lib.Bits.{bit_and}
use lib.Dec.{eqb_refl}
use lib.Ieee.{Float, nan, inf, fin, binary64, up, down, fits, of_int, of_bits, to_bits, to_unsigned, in_float, is_nan, lt, le, eq}
use lib.Ieee.Fits.{down_pos, of_int-fits, and_i, and_l, and_r}
use lib.Ieee.Exact.{HasValue}
use lib.Ieee.Back.{unsigned_back, whole_unique}
use lib.Ieee.Order.{le_of_values}
use lib.Ieee.Positive.{positive, num, den}
use Rattle.float.specs.Laws.Wholes.{whole, value, Between, between_wholes}
use Rattle.time.specs.Laws.WholeTempos.{listed, agree_at}

-- the code's two ends
pub slowest_is : of_bits binary64 0x4034_0000_0000_0000 ≡ whole 20
unfolding of_bits of_int
slowest_is = refl

pub fastest_is : of_bits binary64 0x408f_3800_0000_0000 ≡ whole 999
unfolding of_bits of_int
fastest_is = refl

-- ---- the order of whole numbers

pub le_whole : (a b : ℕ) → a ≤ b → b ≤ 2 ^ 53 → T (le (whole a) (whole b))
le_whole a b h k = le_of_values (whole a) (whole b) a 1 b 1 (omega arith) (omega arith) (value a (omega arith)) (value b k) (omega arith)

-- ---- a float from 20 to 999

positive_no_nan : (x : Float) → T (positive x) → T (not (is_nan x))
unfolding is_nan
positive_no_nan nan p = absurd p
positive_no_nan (inf s) p = absurd p
positive_no_nan (fin s m e) p = tt

lt_minus_one : (x : Float) → T (positive x) → T (lt (fin true 1 (pos 0)) x)
unfolding lt
lt_minus_one nan p = absurd p
lt_minus_one (inf s) p = absurd p
lt_minus_one (fin true m e) p = absurd p
lt_minus_one (fin false m e) p = let d = down_pos e in lt→ltb 0 (1 * 1 * down e + m * up e * 1) (omega arith)

lt_top : (x : Float) → T (positive x) → num x ≤ 999 * den x → T (lt x (fin false 1 (pos 64)))
unfolding lt
lt_top nan p h = absurd p
lt_top (inf s) p h = absurd p
lt_top (fin true m e) p h = absurd p
lt_top (fin false m e) p h = let d = down_pos e in lt→ltb (m * up e * 1) (1 * 2 ^ 64 * down e) (omega arith)

cut_within : (x : Float) → T (positive x) → 20 * den x ≤ num x → num x ≤ 999 * den x → (20 ≤ to_unsigned 64 x) × (to_unsigned 64 x ≤ 999)
unfolding to_unsigned
cut_within nan p l u = absurd p
cut_within (inf s) p l u = absurd p
cut_within (fin true m e) p l u = absurd p
cut_within (fin false m e) p l u =
    let lo : 20 ≤ m * up e / down e = (le-div_iff_mul-le (down_pos e)).1 l in
    let hi : m * up e / down e ≤ 999 = div-le_of_le-mul (down e) (omega arith) in
    (omega arith, omega arith)

module _ (x : Float) (l : T (le (whole 20) x)) (u : T (le x (whole 999))) where
  bounds : Between x 20 999
  bounds = between_wholes x 20 999 (omega arith) (omega arith) (omega arith) (omega arith) l u

  pub no_nan : T (not (is_nan x))
  no_nan = positive_no_nan x bounds.here

  -- what cutting it asks, and what it gives
  pub cut_asks : T (lt (fin true 1 (pos 0)) x) × T (lt x (fin false 1 (pos 64)))
  cut_asks = (lt_minus_one x bounds.here, lt_top x bounds.here bounds.at_most)

  pub cut_gives : (20 ≤ to_unsigned 64 x) × (to_unsigned 64 x ≤ 999)
  cut_gives = cut_within x bounds.here bounds.at_least bounds.at_most

-- ---- a float that equals a whole number is that number's float

same_sign : (s : Bool) (a : ℕ) → 0 < a → T (beq s false || eqb a 0) → s ≡ false
same_sign false a h t = refl
same_sign true a h t = let z : a ≡ 0 = eqb→eq a 0 t in absurd (omega arith)

-- m * 2 ^ e is n where it equals k * 2 ^ d, which is n
same_size : (m k n ue de ud dd : ℕ) → 0 < dd → k * ud * 1 ≡ n * dd → m * ue * dd ≡ k * ud * de → m * ue * 1 ≡ n * de
same_size m k n ue de ud dd p v e =
    eq_of_mul-eq-mul_right dd p (m * ue * 1) (n * de)
    (ap (λ (a : ℕ). a * dd) (mul-one (m * ue)) ∙ e ∙ ap (λ (a : ℕ). a * de) (sym (mul-one (k * ud)) ∙ v) ∙ mul_right_comm n dd de)

same_value : (n : ℕ) (x y : Float) → 0 < n → HasValue y false n 1 → T (eq x y) → HasValue x false n 1
unfolding eq
same_value n x nan p v t = absurd v
same_value n x (inf s) p v t = absurd v
same_value n x (fin true k d) p v t = absurd (true≢false v.0)
same_value n nan (fin false k d) p v t = absurd t
same_value n (inf s) (fin false k d) p v t = absurd t
same_value n (fin s m e) (fin false k d) p v t =
    let a : ℕ = m * up e * down d in
    let b : ℕ = k * up d * down e in
    let size : a ≡ b = eqb→eq a b (and_l (eqb a b) (beq s false || eqb a 0) t) in
    let whole_size : n * down d * down e ≡ b = ap (λ (z : ℕ). z * down e) (sym v.1 ∙ mul-one (k * up d)) in
    let above : 0 < a = subst (λ (z : ℕ). 0 < z) (whole_size ∙ sym size) (mul-pos (mul-pos p (down_pos d)) (down_pos e)) in (
      same_sign s a above (and_r (eqb a b) (beq s false || eqb a 0) t),
      same_size m k n (up e) (down e) (up d) (down d) (down_pos d) v.1 size,
    )

pub equal_whole : (n : ℕ) (x : Float) → 0 < n → n ≤ 2 ^ 53 → T (fits binary64 x) → T (eq x (whole n)) → x ≡ whole n
equal_whole n x p h f t =
    whole_unique binary64 x (whole n) false n f (of_int-fits binary64 (pos n)) (same_value n x (whole n) p (value n h) t) (value n h)

same_as_itself : (n : ℕ) (y : Float) → HasValue y false n 1 → T (eq y y)
unfolding eq
same_as_itself n nan v = absurd v
same_as_itself n (inf s) v = absurd v
same_as_itself n (fin true k d) v = absurd (true≢false v.0)
same_as_itself n (fin false k d) v = and_i (eqb (k * up d * down d) (k * up d * down d)) true (eqb_refl (k * up d * down d)) tt

pub whole_equal : (n : ℕ) → n ≤ 2 ^ 53 → T (eq (whole n) (whole n))
whole_equal n h = same_as_itself n (whole n) (value n h)

-- ---- a whole number, as a float and cut

pub cut_whole : (n : ℕ) → n ≤ 2 ^ 53 → to_unsigned 64 (whole n) ≡ n
unfolding in_float
cut_whole n h = (unsigned_back binary64 64 n (le→leb n (2 ^ 53) h) (omega arith)).1

-- ---- the digits of a float that are left under a mask; whether whole numbers from 20 to 999 have none of them is computed

abbrev pub masked : ℕ → Float → ℕ
masked mask x = bit_and (to_bits binary64 x) mask

abbrev pub MasksAll : ℕ → Type 0
MasksAll mask = listed (λ n. masked mask (whole n)) 980 20 ≡ listed (λ n. 0) 980 20

pub masked_0 : (mask : ℕ) → MasksAll mask → (n : ℕ) → 20 ≤ n → n ≤ 999 → masked mask (whole n) ≡ 0
masked_0 mask all n l u = agree_at (λ k. masked mask (whole k)) (λ k. 0) 0 980 20 all n l (omega arith)
