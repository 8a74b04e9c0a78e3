-- What the proofs of `round_to_i64` and of the remainder cite: an `f64` by the fields of its bit pattern, and what
-- `to_whole` makes of it. With the exponent's field at 1075 or more it is an infinity, a NaN or a whole number, and stays. Below that its magnitude is its
-- digits over 2 ^ cut, or so small that `cut` can be 63.
use mathlib.Core.Path.{◌≡◌, refl, sym, ap, ◌∙◌, subst}
use mathlib.Core.Logic.{◌⊎◌, inl, inr}
use mathlib.Core.Bool.{Bool, true, false, not, cond}
use Prim.Native.Nat.{ℕ, zero, suc, ◌+◌, ◌-◌, ◌*◌, ◌/◌, ◌%◌, ◌^◌, ◌≤◌, ◌<◌}
use native.Mathlib.Nat.{le_trans, le_of_eq, lt_of_lt_of_le, add-mul, mul_left_comm, le_of_suc-le-suc, eq-or-lt_of_le, zero-lt-suc, mul-one, mul_comm, mul_assoc, mul-le-mul_left, mul-pos, div-eq_of_lt, div-lt_iff_lt-mul, mod-lt, suc-mul}
use native.Mathlib.Omega.{arith}
use lib.Dec.{T, leb, ltb, eqb, eqb-suc-zero, not_T, eqb→eq, ltb→lt, nltb→le, lit≤}
use lib.Pow.{pow-add, pow_pos, pow_mono, shl_lt}
use lib.Bits.{bit_and, and_mask}
use lib.Ieee.{Float, nan, inf, fin, binary64, up, down, odd, round, ne, fits, is_nan, of_fields, of_bits, to_bits}
use lib.Ieee.Fits.{down_pos, round-fits}
use lib.Ieee.Bits.{of_bits-to_bits, cond_no}
use lib.Ieee.Exact.{HasValue, odd_sign, round_exact}
use lib.Ieee.Nearest.{div_same}
use lib.Ieee.Back.{whole_unique}
use borrow.Author.Tests.{le-ltb}
use Rattle.signed.specs.Laws.Tests.{yes, no}
use Rattle.float.specs.Whole.{round_of, to_whole, nearer}
use Rattle.float.specs.Digits.{digits_of}
use Rattle.float.specs.Inner.Pattern.{cut_of}
use Rattle.float.proofs.Rounding.{one_shl, whole_value, twice_half}

-- ---- a NaN

same_no_nan : (x : Float) → T (not (ne x x)) → T (not (is_nan x))
unfolding ne is_nan
same_no_nan nan n = absurd n
same_no_nan (inf s) n = tt
same_no_nan (fin s m e) n = tt

pub no_nan : (x : Float) → ne x x ≡ false → T (not (is_nan x))
no_nan x h = same_no_nan x (no h)

-- ---- a float is read from the fields of its pattern

of_bits_is : (b : ℕ) → of_bits binary64 b ≡ of_fields binary64 (leb (2 ^ 63) b) (b % 2 ^ 63 / 2 ^ 52) (b % 2 ^ 52)
unfolding of_bits
of_bits_is b = refl

pub reads : (x : Float) → T (fits binary64 x) → of_fields binary64 (leb (2 ^ 63) (to_bits binary64 x)) (to_bits binary64 x % 2 ^ 63 / 2 ^ 52) (to_bits binary64 x % 2 ^ 52) ≡ x
reads x h = sym (of_bits_is (to_bits binary64 x)) ∙ of_bits-to_bits binary64 x h

pub field_lt : (b : ℕ) → b % 2 ^ 63 / 2 ^ 52 < 2048
field_lt b = (div-lt_iff_lt-mul (pow_pos 52)).1 (mod-lt b (pow_pos 63))

-- the digits, and the exponent from the format's smallest value on, of a field and the digits below the leading one
abbrev pub dig : ℕ → ℕ → ℕ
dig zero t = t
dig (suc x) t = 2 ^ 52 + t

abbrev pub lift : ℕ → ℕ
lift zero = zero
lift (suc x) = x

pub dig_lt : (x t : ℕ) → t < 2 ^ 52 → dig x t < 2 ^ 53
dig_lt zero t h = lt_of_lt_of_le h (pow_mono {i = 52} {j = 53} (omega arith))
dig_lt (suc x) t h = omega arith

pub digits_are : (b : ℕ) → digits_of b ≡ dig (b % 2 ^ 63 / 2 ^ 52) (b % 2 ^ 52)
digits_are b = go (b % 2 ^ 63 / 2 ^ 52)
  where
    go : (x : ℕ) → cond (eqb x 0) (b % 2 ^ 52) (2 ^ 52 + b % 2 ^ 52) ≡ dig x (b % 2 ^ 52)
    go zero = refl
    go (suc x) = ap (λ (c : Bool). cond c (b % 2 ^ 52) (2 ^ 52 + b % 2 ^ 52)) (eqb-suc-zero x)

pub field_value : (s : Bool) (x t : ℕ) → x < 2047 → HasValue (of_fields binary64 s x t) s (dig x t * 2 ^ lift x) (2 ^ 1074)
unfolding of_fields
field_value s zero t h = odd_sign 53 s t 0 1074
field_value s (suc x) t h =
    subst (λ (v : Float). HasValue v s ((2 ^ 52 + t) * 2 ^ x) (2 ^ 1074))
    (sym (cond_no (eqb (suc x) 2047) (cond (eqb t 0) (inf s) nan) (odd 53 s (2 ^ 52 + t) x 1074) (not_T (eqb (suc x) 2047) (λ u. ne' (suc x) h (eqb→eq (suc x) 2047 u)))))
    (odd_sign 53 s (2 ^ 52 + t) x 1074)
  where
    ne' : (a : ℕ) → a < 2047 → a ≡ 2047 → ⊥
    ne' a p q = omega arith

pub lt_2047 : (x : ℕ) → x < 1075 → x < 2047
lt_2047 x h = omega arith

-- ---- `to_whole` at a way to a whole number that sees only the value of the fraction, leaves a whole number as it is, and does not tell small fractions apart

abbrev pub Way : (Bool → ℕ → ℕ → ℕ) → Type 0
Way to =
    ((s : Bool) (a b c d : ℕ) → 0 < b → 0 < d → a * d ≡ c * b → to s a b ≡ to s c d)
    × ((s : Bool) (n : ℕ) → to s n 1 ≡ n)
    × ((s : Bool) (d c : ℕ) → d < 2 ^ 53 → 63 ≤ c → to s d (2 ^ c) ≡ to s d (2 ^ 63))

module _ (to : Bool → ℕ → ℕ → ℕ) (w : Way to) where
  at_value : (x : Float) (s : Bool) (a c : ℕ) → 0 < c → HasValue x s a c → to_whole to x ≡ round binary64 s (to s a c) 1
  at_value nan s a c p v = absurd v
  at_value (inf t) s a c p v = absurd v
  at_value (fin t m e) s a c p v =
      ap (λ (u : Bool). round binary64 u (to u (m * up e) (down e)) 1) v.0
      ∙ ap (λ (n : ℕ). round binary64 s n 1) (w.0 s (m * up e) (down e) a c (down_pos e) p v.1)

  -- the field is 1075 or more: x is a whole number d * 2 ^ (j - 1074)
  large : (x : Float) (s : Bool) (d j : ℕ) → T (fits binary64 x) → d < 2 ^ 53 → 1074 ≤ j → j ≤ 2045 → HasValue x s (d * 2 ^ j) (2 ^ 1074) → to_whole to x ≡ x
  large x s d j F D lo hi v =
      let n = d * 2 ^ (j - 1074) in
      let e : n * 2 ^ 1074 ≡ d * 2 ^ j = mul_assoc d (2 ^ (j - 1074)) (2 ^ 1074) ∙ ap (λ (z : ℕ). d * z) (sym (pow-add 2 (j - 1074) 1074) ∙ ap (λ (z : ℕ). 2 ^ z) back) in
      let v1 : HasValue x s n 1 = whole_value x s n (2 ^ 1074) (pow_pos 1074) (subst (λ (z : ℕ). HasValue x s z (2 ^ 1074)) (sym e) v) in
      at_value x s n 1 (zero-lt-suc 0) v1
      ∙ ap (λ (z : ℕ). round binary64 s z 1) (w.1 s n)
      ∙ whole_unique binary64 (round binary64 s n 1) x s n (round-fits binary64 s n 1) F
      (round_exact binary64 s n 1 d j (zero-lt-suc 0) D (lt_of_lt_of_le (shl_lt 53 j D) (pow_mono fine)) (e ∙ sym (mul-one (d * 2 ^ j))))
      v1
    where
      back : j - 1074 + 1074 ≡ j
      back = omega arith

      fine : 53 + j ≤ 1074 + 1024
      fine = omega arith

  at_top : (s : Bool) (t : ℕ) → to_whole to (of_fields binary64 s 2047 t) ≡ of_fields binary64 s 2047 t
  unfolding of_fields
  at_top s t = go (eqb t 0)
    where
      go : (b : Bool) → to_whole to (cond b (inf s) nan) ≡ cond b (inf s) nan
      go true = refl
      go false = refl

  large_fields : (s : Bool) (x t : ℕ) → T (fits binary64 (of_fields binary64 s x t)) → t < 2 ^ 52 → 1075 ≤ x → x < 2048 → to_whole to (of_fields binary64 s x t) ≡ of_fields binary64 s x t
  large_fields s x t F H lo hi = go x F lo (eq-or-lt_of_le (le_of_suc-le-suc hi))
    where
      lo' : (a : ℕ) → 1075 ≤ suc a → 1074 ≤ a
      lo' a p = omega arith

      hi' : (a : ℕ) → suc a < 2047 → a ≤ 2045
      hi' a p = omega arith

      none : 1075 ≤ 0 → ⊥
      none p = omega arith

      go : (x : ℕ) → T (fits binary64 (of_fields binary64 s x t)) → 1075 ≤ x → (x ≡ 2047) ⊎ (x < 2047) → to_whole to (of_fields binary64 s x t) ≡ of_fields binary64 s x t
      go x F l (inl e) = subst (λ (y : ℕ). to_whole to (of_fields binary64 s y t) ≡ of_fields binary64 s y t) (sym e) (at_top s t)
      go zero F l (inr k) = absurd (none l)
      go (suc y) F l (inr k) = large (of_fields binary64 s (suc y) t) s (2 ^ 52 + t) y F (dig_lt (suc y) t H) (lo' y l) (hi' y k) (field_value s (suc y) t k)

  -- the field is below 1075
  joined : (j : ℕ) → j ≤ 1074 → j + (1074 - j) ≡ 1074
  joined j h = omega arith

  scaled_down : (s : Bool) (d j : ℕ) → j ≤ 1074 → to s (d * 2 ^ j) (2 ^ 1074) ≡ to s d (2 ^ (1074 - j))
  scaled_down s d j h =
      w.0 s (d * 2 ^ j) (2 ^ 1074) d (2 ^ (1074 - j)) (pow_pos 1074) (pow_pos (1074 - j))
      (mul_assoc d (2 ^ j) (2 ^ (1074 - j)) ∙ ap (λ (z : ℕ). d * z) (sym (pow-add 2 j (1074 - j)) ∙ ap (λ (z : ℕ). 2 ^ z) (joined j h)))

  cut_down : (s : Bool) (x d : ℕ) → d < 2 ^ 53 → x < 1075 → to s d (2 ^ (1074 - lift x)) ≡ to s d (2 ^ cut_of x)
  cut_down s x d D h = go (ltb x 1012) refl
    where
      deep : (x : ℕ) → x < 1012 → 63 ≤ 1074 - lift x
      deep zero l = omega arith
      deep (suc x) l = omega arith

      near : (x : ℕ) → 1012 ≤ x → 1074 - lift x ≡ 1075 - x
      near zero l = omega arith
      near (suc x) l = omega arith

      go : (b : Bool) → ltb x 1012 ≡ b → to s d (2 ^ (1074 - lift x)) ≡ to s d (2 ^ cut_of x)
      go true e = w.2 s d (1074 - lift x) D (deep x (ltb→lt x 1012 (yes e))) ∙ ap (λ (c : Bool). to s d (2 ^ cond c 63 (1075 - x))) (sym e)
      go false e = ap (λ (z : ℕ). to s d (2 ^ z)) (near x (nltb→le x 1012 (no e))) ∙ ap (λ (c : Bool). to s d (2 ^ cond c 63 (1075 - x))) (sym e)

  pub cut_fields : (s : Bool) (x t : ℕ) → t < 2 ^ 52 → x < 1075 → to s (dig x t * 2 ^ lift x) (2 ^ 1074) ≡ to s (dig x t) (2 ^ cut_of x)
  cut_fields s x t H l = scaled_down s (dig x t) (lift x) (lift_le x l) ∙ cut_down s x (dig x t) (dig_lt x t H) l
    where
      lift_le : (a : ℕ) → a < 1075 → lift a ≤ 1074
      lift_le zero p = omega arith
      lift_le (suc a) p = omega arith

  small_fields : (s : Bool) (x t : ℕ) → t < 2 ^ 52 → x < 1075 → to_whole to (of_fields binary64 s x t) ≡ round binary64 s (to s (dig x t) (2 ^ cut_of x)) 1
  small_fields s x t H l =
      at_value (of_fields binary64 s x t) s (dig x t * 2 ^ lift x) (2 ^ 1074) (pow_pos 1074) (field_value s x t (lt_2047 x l))
      ∙ ap (λ (n : ℕ). round binary64 s n 1) (cut_fields s x t H l)

  -- the same of an x that the format holds, by its pattern
  module _ (x : Float) (F : T (fits binary64 x)) where
    abbrev b : ℕ
    b = to_bits binary64 x

    stays : 1075 ≤ b % 2 ^ 63 / 2 ^ 52 → to_whole to x ≡ x
    stays l =
        subst (λ (v : Float). to_whole to v ≡ v) (reads x F)
        (large_fields (leb (2 ^ 63) b) (b % 2 ^ 63 / 2 ^ 52) (b % 2 ^ 52) (subst (λ (v : Float). T (fits binary64 v)) (sym (reads x F)) F) (mod-lt b (pow_pos 52)) l (field_lt b))

    made : b % 2 ^ 63 / 2 ^ 52 < 1075 → to_whole to x ≡ round binary64 (leb (2 ^ 63) b) (to (leb (2 ^ 63) b) (digits_of b) (2 ^ cut_of (b % 2 ^ 63 / 2 ^ 52))) 1
    made l =
        ap (to_whole to) (sym (reads x F))
        ∙ small_fields (leb (2 ^ 63) b) (b % 2 ^ 63 / 2 ^ 52) (b % 2 ^ 52) (mod-lt b (pow_pos 52)) l
        ∙ ap (λ (d : ℕ). round binary64 (leb (2 ^ 63) b) (to (leb (2 ^ 63) b) d (2 ^ cut_of (b % 2 ^ 63 / 2 ^ 52))) 1) (sym (digits_are b))

-- ---- the two ways

digits_in : (d c : ℕ) → d < 2 ^ 53 → 63 ≤ c → d < 2 ^ c
digits_in d c D h = lt_of_lt_of_le D (pow_mono {i = 53} (le_trans (lit≤ tt) h))

pub down_deep : (d c : ℕ) → d < 2 ^ 53 → 63 ≤ c → d / 2 ^ c ≡ d / 2 ^ 63
down_deep d c D h = div-eq_of_lt (digits_in d c D h) ∙ sym (div-eq_of_lt (digits_in d 63 D (lit≤ tt)))

near_cross : (a b c d : ℕ) → a * d ≡ c * b → (2 * a + b) * (2 * d) ≡ (2 * c + d) * (2 * b)
near_cross a b c d e =
    add-mul (2 * a) b (2 * d)
    ∙ ap (λ (z : ℕ). z + b * (2 * d)) (four a d ∙ ap (λ (z : ℕ). 4 * z) e ∙ sym (four c b))
    ∙ ap (λ (z : ℕ). 2 * c * (2 * b) + z) (mul_left_comm b 2 d ∙ ap (λ (z : ℕ). 2 * z) (mul_comm b d) ∙ sym (mul_left_comm d 2 b))
    ∙ sym (add-mul (2 * c) d (2 * b))
  where
    four : (a d : ℕ) → 2 * a * (2 * d) ≡ 4 * (a * d)
    four a d = mul_assoc 2 a (2 * d) ∙ ap (λ (z : ℕ). 2 * z) (mul_left_comm a 2 d) ∙ sym (mul_assoc 2 2 (a * d))

near_deep : (d c : ℕ) → d < 2 ^ 53 → 63 ≤ c → (2 * d + 2 ^ c) / (2 * 2 ^ c) ≡ 0
near_deep d c D h = div-eq_of_lt (go d (2 ^ c) (lt_of_lt_of_le (shl_lt 53 1 D) (pow_mono {i = 54} (le_trans (lit≤ tt) h))))
  where
    go : (d p : ℕ) → d * 2 < p → 2 * d + p < 2 * p
    go d p k = omega arith

pub nearer_way : Way nearer
nearer_way = (same, whole, deep)
  where
    same : (s : Bool) (a b c d : ℕ) → 0 < b → 0 < d → a * d ≡ c * b → nearer s a b ≡ nearer s c d
    same s a b c d B D e = div_same (2 * a + b) (2 * b) (2 * c + d) (2 * d) (mul-pos (zero-lt-suc 1) B) (mul-pos (zero-lt-suc 1) D) (near_cross a b c d e)

    whole : (s : Bool) (n : ℕ) → nearer s n 1 ≡ n
    whole s n = go n
      where
        go : (n : ℕ) → (2 * n + 1) / 2 ≡ n
        go n = omega arith

    deep : (s : Bool) (d c : ℕ) → d < 2 ^ 53 → 63 ≤ c → nearer s d (2 ^ c) ≡ nearer s d (2 ^ 63)
    deep s d c D h = near_deep d c D h ∙ sym (near_deep d 63 D (lit≤ tt))

-- ---- what the machine works out

pub field_is : (b : ℕ) → bit_and b (2 ^ 63 - 1) / 2 ^ 52 ≡ b % 2 ^ 63 / 2 ^ 52
field_is b = ap (λ (k : ℕ). k / 2 ^ 52) (and_mask b 63)

pub cut_near : (x : ℕ) → 1012 ≤ x → 1075 - x ≡ cut_of x
cut_near x h = sym (ap (λ (c : Bool). cond c 63 (1075 - x)) (le-ltb x 1012 h))

pub cut_none : (x : ℕ) → 1075 ≤ x → 0 ≡ cut_of x
cut_none x h = none ∙ cut_near x past
  where
    none : 0 ≡ 1075 - x
    none = omega arith

    past : 1012 ≤ x
    past = omega arith

module _ (b d k : ℕ) (l : bit_and b (2 ^ 63 - 1) / 2 ^ 52 < 1075) (ed : d ≡ digits_of b) (ek : k ≡ cut_of (bit_and b (2 ^ 63 - 1) / 2 ^ 52)) where
  cut_in : (y : ℕ) → y < 1075 → (1 ≤ cut_of y) × (cut_of y < 64)
  cut_in y h = go (ltb y 1012) (nltb→le y 1012)
    where
      go : (t : Bool) → (T (not t) → 1012 ≤ y) → (1 ≤ cond t 63 (1075 - y)) × (cond t 63 (1075 - y) < 64)
      go true f = omega arith
      go false f = let g : 1012 ≤ y = f tt in omega arith

  pub k_pos : 1 ≤ k
  k_pos = subst (λ (z : ℕ). 1 ≤ z) (sym ek) (cut_in (bit_and b (2 ^ 63 - 1) / 2 ^ 52) l).0

  pub k_lt : k < 64
  k_lt = subst (λ (z : ℕ). z < 64) (sym ek) (cut_in (bit_and b (2 ^ 63 - 1) / 2 ^ 52) l).1

  k_less : k - 1 < 64
  k_less = go k_lt
    where
      go : k < 64 → k - 1 < 64
      go h = omega arith

  d_lt : d < 2 ^ 53
  d_lt = subst (λ (z : ℕ). z < 2 ^ 53) (sym (ed ∙ digits_are b)) (dig_lt (b % 2 ^ 63 / 2 ^ 52) (b % 2 ^ 52) (mod-lt b (pow_pos 52)))

  half_pow : 2 ^ (k - 1) ≤ 2 ^ k
  half_pow = pow_mono (go k)
    where
      go : (a : ℕ) → a - 1 ≤ a
      go a = omega arith

  -- what is shifted down has at most 53 digits left
  few : (a : ℕ) → a < 2 ^ 53 + 2 ^ k → a / 2 ^ k ≤ 2 ^ 53
  few a h =
      le_of_suc-le-suc ((div-lt_iff_lt-mul (pow_pos k)).1
      (lt_of_lt_of_le h (le_trans (go (2 ^ 53) (2 ^ k) (2 ^ 53 * 2 ^ k) (le_trans (le_of_eq (sym (mul-one (2 ^ 53)))) (mul-le-mul_left (2 ^ 53) (pow_pos k)))) (le_of_eq (sym (suc-mul (2 ^ 53) (2 ^ k)))))))
    where
      go : (x p y : ℕ) → x ≤ y → x + p ≤ y + p
      go x p y i = omega arith

  pub near_le : (d + 1 * 2 ^ (k - 1) % 2 ^ 64) / 2 ^ k ≤ 2 ^ 53
  near_le = few (d + 1 * 2 ^ (k - 1) % 2 ^ 64) (subst (λ (z : ℕ). d + z < 2 ^ 53 + 2 ^ k) (sym (one_shl (k - 1) k_less)) (go (2 ^ (k - 1)) (2 ^ k) half_pow d_lt))
    where
      go : (q p : ℕ) → q ≤ p → d < 2 ^ 53 → d + q < 2 ^ 53 + p
      go q p h i = omega arith

  -- the machine's way to the nearest: a half is added, and the rest cut off
  pub near_is : (d + 1 * 2 ^ (k - 1) % 2 ^ 64) / 2 ^ k ≡ (2 * d + 2 ^ k) / (2 * 2 ^ k)
  near_is =
      let h = 2 ^ (k - 1) in
      ap (λ (z : ℕ). (d + z) / 2 ^ k) (one_shl (k - 1) k_less)
      ∙ div_same (d + h) (2 ^ k) (2 * d + 2 ^ k) (2 * 2 ^ k) (pow_pos k) (mul-pos (zero-lt-suc 1) (pow_pos k))
      (sym (mul_assoc (d + h) 2 (2 ^ k)) ∙ ap (λ (z : ℕ). z * 2 ^ k) (go h (2 ^ k) (twice_half k k_pos)))
    where
      go : (h p : ℕ) → h * 2 ≡ p → (d + h) * 2 ≡ 2 * d + p
      go h p e = omega arith

  pub made_at : (to : Bool → ℕ → ℕ → ℕ) → Way to → (x : Float) → T (fits binary64 x) → b ≡ to_bits binary64 x → (s : Bool) → leb (2 ^ 63) b ≡ s → to_whole to x ≡ round binary64 s (to s d (2 ^ k)) 1
  made_at to w x F eb s es =
      let f = bit_and b (2 ^ 63 - 1) / 2 ^ 52 in
      let l' : to_bits binary64 x % 2 ^ 63 / 2 ^ 52 < 1075 = subst (λ (z : ℕ). z < 1075) (field_is b ∙ ap (λ (z : ℕ). z % 2 ^ 63 / 2 ^ 52) eb) l in
      made to w x F l'
      ∙ ap (λ (z : ℕ). round binary64 (leb (2 ^ 63) z) (to (leb (2 ^ 63) z) (digits_of z) (2 ^ cut_of (z % 2 ^ 63 / 2 ^ 52))) 1) (sym eb)
      ∙ ap (λ (t : Bool). round binary64 t (to t (digits_of b) (2 ^ cut_of (b % 2 ^ 63 / 2 ^ 52))) 1) es
      ∙ ap (λ (z : ℕ). round binary64 s (to s z (2 ^ cut_of (b % 2 ^ 63 / 2 ^ 52))) 1) (sym ed)
      ∙ ap (λ (z : ℕ). round binary64 s (to s d (2 ^ z)) 1) (sym (ek ∙ ap cut_of (field_is b)))

-- ---- where rounding changes nothing

module _ (x : Float) (F : T (fits binary64 x)) where
  pub round-stays : 1075 ≤ bit_and (to_bits binary64 x) (2 ^ 63 - 1) / 2 ^ 52 → x ≡ round_of x
  unfolding round_of
  round-stays l = sym (stays nearer nearer_way x F (subst (λ (z : ℕ). 1075 ≤ z) (field_is (to_bits binary64 x)) l))
