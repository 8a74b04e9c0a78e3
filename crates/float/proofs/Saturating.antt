-- What the proof of `round_to_i64` cites: what `signed_of` makes of a size, and that `to_signed 63` makes the same of a
-- float: of its digits, cut by `cut_of` or with zeros behind them by `up_of`. From the exponent's field 1086 on the size is past the range, and so are the
-- digits with 11 zeros.
use mathlib.Core.Path.{◌≡◌, refl, sym, ap, ◌∙◌, subst}
use mathlib.Core.Logic.{◌⊎◌, inl, inr}
use mathlib.Core.Bool.{Bool, true, false, not, cond, true≢false}
use Prim.Native.Nat.{ℕ, zero, suc, ◌+◌, ◌-◌, ◌*◌, ◌/◌, ◌%◌, ◌^◌, ◌≤◌, ◌<◌, min}
use native.Mathlib.Nat.{le_trans, lt_of_lt_of_le, lt_of_le_of_lt, le_of_suc-le-suc, eq-or-lt_of_le, mul-one, mul_assoc, mul-le-mul_left, mul-le-mul_right, add-zero, div-one, div-le_self, mul-div_cancel, mod-lt, mod-eq_of_lt}
use native.Mathlib.Omega.{arith}
use lib.IntN.{pos, neg_ℤ}
use lib.Dec.{T, leb, ltb, eqb, ltb→lt, nltb→le, lit≤, lit<}
use lib.Pow.{pow-add, pow_pos, pow_mono, shl_lt}
use lib.Bits.{bit_and}
use lib.Ieee.{Float, nan, inf, fin, binary64, up, down, fits, is_nan, round, of_fields, to_bits, to_signed}
use lib.Ieee.Fits.{down_pos}
use lib.Ieee.Exact.{HasValue}
use lib.Ieee.Nearest.{div_same}
use lib.Ieee.Back.{round_whole}
use Rattle.float.specs.Whole.{round_of, nearer}
use Rattle.float.specs.Digits.{digits_of}
use Rattle.float.specs.Inner.Pattern.{cut_of, up_of, signed_of}
use Rattle.float.proofs.Fields.{reads, field_lt, dig, lift, dig_lt, digits_are, field_value, field_is, lt_2047, Way, cut_fields, down_deep, cut_none, nearer_way, near_le, near_is, k_pos, made_at, round-stays}
use Rattle.float.proofs.Rounding.{one_shl, twice_half}

-- ---- what `with_sign` works out

pub below : (n c : ℕ) → n < c → min n c ≡ n
below n c h = omega arith

past : (n c : ℕ) → c ≤ n → min n c ≡ c
past n c h = omega arith

past_less : (n c : ℕ) → c ≤ n → min n (c - 1) ≡ c - 1
past_less n c h = omega arith

-- ---- sizes past the range are all alike

alike : (s : Bool) (n m : ℕ) → 2 ^ 63 ≤ n → 2 ^ 63 ≤ m → signed_of s n ≡ signed_of s m
alike true n m h k = ap (λ (z : ℕ). neg_ℤ (pos z)) (past n (2 ^ 63) h ∙ sym (past m (2 ^ 63) k))
alike false n m h k = ap pos (past_less n (2 ^ 63) h ∙ sym (past_less m (2 ^ 63) k))

-- ---- the whole part of a float, by the fields of its pattern

at_signed : (x : Float) (s : Bool) (a c : ℕ) → 0 < c → HasValue x s a c → to_signed 63 x ≡ signed_of s (a / c)
unfolding to_signed
at_signed nan s a c p v = absurd v
at_signed (inf t) s a c p v = absurd v
at_signed (fin t m e) s a c p v =
    ap (λ (u : Bool). signed_of u (m * up e / down e)) v.0
    ∙ ap (λ (n : ℕ). signed_of s n) (div_same (m * up e) (down e) a c (down_pos e) p v.1)

whole_way : Way (λ s a b. a / b)
whole_way = (λ s a b c d B D e. div_same a b c d B D e, λ s n. div-one n, λ s d c D h. down_deep d c D h)

-- as the machine has it
abbrev machine : ℕ → ℕ → ℕ
machine x d = d / 2 ^ cut_of x * 2 ^ up_of x % 2 ^ 64

no_zeros : (x : ℕ) → x < 1075 → up_of x ≡ 0
no_zeros x h = omega arith

machine_low : (x d : ℕ) → d < 2 ^ 53 → x < 1075 → machine x d ≡ d / 2 ^ cut_of x
machine_low x d D l =
    ap (λ (z : ℕ). d / 2 ^ cut_of x * 2 ^ z % 2 ^ 64) (no_zeros x l)
    ∙ ap (λ (z : ℕ). z % 2 ^ 64) (mul-one (d / 2 ^ cut_of x))
    ∙ mod-eq_of_lt (lt_of_le_of_lt (div-le_self d (2 ^ cut_of x)) (lt_of_lt_of_le D (lit≤ tt)))

machine_high : (x d : ℕ) → d < 2 ^ 53 → 1075 ≤ x → machine x d ≡ d * 2 ^ up_of x
machine_high x d D l =
    ap (λ (z : ℕ). d / 2 ^ z * 2 ^ up_of x % 2 ^ 64) (sym (cut_none x l))
    ∙ ap (λ (z : ℕ). z * 2 ^ up_of x % 2 ^ 64) (div-one d)
    ∙ mod-eq_of_lt (lt_of_lt_of_le (shl_lt 53 (up_of x) D) (pow_mono (go x)))
  where
    go : (a : ℕ) → 53 + min (a - 1075) 11 ≤ 64
    go a = omega arith

-- from the field 1075 on, which is y + 1, the size is the digits with y - 1074 zeros
zeros : (d y : ℕ) → 1074 ≤ y → d * 2 ^ y / 2 ^ 1074 ≡ d * 2 ^ (y - 1074)
zeros d y l =
    ap (λ (z : ℕ). d * 2 ^ z / 2 ^ 1074) (sym back)
    ∙ ap (λ (z : ℕ). d * z / 2 ^ 1074) (pow-add 2 (y - 1074) 1074)
    ∙ ap (λ (z : ℕ). z / 2 ^ 1074) (sym (mul_assoc d (2 ^ (y - 1074)) (2 ^ 1074)))
    ∙ mul-div_cancel (d * 2 ^ (y - 1074)) (pow_pos 1074)
  where
    back : y - 1074 + 1074 ≡ y
    back = omega arith

-- the leading digit and 11 zeros
large : (d k : ℕ) → 2 ^ 52 ≤ d → 11 ≤ k → 2 ^ 63 ≤ d * 2 ^ k
large d k h l = le_trans (mul-le-mul_right (2 ^ 11) h) (mul-le-mul_left d (pow_mono l))

lead : (t : ℕ) → 2 ^ 52 ≤ 2 ^ 52 + t
lead t = omega arith

high : (s : Bool) (y t : ℕ) → t < 2 ^ 52 → 1074 ≤ y → suc y < 2047 → to_signed 63 (of_fields binary64 s (suc y) t) ≡ signed_of s (machine (suc y) (2 ^ 52 + t))
high s y t H lo hi =
    at_signed (of_fields binary64 s (suc y) t) s ((2 ^ 52 + t) * 2 ^ y) (2 ^ 1074) (pow_pos 1074) (field_value s (suc y) t hi)
    ∙ ap (λ (n : ℕ). signed_of s n) (zeros (2 ^ 52 + t) y lo)
    ∙ go (ltb y 1085) (ltb→lt y 1085) (nltb→le y 1085)
    ∙ ap (λ (n : ℕ). signed_of s n) (sym (machine_high (suc y) (2 ^ 52 + t) (dig_lt (suc y) t H) (suc_le y lo)))
  where
    suc_le : (a : ℕ) → 1074 ≤ a → 1075 ≤ suc a
    suc_le a p = omega arith

    same : (a : ℕ) → a < 1085 → a - 1074 ≡ min (suc a - 1075) 11
    same a p = omega arith

    eleven : (a : ℕ) → 1085 ≤ a → 11 ≤ a - 1074
    eleven a p = omega arith

    eleven' : (a : ℕ) → 1085 ≤ a → 11 ≤ min (suc a - 1075) 11
    eleven' a p = omega arith

    go : (b : Bool) → (T b → y < 1085) → (T (not b) → 1085 ≤ y) → signed_of s ((2 ^ 52 + t) * 2 ^ (y - 1074)) ≡ signed_of s ((2 ^ 52 + t) * 2 ^ up_of (suc y))
    go true f g = ap (λ (z : ℕ). signed_of s ((2 ^ 52 + t) * 2 ^ z)) (same y (f tt))
    go false f g = alike s _ _ (large (2 ^ 52 + t) (y - 1074) (lead t) (eleven y (g tt))) (large (2 ^ 52 + t) (up_of (suc y)) (lead t) (eleven' y (g tt)))

at_top : (s : Bool) (t : ℕ) → t < 2 ^ 52 → T (not (is_nan (of_fields binary64 s 2047 t))) → to_signed 63 (of_fields binary64 s 2047 t) ≡ signed_of s (machine 2047 (2 ^ 52 + t))
unfolding of_fields is_nan to_signed
at_top s t H N = go (eqb t 0) N ∙ alike s (2 ^ 63) _ (lit≤ tt) (subst (λ (z : ℕ). 2 ^ 63 ≤ z) (sym (machine_high 2047 (2 ^ 52 + t) (dig_lt 2047 t H) (lit≤ tt))) (large (2 ^ 52 + t) 11 (lead t) (lit≤ tt)))
  where
    ends : (s : Bool) → to_signed 63 (inf s) ≡ signed_of s (2 ^ 63)
    ends true = refl
    ends false = refl

    go : (b : Bool) → T (not (is_nan (cond b (inf s) nan))) → to_signed 63 (cond b (inf s) nan) ≡ signed_of s (2 ^ 63)
    go true n = ends s
    go false n = absurd n

by_fields : (s : Bool) (x t : ℕ) → t < 2 ^ 52 → x < 2048 → T (not (is_nan (of_fields binary64 s x t))) → to_signed 63 (of_fields binary64 s x t) ≡ signed_of s (machine x (dig x t))
by_fields s x t H hi N = go x N (eq-or-lt_of_le (le_of_suc-le-suc hi)) (ltb x 1075) (ltb→lt x 1075) (nltb→le x 1075)
  where
    lo' : (a : ℕ) → 1075 ≤ suc a → 1074 ≤ a
    lo' a p = omega arith

    none : 1075 ≤ 0 → ⊥
    none p = omega arith

    low : (x : ℕ) → x < 1075 → to_signed 63 (of_fields binary64 s x t) ≡ signed_of s (machine x (dig x t))
    low x l =
        at_signed (of_fields binary64 s x t) s (dig x t * 2 ^ lift x) (2 ^ 1074) (pow_pos 1074) (field_value s x t (lt_2047 x l))
        ∙ ap (λ (n : ℕ). signed_of s n) (cut_fields (λ s a b. a / b) whole_way s x t H l ∙ sym (machine_low x (dig x t) (dig_lt x t H) l))

    go : (x : ℕ) → T (not (is_nan (of_fields binary64 s x t))) → (x ≡ 2047) ⊎ (x < 2047) → (b : Bool) → (T b → x < 1075) → (T (not b) → 1075 ≤ x) → to_signed 63 (of_fields binary64 s x t) ≡ signed_of s (machine x (dig x t))
    go x N e true f g = low x (f tt)
    go zero N e false f g = absurd (none (g tt))
    go (suc y) N (inl e) false f g =
        subst (λ (z : ℕ). T (not (is_nan (of_fields binary64 s z t))) → to_signed 63 (of_fields binary64 s z t) ≡ signed_of s (machine z (dig z t))) (sym e) (at_top s t H) N
    go (suc y) N (inr l) false f g = high s y t H (lo' y (g tt)) l

pub cut_lt : (x k : ℕ) → k ≡ cut_of x → k < 64
cut_lt x k e = subst (λ (z : ℕ). z < 64) (sym e) (go (ltb x 1012) (nltb→le x 1012))
  where
    near : 1012 ≤ x → 1075 - x < 64
    near h = omega arith

    go : (t : Bool) → (T (not t) → 1012 ≤ x) → cond t 63 (1075 - x) < 64
    go true f = lit< tt
    go false f = near (f tt)

-- ---- the cut, and the half that rounding adds

module _ (b d k : ℕ) (ed : d ≡ digits_of b) (K : k < 64) where
  digits_lt : d < 2 ^ 53
  digits_lt = subst (λ (z : ℕ). z < 2 ^ 53) (sym (ed ∙ digits_are b)) (dig_lt (b % 2 ^ 63 / 2 ^ 52) (b % 2 ^ 52) (mod-lt b (pow_pos 52)))

  pub half_fits : d + 1 * 2 ^ k % 2 ^ 64 / 2 < 2 ^ 64
  half_fits = subst (λ (z : ℕ). d + z / 2 < 2 ^ 64) (sym (one_shl k K)) (go (2 ^ k) (pow_mono (le_of_suc-le-suc K)) digits_lt)
    where
      go : (p : ℕ) → p ≤ 2 ^ 63 → d < 2 ^ 53 → d + p / 2 < 2 ^ 64
      go p h i = omega arith

  half_is : 0 < k → (d + 1 * 2 ^ k % 2 ^ 64 / 2) / 2 ^ k ≡ (d + 1 * 2 ^ (k - 1) % 2 ^ 64) / 2 ^ k
  half_is p = ap (λ (z : ℕ). (d + z) / 2 ^ k) (ap (λ (z : ℕ). z / 2) (one_shl k K ∙ sym (twice_half k p)) ∙ go (2 ^ (k - 1)) ∙ sym (one_shl (k - 1) (less k K)))
    where
      go : (a : ℕ) → a * 2 / 2 ≡ a
      go a = omega arith

      less : (a : ℕ) → a < 64 → a - 1 < 64
      less a h = omega arith

  none_is : k ≡ 0 → (d + 1 * 2 ^ k % 2 ^ 64 / 2) / 2 ^ k ≡ d / 2 ^ k
  none_is e = ap (λ (z : ℕ). (d + 1 * 2 ^ z % 2 ^ 64 / 2) / 2 ^ k) e ∙ ap (λ (z : ℕ). z / 2 ^ k) (add-zero d)

-- a whole number of few digits
at_whole : (s : Bool) (w : ℕ) → w ≤ 2 ^ 53 → to_signed 63 (round binary64 s w 1) ≡ signed_of s w
at_whole s w h = at_signed (round binary64 s w 1) s w 1 (lit< tt) (round_whole binary64 s w h) ∙ ap (λ (n : ℕ). signed_of s n) (div-one w)

-- ---- what `to_i64` and `round_to_i64` return

module _ (x : Float) (F : T (fits binary64 x)) (N : T (not (is_nan x))) (d k u : ℕ) where
  abbrev b : ℕ
  b = to_bits binary64 x

  abbrev s : Bool
  s = leb (2 ^ 63) b

  abbrev field : ℕ
  field = bit_and b (2 ^ 63 - 1) / 2 ^ 52

  module _ (ed : d ≡ digits_of b) (ek : k ≡ cut_of field) (eu : u ≡ up_of field) where
    pub whole_part : signed_of s (d / 2 ^ k * 2 ^ u % 2 ^ 64) ≡ to_signed 63 x
    whole_part =
        let f = b % 2 ^ 63 / 2 ^ 52 in
        let t = b % 2 ^ 52 in
        ap (λ (z : ℕ). signed_of s (z / 2 ^ k * 2 ^ u % 2 ^ 64)) (ed ∙ digits_are b)
        ∙ ap (λ (z : ℕ). signed_of s (dig f t / 2 ^ z * 2 ^ u % 2 ^ 64)) (ek ∙ ap cut_of (field_is b))
        ∙ ap (λ (z : ℕ). signed_of s (dig f t / 2 ^ cut_of f * 2 ^ z % 2 ^ 64)) (eu ∙ ap up_of (field_is b))
        ∙ sym (by_fields s f t (mod-lt b (pow_pos 52)) (field_lt b) (subst (λ (v : Float). T (not (is_nan v))) (sym (reads x F)) N))
        ∙ ap (to_signed 63) (reads x F)

    abbrev near : ℕ
    near = (d + 1 * 2 ^ k % 2 ^ 64 / 2) / 2 ^ k

    below_1075 : field < 1075 → signed_of s (near * 2 ^ u % 2 ^ 64) ≡ to_signed 63 (round_of x)
    unfolding round_of
    below_1075 l =
        let w = (d + 1 * 2 ^ (k - 1) % 2 ^ 64) / 2 ^ k in
        let small : w ≤ 2 ^ 53 = near_le b d k l ed ek in
        ap (λ (z : ℕ). signed_of s (near * 2 ^ z % 2 ^ 64)) (eu ∙ no_zeros field l)
        ∙ ap (λ (z : ℕ). signed_of s (z % 2 ^ 64)) (mul-one near ∙ half_is b d k ed (cut_lt field k ek) (k_pos b d k l ed ek))
        ∙ ap (λ (z : ℕ). signed_of s z) (mod-eq_of_lt (lt_of_le_of_lt small (lit< tt)))
        ∙ sym (at_whole s w small)
        ∙ ap (λ (z : ℕ). to_signed 63 (round binary64 s z 1)) (near_is b d k l ed ek)
        ∙ sym (ap (to_signed 63) (made_at b d k l ed ek nearer nearer_way x F refl s refl))

    from_1075 : 1075 ≤ field → signed_of s (near * 2 ^ u % 2 ^ 64) ≡ to_signed 63 (round_of x)
    from_1075 l =
        ap (λ (z : ℕ). signed_of s (z * 2 ^ u % 2 ^ 64)) (none_is b d k ed (cut_lt field k ek) (ek ∙ sym (cut_none field l)))
        ∙ whole_part
        ∙ ap (to_signed 63) (round-stays x F l)

    pub rounded_part : signed_of s (near * 2 ^ u % 2 ^ 64) ≡ to_signed 63 (round_of x)
    rounded_part = go (ltb field 1075) (ltb→lt field 1075) (nltb→le field 1075)
      where
        go : (t : Bool) → (T t → field < 1075) → (T (not t) → 1075 ≤ field) → signed_of s (near * 2 ^ u % 2 ^ 64) ≡ to_signed 63 (round_of x)
        go true f g = below_1075 (f tt)
        go false f g = from_1075 (g tt)

-- ---- a NaN

-- a NaN stays one, and is cast to 0
pub nan_rounds : (x : Float) → is_nan x ≡ true → pos 0 ≡ to_signed 63 (round_of x)
unfolding is_nan round_of to_signed
nan_rounds nan e = refl
nan_rounds (inf t) e = absurd (true≢false (sym e))
nan_rounds (fin t m k) e = absurd (true≢false (sym e))
