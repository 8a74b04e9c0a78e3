-- A finite float's size in units of the smallest value, and what the operations on floats make of two such sizes.
use mathlib.Core.Path.{◌≡◌, refl, sym, ap, ◌∙◌, subst}
use mathlib.Core.Logic.{inl, inr}
use mathlib.Core.Bool.{Bool, true, false, not, cond, ◌&&◌}
use Prim.Native.Nat.{ℕ, zero, suc, ◌+◌, ◌-◌, ◌*◌, ◌/◌, ◌%◌, ◌^◌, ◌≤◌, ◌<◌}
use native.Mathlib.Nat.{lt_irrefl, eq-zero-or-pos, zero-mul, mul-one, mul_comm, mul_assoc, mul_right_comm, mul-mul-mul_comm, mul-pos}
use native.Mathlib.Omega.{arith}
use lib.Dec.{T, leb, eqb, lit<}
use lib.IntN.{ℤ}
use lib.Pow.{pow_pos, pow-add, pow-lt}
use lib.Bits.{bit_and}
use lib.Ieee.{Float, nan, inf, fin, binary64, up, down, unlike, round, neg, sub, mul, div, rem, eq, ne, fits, is_nan, nan_bits, of_fields, of_bits, to_bits}
use lib.Ieee.Bits.{nan_bits_is}
use lib.Ieee.Fits.{up_pos, down_pos}
use lib.Ieee.Exact.{HasValue}
use lib.Ieee.Scale.{round_same}
use lib.Ieee.Positive.{first_pos}
use lib.Ieee.Compare.{differs_from_itself}
use borrow.Author.Tests.{eq-eqb, ne_eqb, lt-leb}
use Rattle.signed.specs.Laws.Tests.{yes}
use Rattle.float.specs.Digits.{digits_of}
use Rattle.float.specs.Laws.Wholes.{mod_scaled}
use Rattle.float.proofs.Fields.{no_nan, reads, field_lt, dig, lift, digits_are, field_value, field_is}

-- ---- a NaN

-- is what differs from itself
differs : (x : Float) → ne x x ≡ is_nan x
unfolding ne eq is_nan
differs nan = refl
differs (inf true) = refl
differs (inf false) = refl
differs (fin true m e) = ap (λ (b : Bool). not (b && true)) (eq-eqb (m * up e * down e) _ refl)
differs (fin false m e) = ap (λ (b : Bool). not (b && true)) (eq-eqb (m * up e * down e) _ refl)

-- what `is_nan` answered, as a test of that
pub tested : (x : Float) {b t : Bool} → b ≡ is_nan x → b ≡ t → ne x x ≡ t
tested x e f = differs x ∙ sym e ∙ f

-- ---- operations on finite numbers of known size

pub neg_value : (x : Float) (a c : ℕ) → HasValue x false a c → HasValue (neg x) true a c
unfolding neg
neg_value nan a c v = v
neg_value (inf s) a c v = v
neg_value (fin s m e) a c v = (ap not v.0, v.1)

-- a number over c, times g, over c and h
cross : (p q h a c : ℕ) → p * c ≡ a * q → p * h * c ≡ a * (q * h)
cross p q h a c e = mul_right_comm p h c ∙ ap (λ (z : ℕ). z * h) e ∙ mul_assoc a q h

like : (s : Bool) → unlike s false ≡ s
like true = refl
like false = refl

pub mul_values : (x y : Float) (s : Bool) (a c b d : ℕ) → 0 < c → 0 < d → HasValue x s a c → HasValue y false b d → mul binary64 x y ≡ round binary64 s (a * b) (c * d)
unfolding mul
mul_values nan y s a c b d C D v w = absurd v
mul_values (inf t) y s a c b d C D v w = absurd v
mul_values (fin t m e) nan s a c b d C D v w = absurd w
mul_values (fin t m e) (inf u) s a c b d C D v w = absurd w
mul_values (fin t m e) (fin u n g) s a c b d C D v w =
    ap (λ (z : Bool). round binary64 (unlike z u) (m * up e * (n * up g)) (down e * down g)) v.0
    ∙ ap (λ (z : Bool). round binary64 (unlike s z) (m * up e * (n * up g)) (down e * down g)) w.0
    ∙ ap (λ (z : Bool). round binary64 z (m * up e * (n * up g)) (down e * down g)) (like s)
    ∙ round_same binary64 s (m * up e * (n * up g)) (down e * down g) (a * b) (c * d) (mul-pos (down_pos e) (down_pos g)) (mul-pos C D)
    (mul-mul-mul_comm (m * up e) (n * up g) c d ∙ ap (λ (z : ℕ). z * (n * up g * d)) v.1 ∙ ap (λ (z : ℕ). a * down e * z) w.1 ∙ mul-mul-mul_comm a (down e) b (down g))

-- two sizes over the same c
module _ (s : Bool) (m n : ℕ) (e g : ℤ) (a b c : ℕ) (B : 0 < b) (C : 0 < c) (v : m * up e * c ≡ a * down e) (w : n * up g * c ≡ b * down g) where
  abbrev over : ℕ
  over = m * up e * down g

  abbrev under : ℕ
  under = n * up g * down e

  abbrev both : ℕ
  both = down e * down g

  some : 0 < n
  some = first_pos n (up g) (first_pos (n * up g) c (subst (λ (z : ℕ). 0 < z) (sym w) (mul-pos B (down_pos g))))

  not_zero : n ≡ 0 → ⊥
  not_zero h = lt_irrefl 0 (subst (λ (z : ℕ). 0 < z) h some)

  rest_is : over % under * c ≡ a % b * both
  rest_is =
      sym (mod_scaled over under c (mul-pos (mul-pos some (up_pos g)) (down_pos e)) C)
      ∙ ap (λ (z : ℕ). z % (under * c)) (cross (m * up e) (down e) (down g) a c v)
      ∙ ap (λ (z : ℕ). a * both % z) (cross (n * up g) (down g) (down e) b c w ∙ ap (λ (z : ℕ). b * z) (mul_comm (down g) (down e)))
      ∙ mod_scaled a b both B (mul-pos (down_pos e) (down_pos g))

  rem_is : cond (eqb n 0) nan (round binary64 s (over % under) both) ≡ round binary64 s (a % b) c
  rem_is =
      ap (λ (z : Bool). cond z nan (round binary64 s (over % under) both)) (ne_eqb n 0 not_zero)
      ∙ round_same binary64 s (over % under) both (a % b) c (mul-pos (down_pos e) (down_pos g)) C rest_is

pub rem_values : (x y : Float) (s t : Bool) (a b c : ℕ) → 0 < b → 0 < c → HasValue x s a c → HasValue y t b c → rem binary64 x y ≡ round binary64 s (a % b) c
unfolding rem
rem_values nan y s t a b c B C v w = absurd v
rem_values (inf u) y s t a b c B C v w = absurd v
rem_values (fin u m e) nan s t a b c B C v w = absurd w
rem_values (fin u m e) (inf r) s t a b c B C v w = absurd w
rem_values (fin u m e) (fin r n g) s t a b c B C v w = rem_is u m n e g a b c B C v.1 w.1 ∙ ap (λ (z : Bool). round binary64 z (a % b) c) v.0

-- ---- what is no number, and a zero

pub nan_left : (x y : Float) → ne x x ≡ true → x ≡ rem binary64 x y
unfolding rem
nan_left x y h =
    let e : x ≡ nan = differs_from_itself x (yes h) in
    e ∙ sym (ap (λ (z : Float). rem binary64 z y) e)

rem_nan : (x : Float) → nan ≡ rem binary64 x nan
unfolding rem
rem_nan nan = refl
rem_nan (inf s) = refl
rem_nan (fin s m e) = refl

pub nan_right : (x y : Float) → ne y y ≡ true → y ≡ rem binary64 x y
nan_right x y h =
    let e : y ≡ nan = differs_from_itself y (yes h) in
    e ∙ rem_nan x ∙ sym (ap (λ (z : Float). rem binary64 x z) e)

-- an infinity less itself
unlike_self : (s : Bool) → sub binary64 (inf s) (inf s) ≡ nan
unfolding sub
unlike_self true = refl
unlike_self false = refl

inf_rem : (s : Bool) (y : Float) → rem binary64 (inf s) y ≡ nan
unfolding rem
inf_rem s y = refl

pub inf_left : (x y : Float) (s : Bool) → x ≡ inf s → sub binary64 x x ≡ rem binary64 x y
inf_left x y s e =
    ap (λ (z : Float). sub binary64 z z) e ∙ unlike_self s ∙ sym (inf_rem s y) ∙ sym (ap (λ (z : Float). rem binary64 z y) e)

fin_inf : (x : Float) (s t : Bool) (a c : ℕ) → HasValue x s a c → x ≡ rem binary64 x (inf t)
unfolding rem
fin_inf nan s t a c v = absurd v
fin_inf (inf u) s t a c v = absurd v
fin_inf (fin u m e) s t a c v = refl

pub inf_right : (x y : Float) (s t : Bool) (a c : ℕ) → HasValue x s a c → y ≡ inf t → x ≡ rem binary64 x y
inf_right x y s t a c v e = fin_inf x s t a c v ∙ sym (ap (λ (z : Float). rem binary64 x z) e)

zero_div : (t : Bool) (n : ℕ) (g : ℤ) → n ≡ 0 → div binary64 (fin t n g) (fin t n g) ≡ nan
unfolding div
zero_div t n g h =
    ap (λ (z : Bool). cond z (cond z nan (inf (unlike t t))) (round binary64 (unlike t t) (n * up g * down g) (n * up g * down g))) (eq-eqb n 0 h)

zero_rem : (x : Float) (s t : Bool) (a c n : ℕ) (g : ℤ) → HasValue x s a c → n ≡ 0 → rem binary64 x (fin t n g) ≡ nan
unfolding rem
zero_rem nan s t a c n g v h = absurd v
zero_rem (inf u) s t a c n g v h = absurd v
zero_rem (fin u m e) s t a c n g v h =
    ap (λ (z : Bool). cond z nan (round binary64 u (m * up e * down g % (n * up g * down e)) (down e * down g))) (eq-eqb n 0 h)

pub zero_right : (x y : Float) (s t : Bool) (a c : ℕ) → HasValue x s a c → 0 < c → HasValue y t 0 c → div binary64 y y ≡ rem binary64 x y
zero_right x nan s t a c v C w = absurd w
zero_right x (inf u) s t a c v C w = absurd w
zero_right x (fin u n g) s t a c v C w = zero_div u n g none ∙ sym (zero_rem x s u a c n g v none)
  where
    none : n ≡ 0
    none = elim (eq-zero-or-pos n) [ inl z ↦ z | inr p ↦ absurd (lt_irrefl 0 (subst (λ (z : ℕ). 0 < z) (w.1 ∙ zero-mul (down g)) (mul-pos (mul-pos p (up_pos g)) C))) ]

-- ---- a float read from its bits

no_number : (s b : Bool) → T (not (is_nan (cond b (inf s) nan))) → cond b (inf s) nan ≡ inf s
unfolding is_nan
no_number s true n = refl
no_number s false n = absurd n

top_field : (s : Bool) (t : ℕ) → T (not (is_nan (of_fields binary64 s 2047 t))) → of_fields binary64 s 2047 t ≡ inf s
unfolding of_fields
top_field s t n = no_number s (eqb t 0) n

module _ (x : Float) (F : T (fits binary64 x)) where
  abbrev bits : ℕ
  bits = to_bits binary64 x

  abbrev field : ℕ
  field = bit_and bits (2 ^ 63 - 1) / 2 ^ 52

  less_one : (f : ℕ) → lift f ≡ f - 1
  less_one zero = refl
  less_one (suc f) = go f
    where
      go : (f : ℕ) → f ≡ suc f - 1
      go f = omega arith

  not_last : (f : ℕ) → f < 2048 → (f ≡ 2047 → ⊥) → f < 2047
  not_last f h n = omega arith

  pub value_of : (field ≡ 2047 → ⊥) → HasValue x (leb (2 ^ 63) bits) (digits_of bits * 2 ^ (field - 1)) (2 ^ 1074)
  value_of n =
      let f = bits % 2 ^ 63 / 2 ^ 52 in
      let t = bits % 2 ^ 52 in
      let s = leb (2 ^ 63) bits in
      let v : HasValue x s (dig f t * 2 ^ lift f) (2 ^ 1074) =
      subst (λ (z : Float). HasValue z s (dig f t * 2 ^ lift f) (2 ^ 1074)) (reads x F) (field_value s f t (not_last f (field_lt bits) (λ e. n (field_is bits ∙ e)))) in
      subst (λ (z : ℕ). HasValue x s z (2 ^ 1074))
      (ap (λ (z : ℕ). dig f t * 2 ^ z) (less_one f ∙ ap (λ (z : ℕ). z - 1) (sym (field_is bits))) ∙ ap (λ (z : ℕ). z * 2 ^ (field - 1)) (sym (digits_are bits)))
      v

  pub infinite : ne x x ≡ false → field ≡ 2047 → x ≡ inf (leb (2 ^ 63) bits)
  infinite n h =
      let s = leb (2 ^ 63) bits in
      let t = bits % 2 ^ 52 in
      let e : of_fields binary64 s 2047 t ≡ x = ap (λ (z : ℕ). of_fields binary64 s z t) (sym (sym (field_is bits) ∙ h)) ∙ reads x F in
      sym e ∙ top_field s t (subst (λ (z : Float). T (not (is_nan z))) (sym e) (no_nan x n))

-- ---- two floats read from their bits

module _ (x y : Float) (F : T (fits binary64 x)) (G : T (fits binary64 y)) (p : field x F ≡ 2047 → ⊥) where
  pub by_infinity : ne y y ≡ false → field y G ≡ 2047 → x ≡ rem binary64 x y
  by_infinity h q = inf_right x y (leb (2 ^ 63) (bits x F)) (leb (2 ^ 63) (bits y G)) (digits_of (bits x F) * 2 ^ (field x F - 1)) (2 ^ 1074) (value_of x F p) (infinite y G h q)

  module _ (q : field y G ≡ 2047 → ⊥) (m : ℕ) (em : m ≡ digits_of (bits y G)) where
    pub by_zero : m ≡ 0 → div binary64 y y ≡ rem binary64 x y
    by_zero h =
        zero_right x y (leb (2 ^ 63) (bits x F)) (leb (2 ^ 63) (bits y G)) (digits_of (bits x F) * 2 ^ (field x F - 1)) (2 ^ 1074) (value_of x F p) (pow_pos 1074)
        (subst (λ (z : ℕ). HasValue y (leb (2 ^ 63) (bits y G)) z (2 ^ 1074)) (ap (λ (z : ℕ). z * 2 ^ (field y G - 1)) (sym em ∙ h) ∙ zero-mul (2 ^ (field y G - 1))) (value_of y G q))

    pub by_finite : (m ≡ 0 → ⊥) → (n k l : ℕ) → n ≡ digits_of (bits x F) → k ≡ field x F - 1 → l ≡ field y G - 1
        → round binary64 (leb (2 ^ 63) (bits x F)) (n * 2 ^ k % (m * 2 ^ l)) (2 ^ 1074) ≡ rem binary64 x y
    by_finite h n k l en ek el =
        sym (rem_values x y (leb (2 ^ 63) (bits x F)) (leb (2 ^ 63) (bits y G)) (n * 2 ^ k) (m * 2 ^ l) (2 ^ 1074) (mul-pos some (pow_pos l)) (pow_pos 1074)
        (subst (λ (z : ℕ). HasValue x (leb (2 ^ 63) (bits x F)) z (2 ^ 1074)) (ap (λ (z : ℕ). z * 2 ^ (field x F - 1)) (sym en) ∙ ap (λ (z : ℕ). n * 2 ^ z) (sym ek)) (value_of x F p))
        (subst (λ (z : ℕ). HasValue y (leb (2 ^ 63) (bits y G)) z (2 ^ 1074)) (ap (λ (z : ℕ). z * 2 ^ (field y G - 1)) (sym em) ∙ ap (λ (z : ℕ). m * 2 ^ z) (sym el)) (value_of y G q)))
      where
        some : 0 < m
        some = elim (eq-zero-or-pos m) [ inl z ↦ absurd (h z) | inr s ↦ s ]

-- ---- a power of two by its bits

of_bits_is : (b : ℕ) → of_bits binary64 b ≡ of_fields binary64 (leb (2 ^ 63) b) (b % 2 ^ 63 / 2 ^ 52) (b % 2 ^ 52)
unfolding of_bits
of_bits_is b = refl

at_fields : (x t : ℕ) → t < 2 ^ 52 → x < 2047 → HasValue (of_bits binary64 (x * 2 ^ 52 + t)) false (dig x t * 2 ^ lift x) (2 ^ 1074)
at_fields x t H h =
    let b = x * 2 ^ 52 + t in
    subst (λ (z : Float). HasValue z false (dig x t * 2 ^ lift x) (2 ^ 1074))
    (sym (of_bits_is b
    ∙ ap (λ (z : Bool). of_fields binary64 z (b % 2 ^ 63 / 2 ^ 52) (b % 2 ^ 52)) (lt-leb (2 ^ 63) b small)
    ∙ ap (λ (z : ℕ). of_fields binary64 false z (b % 2 ^ 52)) upper
    ∙ ap (λ (z : ℕ). of_fields binary64 false x z) lower))
    (field_value false x t h)
  where
    small : x * 2 ^ 52 + t < 2 ^ 63
    small = omega arith

    upper : (x * 2 ^ 52 + t) % 2 ^ 63 / 2 ^ 52 ≡ x
    upper = omega arith

    lower : (x * 2 ^ 52 + t) % 2 ^ 52 ≡ t
    lower = omega arith

pub low_power : (k : ℕ) → k < 52 → HasValue (of_bits binary64 (1 * 2 ^ k % 2 ^ 64)) false (2 ^ k) (2 ^ 1074)
low_power k h =
    subst (λ (z : ℕ). HasValue (of_bits binary64 (1 * 2 ^ k % 2 ^ 64)) false z (2 ^ 1074)) (mul-one (2 ^ k))
    (subst (λ (z : ℕ). HasValue (of_bits binary64 z) false (2 ^ k * 1) (2 ^ 1074)) (machine (2 ^ k) (pow-lt h)) (at_fields 0 (2 ^ k) (pow-lt h) (lit< tt)))
  where
    machine : (p : ℕ) → p < 2 ^ 52 → 0 * 2 ^ 52 + p ≡ 1 * p % 2 ^ 64
    machine p l = omega arith

pub high_power : (k : ℕ) → 52 ≤ k → k < 2046 → HasValue (of_bits binary64 ((k - 51) * 2 ^ 52 % 2 ^ 64)) false (2 ^ k) (2 ^ 1074)
high_power k l h =
    subst (λ (z : ℕ). HasValue (of_bits binary64 ((k - 51) * 2 ^ 52 % 2 ^ 64)) false z (2 ^ 1074)) (weight (k - 51) field ∙ ap (λ (z : ℕ). 2 ^ z) back)
    (subst (λ (z : ℕ). HasValue (of_bits binary64 z) false (dig (k - 51) 0 * 2 ^ lift (k - 51)) (2 ^ 1074)) machine (at_fields (k - 51) 0 (lit< tt) top))
  where
    field : 0 < k - 51
    field = omega arith

    top : k - 51 < 2047
    top = omega arith

    back : k - 51 + 51 ≡ k
    back = omega arith

    machine : (k - 51) * 2 ^ 52 + 0 ≡ (k - 51) * 2 ^ 52 % 2 ^ 64
    machine = omega arith

    weight : (x : ℕ) → 0 < x → dig x 0 * 2 ^ lift x ≡ 2 ^ (x + 51)
    weight zero p = absurd (lt_irrefl 0 p)
    weight (suc x) p = sym (pow-add 2 52 x) ∙ ap (λ (z : ℕ). 2 ^ z) (go x)
      where
        go : (x : ℕ) → 52 + x ≡ suc x + 51
        go x = omega arith

valued : (x : Float) (s : Bool) (a c : ℕ) → HasValue x s a c → T (not (is_nan x))
unfolding is_nan
valued nan s a c v = absurd v
valued (inf t) s a c v = absurd v
valued (fin t m e) s a c v = tt

pub no_nan_bits : (b : ℕ) (s : Bool) (a c : ℕ) → HasValue (of_bits binary64 b) s a c → T (not (nan_bits binary64 b))
no_nan_bits b s a c v = subst (λ (z : Bool). T (not z)) (sym (nan_bits_is binary64 b)) (valued (of_bits binary64 b) s a c v)
