-- Whole numbers as `f64`. Up to 2 ^ 53 each has a float of its own, and the operations on them give the float of the exact result.
use Rattle.std.specs.Prelude.{◌≡◌, refl, Bool, true, false, ℕ, zero, suc, ◌+◌, ◌-◌, ◌*◌, ◌/◌, ◌%◌, ◌^◌, ◌≤◌, ◌<◌, T, ltb, eqb, ℤ, pos, negsuc, nat_abs}
use Rattle.std.proofs.Common.{sym, ap, ◌∙◌, subst, true≢false, mul_comm, mul-pos, mul-div_cancel, mul-lt-mul_of_pos_right, le-div_iff_mul-le, arith, ltb→lt, lit<, lt-ltb, ne_eqb}
use Rattle.std.proofs.Math.Nat.{mul-mod_left, div-le_of_le-mul}
use Rattle.std.proofs.Math.Arith.{mod-mul}
use lib.Ieee.{Float, nan, inf, fin, binary64, up, down, fits, round, of_int, add, mul, div, rem, le, eq}
use Rattle.std.specs.Float.Ieee.Fits.{up_pos, down_pos, of_int-fits}
use Rattle.std.specs.Float.Ieee.Exact.{HasValue}
use Rattle.std.specs.Float.Ieee.Back.{round_whole, whole_unique}
use Rattle.std.specs.Float.Ieee.Scale.{round_same}
use Rattle.std.specs.Float.Ieee.Positive.{positive, num, den, between, den_pos, own_value, positive_of_value, values_of_le, mul_at}
use Rattle.float.specs.Whole.{abs_of, floor_of}

-- n as a float
abbrev pub whole : ℕ → Float
whole n = of_int binary64 (pos n)

pub whole_round : (n : ℕ) → whole n ≡ round binary64 false n 1
unfolding of_int
whole_round n = refl

-- the float of z has z's size and sign
pub value : (n : ℕ) → n ≤ 2 ^ 53 → HasValue (whole n) false n 1
unfolding of_int
value n h = round_whole binary64 false n h

pub value_minus : (n : ℕ) → suc n ≤ 2 ^ 53 → HasValue (of_int binary64 (negsuc n)) true (suc n) 1
unfolding of_int
value_minus n h = round_whole binary64 true (suc n) h

-- ---- the size

pub abs_fits : (x : Float) → T (fits binary64 x) → T (fits binary64 (abs_of x))
unfolding abs_of fits
abs_fits nan t = tt
abs_fits (inf s) t = tt
abs_fits (fin s zero e) t = t
abs_fits (fin s (suc m) e) t = t

abs_value : (x : Float) (s : Bool) (n : ℕ) → HasValue x s n 1 → HasValue (abs_of x) false n 1
unfolding abs_of
abs_value nan s n v = v
abs_value (inf t) s n v = v
abs_value (fin t m e) s n v = (refl, v.1)

has_size : (z : ℤ) → nat_abs z ≤ 2 ^ 53 → HasValue (abs_of (of_int binary64 z)) false (nat_abs z) 1
has_size (pos n) h = abs_value (of_int binary64 (pos n)) false n (value n h)
has_size (negsuc n) h = abs_value (of_int binary64 (negsuc n)) true (suc n) (value_minus n h)

pub abs_whole : (z : ℤ) → nat_abs z ≤ 2 ^ 53 → abs_of (of_int binary64 z) ≡ whole (nat_abs z)
abs_whole z h =
    whole_unique binary64 (abs_of (of_int binary64 z)) (whole (nat_abs z)) false (nat_abs z)
    (abs_fits (of_int binary64 z) (of_int-fits binary64 z)) (of_int-fits binary64 (pos (nat_abs z))) (has_size z h) (value (nat_abs z) h)

-- ---- sums

-- two sizes over their common denominator
scaled : (u a d d' : ℕ) → u * 1 ≡ a * d → u * d' ≡ a * (d * d')
scaled u a d d' h = let e : u * 1 * d' ≡ a * d * d' = ap (λ (z : ℕ). z * d') h in omega arith

summed : (u v a c d d' : ℕ) → u * 1 ≡ a * d → v * 1 ≡ c * d' → (u * d' + v * d) * 1 ≡ (a + c) * (d * d')
summed u v a c d d' h k = omega (arith, scaled u a d d' h, scaled v c d' d k)

add_values : (x y : Float) (a c : ℕ) → HasValue x false a 1 → HasValue y false c 1 → add binary64 x y ≡ round binary64 false (a + c) 1
unfolding add
add_values nan y a c v w = absurd v
add_values (inf s) y a c v w = absurd v
add_values (fin s m e) nan a c v w = absurd w
add_values (fin s m e) (inf t) a c v w = absurd w
add_values (fin true m e) (fin t n d) a c v w = absurd (true≢false v.0)
add_values (fin false m e) (fin true n d) a c v w = absurd (true≢false w.0)
add_values (fin false m e) (fin false n d) a c v w =
    round_same binary64 false (m * up e * down d + n * up d * down e) (down e * down d) (a + c) 1
    (mul-pos (down_pos e) (down_pos d)) (lit< tt) (summed (m * up e) (n * up d) a c (down e) (down d) v.1 w.1)

pub add-whole : (a c : ℕ) → a ≤ 2 ^ 53 → c ≤ 2 ^ 53 → add binary64 (whole a) (whole c) ≡ whole (a + c)
add-whole a c h k = add_values (whole a) (whole c) a c (value a h) (value c k) ∙ sym (whole_round (a + c))

-- -a + c, where c is the larger
module _ (u v a c d d' : ℕ) (h : u * 1 ≡ a * d) (k : v * 1 ≡ c * d') (l : a < c) (p : 0 < d * d') where
  larger : u * d' < v * d
  larger =
      let e : a * (d * d') < c * (d * d') = mul-lt-mul_of_pos_right l p in
      omega (arith, scaled u a d d' h, scaled v c d' d k)

  difference : (v * d - u * d') * 1 ≡ (c - a) * (d * d')
  difference =
      let e : c ≡ c - a + a = omega arith in
      let f : c * (d * d') ≡ (c - a + a) * (d * d') = ap (λ (z : ℕ). z * (d * d')) e in
      omega (arith, scaled u a d d' h, scaled v c d' d k)

sub_values : (x y : Float) (a c : ℕ) → HasValue x true a 1 → HasValue y false c 1 → a < c → add binary64 x y ≡ round binary64 false (c - a) 1
unfolding add lib.Ieee.sum
sub_values nan y a c v w l = absurd v
sub_values (inf s) y a c v w l = absurd v
sub_values (fin s m e) nan a c v w l = absurd w
sub_values (fin s m e) (inf t) a c v w l = absurd w
sub_values (fin false m e) (fin t n d) a c v w l = absurd (true≢false (sym v.0))
sub_values (fin true m e) (fin true n d) a c v w l = absurd (true≢false w.0)
sub_values (fin true m e) (fin false n d) a c v w l =
    let p = mul-pos (down_pos e) (down_pos d) in
    let b = lt-ltb _ _ (larger (m * up e) (n * up d) a c (down e) (down d) v.1 w.1 l p) in
    rw b (round_same binary64 false (n * up d * down e - m * up e * down d) (down e * down d) (c - a) 1 p (lit< tt)
    (difference (m * up e) (n * up d) a c (down e) (down d) v.1 w.1 l p))

pub sub-whole : (a c : ℕ) → suc a ≤ 2 ^ 53 → c ≤ 2 ^ 53 → suc a < c → add binary64 (of_int binary64 (negsuc a)) (whole c) ≡ whole (c - suc a)
sub-whole a c h k l = sub_values (of_int binary64 (negsuc a)) (whole c) (suc a) c (value_minus a h) (value c k) l ∙ sym (whole_round (c - suc a))

-- ---- products, quotients, remainders

pub mul-whole : (a c : ℕ) → a ≤ 2 ^ 53 → c ≤ 2 ^ 53 → 0 < a → 0 < c → mul binary64 (whole a) (whole c) ≡ whole (a * c)
mul-whole a c h k p q =
    mul_at binary64 (whole a) (whole c) a 1 c 1 (positive_of_value (whole a) a 1 (value a h) p) (positive_of_value (whole c) c 1 (value c k) q) (lit< tt) (lit< tt) (value a h) (value c k)
    ∙ sym (whole_round (a * c))

crossed : (u v a c d d' : ℕ) → u * 1 ≡ a * d → v * 1 ≡ c * d' → u * d' * c ≡ a * (v * d)
crossed u v a c d d' h k =
    let e : u * 1 * (d' * c) ≡ a * d * (d' * c) = ap (λ (z : ℕ). z * (d' * c)) h in
    let f : v * 1 * (a * d) ≡ c * d' * (a * d) = ap (λ (z : ℕ). z * (a * d)) k in
    omega arith

not_zero : (n : ℕ) → T (ltb 0 n) → eqb n 0 ≡ false
not_zero n p = let h : 0 < n = ltb→lt 0 n p in ne_eqb n 0 (λ e. omega arith)

-- a fraction of two whole numbers is rounded once
div_values : (x y : Float) (a c : ℕ) → 0 < c → T (positive y) → HasValue x false a 1 → HasValue y false c 1 → div binary64 x y ≡ round binary64 false a c
unfolding div
div_values nan y a c q p v w = absurd v
div_values (inf s) y a c q p v w = absurd v
div_values (fin s m e) nan a c q p v w = absurd w
div_values (fin s m e) (inf t) a c q p v w = absurd w
div_values (fin true m e) (fin t n d) a c q p v w = absurd (true≢false v.0)
div_values (fin false m e) (fin true n d) a c q p v w = absurd (true≢false w.0)
div_values (fin false m e) (fin false n d) a c q p v w =
    rw (not_zero n p) (round_same binary64 false (m * up e * down d) (n * up d * down e) a c
    (mul-pos (mul-pos (ltb→lt 0 n p) (up_pos d)) (down_pos e)) q
    (crossed (m * up e) (n * up d) a c (down e) (down d) v.1 w.1))

pub div-whole : (a c : ℕ) → a ≤ 2 ^ 53 → c ≤ 2 ^ 53 → 0 < c → div binary64 (whole a) (whole c) ≡ round binary64 false a c
div-whole a c h k p = div_values (whole a) (whole c) a c p (positive_of_value (whole c) c 1 (value c k) p) (value a h) (value c k)

pub mod_scaled : (a c k : ℕ) → 0 < c → 0 < k → a * k % (c * k) ≡ a % c * k
mod_scaled a c k p q = mod-mul (a * k) p q ∙ rw (mul-div_cancel a q, mul-mod_left a k) (omega arith)

rest : (u v a c d d' : ℕ) → u * 1 ≡ a * d → v * 1 ≡ c * d' → 0 < c → 0 < d * d' → u * d' % (v * d) * 1 ≡ a % c * (d * d')
rest u v a c d d' h k p q =
    let e : v * d ≡ c * (d * d') = omega (arith, scaled v c d' d k) in
    rw (scaled u a d d' h, e, mod_scaled a c (d * d') p q) (omega arith)

rem_values : (x y : Float) (a c : ℕ) → 0 < c → T (positive y) → HasValue x false a 1 → HasValue y false c 1 → rem binary64 x y ≡ round binary64 false (a % c) 1
unfolding rem
rem_values nan y a c q p v w = absurd v
rem_values (inf s) y a c q p v w = absurd v
rem_values (fin s m e) nan a c q p v w = absurd w
rem_values (fin s m e) (inf t) a c q p v w = absurd w
rem_values (fin true m e) (fin t n d) a c q p v w = absurd (true≢false v.0)
rem_values (fin false m e) (fin true n d) a c q p v w = absurd (true≢false w.0)
rem_values (fin false m e) (fin false n d) a c q p v w =
    let k = mul-pos (down_pos e) (down_pos d) in
    rw (not_zero n p) (round_same binary64 false (m * up e * down d % (n * up d * down e)) (down e * down d) (a % c) 1
    k (lit< tt) (rest (m * up e) (n * up d) a c (down e) (down d) v.1 w.1 q k))

pub rem-whole : (a c : ℕ) → a ≤ 2 ^ 53 → c ≤ 2 ^ 53 → 0 < c → rem binary64 (whole a) (whole c) ≡ whole (a % c)
rem-whole a c h k p =
    rem_values (whole a) (whole c) a c p (positive_of_value (whole c) c 1 (value c k) p) (value a h) (value c k) ∙ sym (whole_round (a % c))

-- ---- a number above 0 is not 0

pub not_eq_zero : (x : Float) → T (positive x) → eq x (fin false 0 (pos 0)) ≡ false
unfolding eq
not_eq_zero nan p = absurd p
not_eq_zero (inf s) p = absurd p
not_eq_zero (fin true m e) p = absurd p
not_eq_zero (fin false m e) p =
    let h : 0 < m * up e = mul-pos (ltb→lt 0 m p) (up_pos e) in
    rw (ne_eqb (m * up e * 1) (0 * 1 * down e) (λ e. omega arith))

zero_is : whole 0 ≡ fin false 0 (pos 0)
unfolding of_int round
zero_is = refl

pub above_zero : (n : ℕ) → 0 < n → n ≤ 2 ^ 53 → eq (whole n) (whole 0) ≡ false
above_zero n p h = rw zero_is (not_eq_zero (whole n) (positive_of_value (whole n) n 1 (value n h) p))

-- ---- a number between two whole numbers

pub record Between (x : Float) (lo hi : ℕ) : Type 0 where
  pub here : T (positive x)
  pub at_least : lo * den x ≤ num x
  pub at_most : num x ≤ hi * den x

pub between_wholes : (x : Float) (lo hi : ℕ) → 0 < lo → lo ≤ 2 ^ 53 → 0 < hi → hi ≤ 2 ^ 53 → T (le (whole lo) x) → T (le x (whole hi)) → Between x lo hi
between_wholes x lo hi p l q k above below =
    let low = positive_of_value (whole lo) lo 1 (value lo l) p in
    let high = positive_of_value (whole hi) hi 1 (value hi k) q in
    let here = between (whole lo) x (whole hi) low high above below in
    record {
      here = here;
      at_least = omega (arith, values_of_le (whole lo) x lo 1 (num x) (den x) low here (value lo l) (own_value x here) above);
      at_most = omega (arith, values_of_le x (whole hi) (num x) (den x) hi 1 here high (own_value x here) (value hi k) below);
    }

-- its floor lies between them too
pub record Floor (x : Float) (lo hi : ℕ) : Type 0 where
  pub at : ℕ
  pub is : floor_of x ≡ whole at
  pub above : lo ≤ at
  pub below : at ≤ hi

floor_is : (x : Float) → T (positive x) → floor_of x ≡ whole (num x / den x)
unfolding floor_of of_int
floor_is nan p = absurd p
floor_is (inf s) p = absurd p
floor_is (fin true m e) p = absurd p
floor_is (fin false m e) p = refl

pub floor_between : (x : Float) (lo hi : ℕ) → 0 < lo → lo ≤ 2 ^ 53 → 0 < hi → hi ≤ 2 ^ 53 → T (le (whole lo) x) → T (le x (whole hi)) → Floor x lo hi
floor_between x lo hi p l q k above below =
    let b = between_wholes x lo hi p l q k above below in
    record {
      at = num x / den x;
      is = floor_is x b.here;
      above = (le-div_iff_mul-le (den_pos x)).1 b.at_least;
      below = div-le_of_le-mul (den x) (subst (λ (z : ℕ). num x ≤ z) (mul_comm hi (den x)) b.at_most);
    }
