-- Operations on numbers without a minus sign give such numbers, or none.
use Rattle.std.specs.Prelude.{◌≡◌, refl, Bool, true, false, cond, eqb, ltb, ℤ, pos, Float}
use Rattle.std.proofs.Common.{sym, subst, arith, le-ltb}
use Prim.Native.Nat.{ℕ, zero, suc, ◌+◌, ◌-◌, ◌*◌, ◌/◌, ◌%◌, ◌^◌, compare}
use Rattle.std.specs.Float.{nan, inf, fin, binary64}
use Rattle.std.specs.Float.Ieee.{up, down, size, nearest, odd, units, round, of_int, sum, add, mul, div, rem, lt}
use Rattle.std.specs.Float.Ieee.Fits.{round_is}
use Rattle.float.specs.Whole.{abs_of, floor_of}

-- x has no minus sign, or is no number
pub data Plus : Float → Type 0 where
  no_number : Plus nan
  endless : Plus (inf false)
  number : {m : ℕ} {e : ℤ} → Plus (fin false m e)

by_test : (t : Bool) (x y : Float) → Plus x → Plus y → Plus (cond t x y)
by_test true x y p q = p
by_test false x y p q = q

plus_odd : (d q k l : ℕ) → Plus (odd d false q k l)
unfolding odd
plus_odd d zero k l = number
plus_odd d (suc q) k l = number

plus_units : (q k : ℕ) → Plus (units binary64 false q k)
unfolding units
plus_units q k = by_test (ltb (q * 2 ^ k) (2 ^ (1074 + 1024))) (odd 54 false q k 1074) (inf false) (plus_odd 54 q k 1074) endless

plus_round : (a b : ℕ) → Plus (round binary64 false a b)
plus_round a b = let k = size (a * 2 ^ 1074 / b) - 53 in let u = b * 2 ^ k in
    subst Plus (sym (round_is binary64 false a b)) (plus_units (nearest (a * 2 ^ 1074 / u) (compare (a * 2 ^ 1074 % u * 2) u)) k)

pub plus_of : (n : ℕ) → Plus (of_int binary64 (pos n))
unfolding of_int
plus_of n = plus_round n 1

pub plus_abs : (x : Float) → Plus (abs_of x)
unfolding abs_of
plus_abs nan = no_number
plus_abs (inf s) = endless
plus_abs (fin s m e) = number

pub plus_add : {x y : Float} → Plus x → Plus y → Plus (add binary64 x y)
unfolding add sum
plus_add no_number q = no_number
plus_add endless no_number = no_number
plus_add endless endless = endless
plus_add endless number = endless
plus_add number no_number = no_number
plus_add number endless = endless
plus_add (number {m} {e}) (number {m = n} {e = d}) = plus_round (m * up e * down d + n * up d * down e) (down e * down d)

pub plus_mul : {x y : Float} → Plus x → Plus y → Plus (mul binary64 x y)
unfolding mul
plus_mul no_number q = no_number
plus_mul endless no_number = no_number
plus_mul endless endless = endless
plus_mul endless (number {m = n} {e = d}) = by_test (eqb n 0) nan (inf false) no_number endless
plus_mul number no_number = no_number
plus_mul (number {m} {e}) endless = by_test (eqb m 0) nan (inf false) no_number endless
plus_mul (number {m} {e}) (number {m = n} {e = d}) = plus_round (m * up e * (n * up d)) (down e * down d)

pub plus_div : {x y : Float} → Plus x → Plus y → Plus (div binary64 x y)
unfolding div
plus_div no_number q = no_number
plus_div endless no_number = no_number
plus_div endless endless = no_number
plus_div endless number = endless
plus_div number no_number = no_number
plus_div number endless = number
plus_div (number {m} {e}) (number {m = n} {e = d}) =
    let q : Float = round binary64 false (m * up e * down d) (n * up d * down e) in
    by_test (eqb n 0) (cond (eqb m 0) nan (inf false)) q (by_test (eqb m 0) nan (inf false) no_number endless) (plus_round (m * up e * down d) (n * up d * down e))

pub plus_floor : {x : Float} → Plus x → Plus (floor_of x)
unfolding floor_of
plus_floor no_number = no_number
plus_floor endless = endless
plus_floor number = plus_round _ _

-- a remainder has the sign of what is divided
pub plus_rem : {x : Float} (y : Float) → Plus x → Plus (rem binary64 x y)
unfolding rem
plus_rem y no_number = no_number
plus_rem y endless = no_number
plus_rem nan number = no_number
plus_rem (inf t) number = number
plus_rem (fin t n d) (number {m} {e}) =
    let r : ℕ = m * up e * down d % (n * up d * down e) in
    by_test (eqb n 0) nan (round binary64 false r (down e * down d)) no_number (plus_round r (down e * down d))

-- such a number is not below 0
pub not_negative : {x : Float} → Plus x → lt x (fin false 0 (pos 0)) ≡ false
unfolding lt
not_negative no_number = refl
not_negative endless = refl
not_negative (number {m} {e}) = le-ltb (m * up e * 1) (0 * 1 * down e) (omega arith)
