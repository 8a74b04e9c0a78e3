-- What the proofs of `shifted` and `from_i64` cite. `shifted`: what is kept of n and what is cut off make n / 2 ^ cut to the nearest whole number, a tie to
-- the even one (`closest`). `from_i64`: an n of 53 + cut digits as a float is that whole number times 2 ^ cut, and both the cast of it and the scaling are
-- exact.
use mathlib.Core.Path.{◌≡◌, sym, ap, ◌∙◌}
use mathlib.Core.Bool.{Bool}
use Prim.Native.Nat.{ℕ, suc, ◌-◌, ◌*◌, ◌%◌, ◌^◌, ◌<◌}
use native.Mathlib.Nat.{mul-one, one-mul, mul_right_comm, mod-eq_of_lt, eq_of_mul-eq-mul_right, pow-suc}
use native.Mathlib.Omega.{arith}
use lib.Pow.{pow-lt}
use lib.Ieee.{Float, nan, inf, fin, up, down}
use lib.Ieee.Exact.{HasValue}

-- ---- what `shifted` works out

pub one_shl : (k : ℕ) → k < 64 → 1 * 2 ^ k % 2 ^ 64 ≡ 2 ^ k
one_shl k h = ap (λ (z : ℕ). z % 2 ^ 64) (one-mul (2 ^ k)) ∙ mod-eq_of_lt (pow-lt h)

pub twice_half : (cut : ℕ) → 0 < cut → 2 ^ (cut - 1) * 2 ≡ 2 ^ cut
twice_half cut p = sym (pow-suc 2 (cut - 1)) ∙ ap (λ (z : ℕ). 2 ^ z) (go cut p)
  where
    go : (a : ℕ) → 0 < a → suc (a - 1) ≡ a
    go a h = omega arith

-- ---- a whole number's value in units is its value

pub whole_value : (x : Float) (s : Bool) (w l : ℕ) → 0 < l → HasValue x s (w * l) l → HasValue x s w 1
whole_value nan s w l p v = v
whole_value (inf t) s w l p v = v
whole_value (fin t m e) s w l p v = (
  v.0,
  mul-one (m * up e) ∙ eq_of_mul-eq-mul_right l p (m * up e) (w * down e) (v.1 ∙ mul_right_comm w l (down e)),
)
