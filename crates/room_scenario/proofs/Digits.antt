-- How large a number of a few digits is.
use Prim.Native.Nat.{ℕ, ◌+◌, ◌*◌, ◌^◌, ◌<◌, ◌≤◌}
use native.Mathlib.Nat.{pow-suc, pow-le-pow_right}
use native.Mathlib.Numerals.{add-one}
use native.Mathlib.Omega.{arith}

-- a number of i digits and one digit more
pub one_more : (n i d : ℕ) → n < 10 ^ i → d ≤ 9 → n * 10 + d < 10 ^ (i + 1)
one_more n i d h k = rw (add-one, pow-suc) (omega arith)

-- numbers of fewer than 15 digits, where each may have one digit more
pub below_most : (n i : ℕ) → n < 10 ^ i → i < 15 → n < 10 ^ 14
below_most n i h k = let m : i ≤ 14 = omega arith in let p : 10 ^ i ≤ 10 ^ 14 = pow-le-pow_right (omega arith) m in omega arith
