-- What the scope says of these numbers in words: sums wrap, the size of the smallest is itself, halves drop toward zero, a product is
-- exact before it is divided, and the low 64 bits of the quotient are kept.
use Rattle.std.specs.Prelude.{◌≡◌, ◌-◌, ◌/◌, ◌^◌, ◌<◌, cond, ℤ, pos, negsuc, ◌+ℤ◌, ◌*ℤ◌, neg_ℤ, FitsSigned, int_div, int_lt, unsigned_abs, refl}
use Rattle.std.proofs.Common.{arith}
use Rattle.std.specs.Int.Signed.{shr_z}
use Rattle.std.specs.Int.{w64}
use Rattle.signed.specs.Wrap.{mod64, wrap64}
use Rattle.signed.specs.Laws.Quotient.{quot_size, quot_sign}
use Rattle.signed.specs.Laws.WrapLaws.{wrap64_fits, wrap64_split, mod64_wrap64}

-- the smallest and the largest i64
abbrev pub smallest : ℤ
smallest = negsuc (2 ^ 63 - 1)

abbrev pub largest : ℤ
largest = pos (2 ^ 63 - 1)

-- ---- each sum wraps at 64 bits

-- a wrapped number is an i64 and a multiple of 2 ^ 64 away
pub wraps_to_i64 : (z : ℤ) → FitsSigned w64 (wrap64 z) × ((k : ℤ) × (wrap64 z ≡ z +ℤ pos (2 ^ 64) *ℤ k))
wraps_to_i64 z = (wrap64_fits z, wrap64_split z)

pub largest_plus_one : wrap64 (largest +ℤ pos 1) ≡ smallest
unfolding wrap64 mod64
largest_plus_one = refl

-- ---- the size of the smallest is itself

pub smallest_size : wrap64 (pos (unsigned_abs smallest)) ≡ smallest
unfolding wrap64 mod64
smallest_size = refl

-- ---- halves drop toward zero

-- half of a has half the size, rounded down, and the sign of a
pub half_size : (a : ℤ) → unsigned_abs (int_div a (pos 2)) ≡ unsigned_abs a / 2
half_size a = quot_size a 2

pub half_sign : (a : ℤ) → int_div a (pos 2) ≡ cond (int_lt a (pos 0)) (neg_ℤ (pos (unsigned_abs a / 2))) (pos (unsigned_abs a / 2))
half_sign a = quot_sign a 2

pub half_of_3 : int_div (pos 3) (pos 2) ≡ pos 1
half_of_3 = refl

-- −1, where a shift gives −2
pub half_of_minus_3 : (int_div (negsuc 2) (pos 2) ≡ negsuc 0) × (shr_z (negsuc 2) 2 ≡ negsuc 1)
half_of_minus_3 = (refl, refl)

-- ---- the low 64 bits of a product's quotient are kept

pub low_bits_kept : (a b : ℤ) → let q = int_div (a *ℤ b) (pos 1000000) in mod64 (wrap64 q) ≡ mod64 q
low_bits_kept a b = mod64_wrap64 (int_div (a *ℤ b) (pos 1000000))

-- 10 ^ 18 times 10 ^ 18: the product takes two words, and its quotient is past 64 bits
pub large_quotient : 2 ^ 64 < 10 ^ 30
large_quotient = omega arith

pub large_product : int_div (pos (10 ^ 18) *ℤ pos (10 ^ 18)) (pos 1000000) ≡ pos (10 ^ 30)
large_product = refl

pub large_kept : wrap64 (int_div (pos (10 ^ 18) *ℤ pos (10 ^ 18)) (pos 1000000)) ≡ pos 5076944270305263616
unfolding wrap64 mod64
large_kept = refl

-- cut toward zero from the exact product
pub cut_toward_zero : int_div (negsuc 2 *ℤ pos 500000) (pos 1000000) ≡ negsuc 0
cut_toward_zero = refl

-- a shift of 1,000,001 micro-beats at 500,001
pub shift_500001 : int_div (pos 1000001 *ℤ pos 500001) (pos 1000000) ≡ pos 500001
shift_500001 = refl
