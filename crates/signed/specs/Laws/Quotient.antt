-- Division toward zero: the quotient's size and sign, and what is left over.
use Rattle.std.specs.Prelude.{◌≡◌, ℕ, zero, suc, ◌-◌, ◌*◌, ◌/◌, ◌<◌, ◌≤◌, false, cond, ℤ, pos, negsuc, ◌-ℤ◌, ◌*ℤ◌, neg_ℤ, int_div, int_lt, int_rem, nat_lt, unsigned_abs, refl}
use Rattle.std.specs.Bool.{beq}
use Rattle.std.proofs.Common.{div-add-mod', mod-lt, div-le_self, arith, le-ltb}
use Rattle.std.proofs.Math.Nat.{zero-div}
use Rattle.std.specs.Int.Signed.{mag}
use Rattle.signed.specs.Laws.Diff.{diff_eq, ring}

-- ---- size and sign

neg-size : (k : ℕ) → unsigned_abs (neg_ℤ (pos k)) ≡ k
neg-size zero = refl
neg-size (suc k) = refl

-- the quotient of a's size, with the sign of a
pub quot_size : (a : ℤ) (k : ℕ) → unsigned_abs (int_div a (pos k)) ≡ unsigned_abs a / k
quot_size (pos a) k = refl
quot_size (negsuc a) k = neg-size (suc a / k)

not_below_zero : (n : ℕ) → nat_lt n 0 ≡ false
not_below_zero n = le-ltb n 0 (omega arith)

pub quot_sign : (a : ℤ) (k : ℕ) → int_div a (pos k) ≡ cond (int_lt a (pos 0)) (neg_ℤ (pos (unsigned_abs a / k))) (pos (unsigned_abs a / k))
quot_sign (pos a) k = simp not_below_zero
quot_sign (negsuc a) k = refl

pub quot_neg : (n k : ℕ) → int_div (neg_ℤ (pos n)) (pos k) ≡ neg_ℤ (pos (n / k))
quot_neg zero k = rw zero-div
quot_neg (suc n) k = refl

-- a product's quotient, by whether its factors have the same sign
pub quot_product : (a b : ℤ) (k : ℕ) → let q = unsigned_abs a * unsigned_abs b / k in
    int_div (a *ℤ b) (pos k) ≡ cond (beq (int_lt a (pos 0)) (int_lt b (pos 0))) (pos q) (neg_ℤ (pos q))
quot_product (pos a) (pos b) k = simp not_below_zero
quot_product (pos a) (negsuc b) k = simp not_below_zero (quot_neg (a * suc b) k)
quot_product (negsuc a) (pos b) k = simp not_below_zero (quot_neg (suc a * b) k)
quot_product (negsuc a) (negsuc b) k = refl

-- ---- what is left over

-- what is left after the quotient is the remainder, whose size is below the divisor
pub quot_rem : (a : ℤ) (b : ℕ) → a -ℤ pos b *ℤ int_div a (pos b) ≡ int_rem a (pos b)
quot_rem (pos a) b = simp ring (diff_eq _ _ _ _ (omega (arith, div-add-mod' a b)))
quot_rem (negsuc a) b = simp ring (diff_eq _ _ _ _ (omega (arith, div-add-mod' (suc a) b)))

pub rem_lt : (a : ℤ) (b : ℕ) → 0 < b → unsigned_abs (int_rem a (pos b)) < b
rem_lt (pos a) b h = mod-lt a h
rem_lt (negsuc a) b h = rw neg-size (mod-lt (suc a) h)

pub quot_bound : (a : ℤ) (b : ℕ) → 0 < b → unsigned_abs (a -ℤ pos b *ℤ int_div a (pos b)) < b
quot_bound a b h = rw quot_rem (rem_lt a b h)

-- a quotient is no larger than what is divided
neg-mag : (k : ℕ) → mag (neg_ℤ (pos k)) ≡ k - 1
neg-mag zero = refl
neg-mag (suc k) = omega arith

pub quot_mag : (a : ℤ) (b : ℕ) → mag (int_div a (pos b)) ≤ mag a
quot_mag (pos a) b = div-le_self a b
quot_mag (negsuc a) b = rw neg-mag (omega (arith, div-le_self (suc a) b))
