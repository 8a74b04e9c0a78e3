-- Laws of `mod64`: the low 64 bits of a number, of a sum and of a difference.
use Rattle.std.specs.Prelude.{◌≡◌, ℕ, ◌+◌, ◌-◌, ◌/◌, ◌%◌, ◌^◌, ◌<◌, true, false, ℤ, pos, negsuc, ◌+ℤ◌, ◌-ℤ◌, ◌*ℤ◌, FitsSigned, int_lt, unsigned_abs}
use Rattle.std.proofs.Common.{sym, ap, ◌∙◌, arith, of_z}
use Rattle.std.proofs.Math.Nat.{add-mod}
use Rattle.std.proofs.Math.IntN.{ -ℤ-+ℤ_cancel}
use Rattle.std.specs.Int.Signed.{mag, nat_abs-le}
use Rattle.std.specs.Int.{w64}
use Rattle.signed.specs.Wrap.{mod64}
use Rattle.signed.specs.Laws.Diff.{diff, by_diff, by_sign, diff_eq, ring}
use Rattle.signed.specs.Laws.Signs.{by_neg, by_nonneg}

pub mod64_lt : (z : ℤ) → mod64 z < 2 ^ 64
unfolding mod64
mod64_lt (pos n) = omega arith
mod64_lt (negsuc n) = omega arith

-- ---- of an i64

-- its bits
pub mod64_id : (z : ℤ) → FitsSigned w64 z → mod64 z ≡ of_z w64 z
unfolding mod64
mod64_id (pos n) f = omega (arith, f.sfits)
mod64_id (negsuc n) f = omega (arith, f.sfits)

pub mod64_neg : (a : ℤ) → FitsSigned w64 a → int_lt a (pos 0) ≡ true → 2 ^ 64 - 1 - mag a ≡ mod64 a
unfolding mod64
mod64_neg a f t = by_neg (λ (z : ℤ). FitsSigned w64 z → 2 ^ 64 - 1 - mag z ≡ mod64 z) (λ n g. omega (arith, g.sfits)) a t f

pub mod64_nonneg : (a : ℤ) → FitsSigned w64 a → int_lt a (pos 0) ≡ false → mag a ≡ mod64 a
unfolding mod64
mod64_nonneg a f t = by_nonneg (λ (z : ℤ). FitsSigned w64 z → mag z ≡ mod64 z) (λ n g. omega (arith, g.sfits)) a t f

-- of its size, which fits a word
pub mod64_size : (a : ℤ) → FitsSigned w64 a → mod64 (pos (unsigned_abs a)) ≡ unsigned_abs a
unfolding mod64
mod64_size a f = omega (arith, nat_abs-le a f.sfits)

-- ---- of any number

mod64_diff : (p n : ℕ) → mod64 (diff p n) ≡ (p + (2 ^ 64 - n % 2 ^ 64)) % 2 ^ 64
unfolding mod64
mod64_diff = by_sign (λ (p n : ℕ) (z : ℤ). mod64 z ≡ (p + (2 ^ 64 - n % 2 ^ 64)) % 2 ^ 64) (λ a n. omega arith) (λ a p. omega arith)

-- the same, a multiple of 2 ^ 64 away
pub mod64_shift : (z k : ℤ) → mod64 (z +ℤ pos (2 ^ 64) *ℤ k) ≡ mod64 z
mod64_shift = by_diff _ λ p n. by_diff _ λ q m. simp (ring, mod64_diff) (omega arith)

-- z is its residue and a multiple
pub div64 : ℤ → ℤ
div64 (pos n) = pos (n / 2 ^ 64)
div64 (negsuc n) = negsuc (n / 2 ^ 64)

pub mod64_split : (z : ℤ) → pos (mod64 z) ≡ z -ℤ pos (2 ^ 64) *ℤ div64 z
unfolding mod64 div64
mod64_split (pos n) = simp ring (diff_eq _ _ _ _ (omega arith))
mod64_split (negsuc n) = simp ring (diff_eq _ _ _ _ (omega arith))

-- the sum and the difference of residues
pub mod64_add : (a b : ℤ) → mod64 (a +ℤ b) ≡ (mod64 a + mod64 b) % 2 ^ 64
mod64_add = by_diff _ λ p n. by_diff _ λ q m. simp (ring, mod64_diff) (add_shift p n q m ∙ add-mod _ _ _)
  where
    add_shift : (p n q m : ℕ) → (p + q + (2 ^ 64 - (n + m) % 2 ^ 64)) % 2 ^ 64 ≡ (p + (2 ^ 64 - n % 2 ^ 64) + (q + (2 ^ 64 - m % 2 ^ 64))) % 2 ^ 64
    add_shift p n q m = omega arith

pub mod64_sub : (a b : ℤ) (u : ℕ) → (u + mod64 b) % 2 ^ 64 ≡ mod64 a → u % 2 ^ 64 ≡ mod64 (a -ℤ b)
mod64_sub a b u e =
    let h : mod64 a ≡ (mod64 (a -ℤ b) + mod64 b) % 2 ^ 64 = sym (ap mod64 (-ℤ-+ℤ_cancel a b)) ∙ mod64_add (a -ℤ b) b in
    let l : mod64 (a -ℤ b) < 2 ^ 64 = mod64_lt (a -ℤ b) in
    omega arith
