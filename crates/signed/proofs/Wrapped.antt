-- What std's wrapping methods say of the bits of an i64, in the words of `mod64` and `wrap64`.
use Rattle.std.proofs.Common.{◌≡◌, ℕ, ◌+◌, ◌-◌, ◌%◌, ◌^◌, ◌<◌, ℤ, pos, ◌+ℤ◌, ◌-ℤ◌, neg_ℤ, FitsSigned, w64, to_z, of_z, sym, ap, ◌∙◌, ap₂, arith}
use Rattle.std.proofs.Math.IntN.{+ℤ_idl}
use Rattle.signed.specs.Wrap.{mod64, wrap64}
use Rattle.signed.specs.Laws.Residue.{mod64_lt, mod64_id, mod64_add, mod64_sub}

-- the bits of a number are its residue
pub read_bits : (u : ℕ) → u < 2 ^ 64 → to_z w64 u ≡ wrap64 (pos u)
unfolding wrap64 mod64
read_bits u h = let e : u ≡ u % 2 ^ 64 = omega arith in ap (to_z w64) e

pub sum_bits : (a b : ℤ) → FitsSigned w64 a → FitsSigned w64 b → to_z w64 ((of_z w64 a + of_z w64 b) % 2 ^ 64) ≡ wrap64 (a +ℤ b)
unfolding wrap64
sum_bits a b f g = ap (to_z w64) (ap₂ (λ (m n : ℕ). (m + n) % 2 ^ 64) (sym (mod64_id a f)) (sym (mod64_id b g)) ∙ sym (mod64_add a b))

pub difference_bits : (a b : ℤ) → FitsSigned w64 a → FitsSigned w64 b → to_z w64 ((of_z w64 a + (2 ^ 64 - of_z w64 b)) % 2 ^ 64) ≡ wrap64 (a -ℤ b)
unfolding wrap64
difference_bits a b f g =
    let u : ℕ = mod64 a + (2 ^ 64 - mod64 b) in
    let e : (u + mod64 b) % 2 ^ 64 ≡ mod64 a = omega (arith, mod64_lt a, mod64_lt b) in
    ap (to_z w64) (ap₂ (λ (m n : ℕ). (m + (2 ^ 64 - n)) % 2 ^ 64) (sym (mod64_id a f)) (sym (mod64_id b g)) ∙ mod64_sub a b u e)

pub negative_bits : (a : ℤ) → FitsSigned w64 a → to_z w64 ((2 ^ 64 - of_z w64 a) % 2 ^ 64) ≡ wrap64 (neg_ℤ a)
negative_bits a f =
    let z : FitsSigned w64 (pos 0) = record { sfits = omega arith } in
    let e : 2 ^ 64 - of_z w64 a ≡ 0 + (2 ^ 64 - of_z w64 a) = omega arith in
    ap (λ (n : ℕ). to_z w64 (n % 2 ^ 64)) e ∙ difference_bits (pos 0) a z f ∙ ap wrap64 (+ℤ_idl (neg_ℤ a))
