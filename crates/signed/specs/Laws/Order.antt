-- The order of the integers. Each law is one line over `Diff`, whose form proves any other order too.
use Rattle.std.proofs.Common.{arith}
use Rattle.std.specs.Prelude.{ℤ, ◌≤ℤ◌, ◌<ℤ◌}
use Rattle.signed.specs.Laws.Diff.{by_diff, diff_le, diff_lt, diff_le⁻¹, diff_lt⁻¹}

pub ≤ℤ_trans : (a b c : ℤ) → a ≤ℤ b → b ≤ℤ c → a ≤ℤ c
≤ℤ_trans = by_diff _ λ p n. by_diff _ λ q m. by_diff _ λ r l h k. diff_le _ _ _ _ (omega (arith, diff_le⁻¹ _ _ _ _ h, diff_le⁻¹ _ _ _ _ k))

pub <ℤ-≤ℤ : (a b : ℤ) → a <ℤ b → a ≤ℤ b
<ℤ-≤ℤ = by_diff _ λ p n. by_diff _ λ q m h. diff_le _ _ _ _ (omega (arith, diff_lt⁻¹ _ _ _ _ h))

pub ≤ℤ_<ℤ_trans : (a b c : ℤ) → a ≤ℤ b → b <ℤ c → a <ℤ c
≤ℤ_<ℤ_trans = by_diff _ λ p n. by_diff _ λ q m. by_diff _ λ r l h k. diff_lt _ _ _ _ (omega (arith, diff_le⁻¹ _ _ _ _ h, diff_lt⁻¹ _ _ _ _ k))
