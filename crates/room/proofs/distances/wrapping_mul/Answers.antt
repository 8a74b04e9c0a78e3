-- `wrapping_mul` meets its contract: the low word of the product of the residues wraps to what the product wraps to.
use Rattle.std.proofs.Common.{ℕ, ℤ, pos, ◌*◌, ◌*ℤ◌, ◌≡◌, ◌∙◌, sym, ap, ap₂}
use mir.Facts.{to_z-of_z}
use Rattle.signed.specs.Wrap.{mod64, wrap64}
use Rattle.signed.specs.Laws.WrapLaws.{wrap64_read, wrap64_low, wrap64_residue, wrap64_mull, wrap64_mulr}
use Rattle.room.proofs.distances.wrapping_mul.Goals as goal

-- the product of the residues
residues : (a b : ℤ) → wrap64 (pos (mod64 a * mod64 b)) ≡ wrap64 (a *ℤ b)
residues a b =
    sym (wrap64_mull (pos (mod64 a)) (pos (mod64 b)))
    ∙ ap (λ (z : ℤ). wrap64 (z *ℤ pos (mod64 b))) (wrap64_residue a)
    ∙ wrap64_mull a (pos (mod64 b))
    ∙ sym (wrap64_mulr a (pos (mod64 b)))
    ∙ ap (λ (z : ℤ). wrap64 (a *ℤ z)) (wrap64_residue b)
    ∙ wrap64_mulr a b

pub returns : goal.returns
returns c =
    let w = c.widening_mul.result in
    let ea : c.as_u64.result ≡ mod64 c.args.a = simp (to_z-of_z c.ranges.a) at c.as_u64.ensures in
    let eb : c.as_u64-2.result ≡ mod64 c.args.b = simp (to_z-of_z c.ranges.b) at c.as_u64-2.ensures in
    wrap64_read _ _ c.as_i64.ensures
    ∙ sym (wrap64_low w.high w.low)
    ∙ ap (λ (n : ℕ). wrap64 (pos n)) (c.widening_mul.ensures ∙ ap₂ ◌*◌ ea eb)
    ∙ residues c.args.a c.args.b
