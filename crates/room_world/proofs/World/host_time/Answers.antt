use Rattle.std.proofs.Common.{◌≡◌, ℕ, ◌+◌, ◌%◌, ◌^◌, ℤ, pos, ap, ◌∙◌}
use Rattle.room_scenario.specs.declared.BoxLine.{BoxLine}
use Rattle.signed.specs.Wrap.{mod64, wrap64}
use Rattle.signed.specs.Laws.WrapLaws.{wrap64_read, wrap64_residue}
use Rattle.room_world.proofs.World.host_time.Goals as goal

-- the sum may pass 64 bits
residue : (n : ℕ) → wrap64 (pos (n % 2 ^ 64)) ≡ wrap64 (pos n)
unfolding mod64
residue n = wrap64_residue (pos n)

pub returns : goal.returns
returns c =
    let a = c.args in
    ap (λ (z : ℤ). record { 0 = z }) (
    wrap64_read _ _ c.as_i64.ensures
    ∙ ap (λ (n : ℕ). wrap64 (pos n)) (c.wrapping_add_u64.ensures.value ∙ ap (λ (l : BoxLine). (a.self.now + l.shift) % 2 ^ 64) c.box_of-shift.ensures)
    ∙ residue _)
