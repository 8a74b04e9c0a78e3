-- `time_of` meets its contract: the wraps on the way may go.
use Rattle.std.proofs.Common.{rules, w64, to_z, of_z, ℤ, pos, ◌+ℤ◌, ◌-ℤ◌, ◌*ℤ◌, ◌≡◌, ◌∙◌, ap, ap₂}
use mir.Val.{SFits}
use mir.Facts.{to_z-of_z}
use Rattle.signed.specs.Wrap.{wrap64}
use Rattle.signed.specs.Laws.WrapLaws.{wrap64_read, wrap64_addl, wrap64_addr, wrap64_mull}
use Rattle.room.specs.Distance.{time_of}
use Rattle.room.proofs.distances.time_of.Goals as goal

pub returns : goal.returns
unfolding time_of
returns c =
    let origin = c.args.line.time_origin.0 in
    let beat_origin = c.args.line.beat_origin.0 in
    let tempo = c.args.line.tempo.0 in
    let shift = c.args.shift in
    let beat = c.args.beat in
    let fo : SFits w64 origin = search rules in
    let fb : SFits w64 beat_origin = search rules in
    let ft : SFits w64 tempo = search rules in
    let since : to_z w64 (of_z w64 c.wrapping_sub-origin.result) ≡ wrap64 (origin -ℤ shift) =
    wrap64_read _ _ (simp (to_z-of_z fo, to_z-of_z c.ranges.shift) at c.wrapping_sub-origin.ensures) in
    let beats : to_z w64 (of_z w64 c.wrapping_sub-beats.result) ≡ wrap64 (beat -ℤ beat_origin) =
    wrap64_read _ _ (simp (to_z-of_z fb, to_z-of_z c.ranges.beat) at c.wrapping_sub-beats.ensures) in
    let first : to_z w64 (of_z w64 c.wrapping_mul.result) ≡ wrap64 ((origin -ℤ shift) *ℤ pos 1000000) =
    wrap64_read _ _ c.wrapping_mul.ensures
    ∙ ap (λ (z : ℤ). wrap64 (z *ℤ pos 1000000)) since
    ∙ wrap64_mull (origin -ℤ shift) (pos 1000000) in
    let second : to_z w64 (of_z w64 c.wrapping_mul-2.result) ≡ wrap64 ((beat -ℤ beat_origin) *ℤ tempo) =
    wrap64_read _ _ c.wrapping_mul-2.ensures
    ∙ ap₂ (λ (y z : ℤ). wrap64 (y *ℤ z)) beats (to_z-of_z ft)
    ∙ wrap64_mull (beat -ℤ beat_origin) tempo in
    wrap64_read _ _ c.wrapping_add.ensures
    ∙ ap₂ (λ (y z : ℤ). wrap64 (y +ℤ z)) first second
    ∙ wrap64_addl ((origin -ℤ shift) *ℤ pos 1000000) (wrap64 ((beat -ℤ beat_origin) *ℤ tempo))
    ∙ wrap64_addr ((origin -ℤ shift) *ℤ pos 1000000) ((beat -ℤ beat_origin) *ℤ tempo)
