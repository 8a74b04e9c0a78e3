-- `apart` meets its contract.
use Rattle.std.proofs.Common.{w64, to_z, of_z, ℤ, ◌-ℤ◌, ◌≡◌, ◌∙◌, ap₂}
use mir.Facts.{to_z-of_z}
use Rattle.signed.specs.Wrap.{wrap64}
use Rattle.signed.specs.Laws.WrapLaws.{wrap64_read, wrap64_subl, wrap64_subr}
use Rattle.room.specs.Distance.{time_of}
use Rattle.room.proofs.distances.apart.Goals as goal

pub returns : goal.returns
returns c =
    let x = time_of c.args.x c.args.x_shift c.args.beat in
    let y = time_of c.args.y c.args.y_shift c.args.beat in
    let ex : to_z w64 (of_z w64 c.time_of.result) ≡ wrap64 x =
    wrap64_read _ _ (simp (to_z-of_z c.ranges.x_shift, to_z-of_z c.ranges.beat) at c.time_of.ensures) in
    let ey : to_z w64 (of_z w64 c.time_of-2.result) ≡ wrap64 y =
    wrap64_read _ _ (simp (to_z-of_z c.ranges.y_shift, to_z-of_z c.ranges.beat) at c.time_of-2.ensures) in
    wrap64_read _ _ c.wrapping_sub.ensures
    ∙ ap₂ (λ (u v : ℤ). wrap64 (u -ℤ v)) ex ey
    ∙ wrap64_subl x (wrap64 y)
    ∙ wrap64_subr x y
