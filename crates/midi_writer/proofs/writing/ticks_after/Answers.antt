-- Each test of a beat origin in turn.
use Rattle.std.specs.Prelude.{FitsSigned}
use Rattle.std.specs.Int.{w64, FitsUnsignedBits}
use Rattle.std.proofs.Common.{rules, arith, ◌≡◌, ◌∙◌, unsigned_abs}
use mir.Facts.{to_z-of_z}
use Rattle.midi_writer.specs.Laws.Bounds.{origin_negative, origin_before, origin_far, origin_between, origin_good}
use Rattle.midi_writer.proofs.writing.ticks_after.Goals as goal
use Rattle.midi_writer.proofs.writing.ticks_after.Goals.{else-gap-le-FARTHEST-via-then-gap-le-FARTHEST+else-origin-eq0, else-gap-le-FARTHEST-via-else-gap-le-FARTHEST}

pub returns-in_default : goal.returns-in_default
returns-in_default c =
    let s : FitsSigned w64 c.args.change.now.beat_origin.0 = search rules in
    origin_negative _ _ s (rw (to_z-of_z s) at c.in_default.ensures)

pub returns-in_err-gap : goal.returns-in_err-gap
returns-in_err-gap c =
    let s : FitsSigned w64 c.args.change.now.beat_origin.0 = search rules in
    let f : FitsUnsignedBits 64 c.args.change.now.beat_origin.0 × (c.in-Ok.origin ≡ unsigned_abs c.args.change.now.beat_origin.0) = rw (to_z-of_z s) at c.in-Ok.ensures in
    c.from_residual.ensures ∙ origin_before _ _ _ f.0 f.1 c.in_err-gap.ensures

pub returns-then-origin-eq0 : goal.returns-then-origin-eq0
returns-then-origin-eq0 c =
    let s : FitsSigned w64 c.args.change.now.beat_origin.0 = search rules in
    let f : FitsUnsignedBits 64 c.args.change.now.beat_origin.0 × (c.in-Ok.origin ≡ unsigned_abs c.args.change.now.beat_origin.0) = rw (to_z-of_z s) at c.in-Ok.ensures in
    let g = c.in_ok-gap.ensures in
    origin_good _ _ _ f.0 f.1 g.0 _ g.1 c.if-gap-le-FARTHEST.true c.if-origin-eq0.true

pub returns-else-gap-le-FARTHEST : goal.returns-else-gap-le-FARTHEST
returns-else-gap-le-FARTHEST c =
    let s : FitsSigned w64 c.args.change.now.beat_origin.0 = search rules in
    let f : FitsUnsignedBits 64 c.args.change.now.beat_origin.0 × (c.in-Ok.origin ≡ unsigned_abs c.args.change.now.beat_origin.0) = rw (to_z-of_z s) at c.in-Ok.ensures in
    let g = c.in_ok-gap.ensures in
    elim c.else-gap-le-FARTHEST.branch [
      | else-gap-le-FARTHEST-via-then-gap-le-FARTHEST+else-origin-eq0 w ↦ origin_between _ _ _ f.0 f.1 g.0 (omega (arith, w.if-gap-le-FARTHEST.true, g.1)) w.if-origin-eq0.false
      | else-gap-le-FARTHEST-via-else-gap-le-FARTHEST w ↦ origin_far _ _ _ f.0 f.1 g.0 (omega (arith, w.if-gap-le-FARTHEST.false, g.1))
    ]
