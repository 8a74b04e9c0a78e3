-- Three numbers side by side.
use Rattle.std.proofs.Common.{arith, refl, rules, SFits, to_z-of_z}
use Rattle.std.specs.Int.{w64}
use Rattle.big_endian.specs.Bytes.{bytes}
use Rattle.wire.specs.Layout.{timeline_bytes}
use Rattle.big_endian.specs.Laws.Writing.{once, next, wrote}
use Rattle.output.proofs.reports.put_timeline.Goals as goal

pub returns : goal.returns
unfolding timeline_bytes bytes
returns c =
    let tempo_fits : SFits w64 c.args.line.tempo.0 = search rules in
    let beat_fits : SFits w64 c.args.line.beat_origin.0 = search rules in
    let time_fits : SFits w64 c.args.line.time_origin.0 = search rules in
    wrote
    (next _ (rw (to_z-of_z tempo_fits) at c.write.ensures) refl
    (next _ (rw (to_z-of_z beat_fits) at c.write-2.ensures) refl
    (once (rw (to_z-of_z time_fits) at c.write-3.ensures))))
    (omega arith)
