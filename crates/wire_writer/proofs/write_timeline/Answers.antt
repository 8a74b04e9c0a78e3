-- The head of an entry and three numbers.
use Rattle.std.proofs.Common.{refl, sym, add_assoc, rules, SFits, to_z-of_z}
use Rattle.std.specs.Int.{w64}
use Rattle.big_endian.specs.Bytes.{bytes}
use Rattle.wire.specs.Layout.{entry, timeline_bytes}
use Rattle.big_endian.specs.Laws.Writing.{once, next, wrote}
use Rattle.wire_writer.proofs.write_timeline.Goals as goal

pub returns : goal.returns
unfolding entry timeline_bytes bytes
returns c =
    let at = c.args.at in
    let tempo_fits : SFits w64 c.args.timeline.tempo.0 = search rules in
    let beat_fits : SFits w64 c.args.timeline.beat_origin.0 = search rules in
    let time_fits : SFits w64 c.args.timeline.time_origin.0 = search rules in
    wrote
    (next _ c.write_entry_head.ensures refl
    (next _ (rw (to_z-of_z tempo_fits) at c.write.ensures) (sym (add_assoc at 8 8))
    (next _ (rw (to_z-of_z beat_fits) at c.write-2.ensures) (sym (add_assoc at 16 8))
    (once (rw (to_z-of_z time_fits) at c.write-3.ensures)))))
    c.requires
