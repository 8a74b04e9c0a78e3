-- The head of an entry, a byte and two numbers.
use Rattle.std.proofs.Common.{refl, sym, add_assoc, rules, SFits, to_z-of_z}
use Rattle.std.specs.Int.{w64}
use Rattle.big_endian.specs.Bytes.{bytes}
use Rattle.wire.specs.Layout.{entry, start_stop_bytes}
use Rattle.big_endian.specs.Laws.Writing.{once, next, wrote}
use Rattle.wire_writer.proofs.write_start_stop.Goals as goal

pub returns : goal.returns
unfolding entry start_stop_bytes bytes
returns c =
    let at = c.args.at in
    let beat_fits : SFits w64 c.args.start_stop.beat.0 = search rules in
    let time_fits : SFits w64 c.args.start_stop.time.0 = search rules in
    wrote
    (next _ c.write_entry_head.ensures refl
    (next _ (rw c.playing_byte.ensures at c.write.ensures) (sym (add_assoc at 8 1))
    (next _ (rw (to_z-of_z beat_fits) at c.write-2.ensures) (sym (add_assoc at 9 8))
    (once (rw (to_z-of_z time_fits) at c.write-3.ensures)))))
    c.requires
