-- The head of an entry and a number.
use Rattle.std.proofs.Common.{refl, rules, SFits, to_z-of_z}
use Rattle.std.specs.Int.{w64}
use Rattle.big_endian.specs.Bytes.{bytes}
use Rattle.wire.specs.Layout.{entry}
use Rattle.big_endian.specs.Laws.Writing.{once, next, wrote}
use Rattle.wire_writer.proofs.write_time.Goals as goal

pub returns : goal.returns
unfolding entry bytes
returns c =
    let fits : SFits w64 c.args.time.0 = search rules in
    wrote
    (next _ c.write_entry_head.ensures refl
    (once (rw (to_z-of_z fits) at c.write.ensures)))
    c.requires
