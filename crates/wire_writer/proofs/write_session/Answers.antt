-- The head of an entry and a number.
use Rattle.std.proofs.Common.{refl}
use Rattle.big_endian.specs.Bytes.{bytes}
use Rattle.wire.specs.Layout.{entry}
use Rattle.big_endian.specs.Laws.Writing.{once, next, wrote}
use Rattle.wire_writer.proofs.write_session.Goals as goal

pub returns : goal.returns
unfolding entry bytes
returns c =
    wrote
    (next _ c.write_entry_head.ensures refl
    (once c.write.ensures))
    c.requires
