-- Five writes side by side.
use Rattle.std.proofs.Common.{refl}
use Rattle.big_endian.specs.Bytes.{bytes}
use Rattle.wire.specs.Layout.{discovery_head}
use Rattle.big_endian.specs.Laws.Writing.{once, next, wrote}
use Rattle.wire_writer.proofs.write_discovery_head.Goals as goal

pub returns : goal.returns
unfolding discovery_head bytes
returns c =
    wrote
    (next _ c.write.ensures refl
    (next _ c.write-2.ensures refl
    (next _ c.write-3.ensures refl
    (next _ c.write-4.ensures refl
    (once c.write-5.ensures)))))
    c.requires
