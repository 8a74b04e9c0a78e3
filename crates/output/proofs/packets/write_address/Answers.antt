-- Three numbers side by side.
use Rattle.std.proofs.Common.{arith, refl}
use Rattle.big_endian.specs.Bytes.{bytes}
use Rattle.wire.specs.Layout.{addr_bytes}
use Rattle.big_endian.specs.Laws.Writing.{once, next, wrote}
use Rattle.output.proofs.packets.write_address.Goals as goal

pub returns : goal.returns
unfolding addr_bytes bytes
returns c =
    wrote
    (next _ c.write.ensures refl
    (next _ c.write-2.ensures refl
    (once c.write-3.ensures)))
    (omega arith)
