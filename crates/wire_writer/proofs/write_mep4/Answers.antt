-- The head of an entry and two numbers, or nothing.
use Rattle.std.proofs.Common.{arith, refl, sym, add_assoc}
use Rattle.big_endian.specs.Bytes.{bytes}
use Rattle.wire.specs.Layout.{entry, addr_bytes, mep4_entry}
use Rattle.big_endian.specs.Laws.Writing.{once, next, wrote}
use Rattle.wire_writer.proofs.write_mep4.Goals as goal

pub write_entry_head-requires : goal.write_entry_head-requires
unfolding mep4_entry entry addr_bytes bytes
write_entry_head-requires c = omega (arith, rw c.in-Some.is at c.requires)

pub returns-in-Some : goal.returns-in-Some
unfolding mep4_entry entry addr_bytes bytes
returns-in-Some c =
    rw c.in-Some.is
    (wrote
    (next _ c.write_entry_head.ensures refl
    (next _ c.write.ensures (sym (add_assoc c.args.at 8 4))
    (once c.write-in-Some.ensures)))
    (rw c.in-Some.is at c.requires))
