use Rattle.std.proofs.Common.{arith, length}
use Rattle.big_endian.specs.Laws.Numbers.{length-bytes}
use Rattle.big_endian.specs.Laws.Writing.{wrote, once, next}
use Rattle.room_network.specs.Queue.{slot_bytes}
use Rattle.room_network.specs.Laws.Slots.{slot_length}
use Rattle.room_network.proofs.write_slot.Goals as goal

pub returns : goal.returns
unfolding slot_bytes
returns c =
    let s = c.args in
    wrote
    (next _ c.write.ensures (omega (arith, length-bytes 8 s.arrival))
    (next _ c.write-2.ensures (omega (arith, length-bytes 8 s.head.sender))
    (next _ c.write-3.ensures (omega (arith, length-bytes 4 s.head.interface))
    (next _ c.write-4.ensures (omega (arith, length-bytes 4 s.head.ip))
    (next _ c.write-5.ensures (omega (arith, length-bytes 2 s.head.port))
    (next _ c.write-6.ensures (omega (arith, length-bytes 2 (length s.packet.now)))
    (once c.write_bytes.ensures)))))))
    (omega (arith, slot_length (record { arrival = s.arrival; head = s.head; bytes = s.packet.now })))
