-- The queue of a network: what its slots say, and the packets under way.
use Rattle.std.specs.Prelude.{ℕ, zero, suc, ◌+◌, ◌-◌, ◌*◌, ◌%◌, Bool, ◌&&◌, cond, List, [], ◌∷◌, ◌++◌, eqb, leb, ltb, length, take, drop}
use Rattle.big_endian.specs.Bytes.{bytes, put, number_at}
use Rattle.room_network.specs.declared.Head.{Head}
use Rattle.room_network.specs.declared.Network.{Network}

-- a packet under way: when it arrives, where it comes from and goes, and its bytes
pub record Packet : Type 0 where
  pub arrival : ℕ
  pub head : Head
  pub bytes : List ℕ

-- ---- a slot

-- a ring of 1,024 slots of 544 bytes
abbrev pub slot_place : ℕ → ℕ
slot_place number = number % 1024 * 544

-- what is written into a slot
unfoldable pub slot_bytes : Packet → List ℕ
slot_bytes p =
    bytes 8 p.arrival
    ++ (bytes 8 p.head.sender
    ++ (bytes 4 p.head.interface
    ++ (bytes 4 p.head.ip
    ++ (bytes 2 p.head.port
    ++ (bytes 2 (length p.bytes)
    ++ p.bytes)))))

-- the bytes of the packet in the slot at this place: at most 512, and none where they do not lie within the queue
abbrev pub packet_bytes : ℕ → ℕ → List ℕ → List ℕ
packet_bytes place size queue = cond (leb size 512 && leb (place + 28 + size) (length queue)) (take size (drop (place + 28) queue)) []

-- what the slot at this place says
unfoldable pub packet_at : ℕ → List ℕ → Packet
packet_at place queue = record {
  arrival = number_at 8 place queue;
  head = record {
    sender = number_at 8 (place + 8) queue;
    interface = number_at 4 (place + 16) queue;
    ip = number_at 4 (place + 20) queue;
    port = number_at 2 (place + 24) queue;
  };
  bytes = packet_bytes place (number_at 2 (place + 26) queue) queue;
}

-- ---- the packets under way

-- those of n slots, from this one on
unfoldable pub packets_from : ℕ → ℕ → List ℕ → List Packet
packets_from zero number queue = []
packets_from (suc n) number queue = packet_at (slot_place number) queue ∷ packets_from n (number + 1) queue

-- the one that was sent first stands first
abbrev pub under_way : Network → List ℕ → List Packet
under_way w queue = packets_from w.count w.first queue

-- ---- one is sent

-- there is a free slot, the queue has all its slots, and the packet has at most 512 bytes
abbrev pub takes : Network → ℕ → ℕ → Bool
takes w room size = ltb w.count 1024 && (leb 557056 room && leb size 512)

abbrev pub after_send : Network → ℕ → ℕ → Network
after_send w room size = cond (takes w room size) (record { first = w.first; count = w.count + 1 }) w

abbrev pub queue_after_send : Network → Packet → List ℕ → List ℕ
queue_after_send w p queue = cond (takes w (length queue) (length p.bytes)) (put (slot_place (w.first + w.count)) (slot_bytes p) queue) queue

-- ---- the first is taken off

unfoldable pub without_first : Network → Network
without_first w = cond (eqb w.count 0) w (record { first = (w.first % 1024 + 1) % 1024; count = w.count - 1 })
