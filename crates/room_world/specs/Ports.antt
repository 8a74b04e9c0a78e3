-- The boxes' ids and ports, and which ports a packet is for.
use Rattle.std.specs.Prelude.{ℕ, ◌+◌, ◌-◌, ◌*◌, ◌/◌, ◌%◌, Bool, cond, not, ◌&&◌, ◌==◌, nat_le, nat_lt}
use Rattle.wire.specs.declared.NodeId.{NodeId}
use Rattle.wire.specs.declared.SocketAddrPlain.{SocketAddrPlain}
use Rattle.room_network.specs.declared.Head.{Head}
use Rattle.room_world.specs.declared.World.{World}
use Rattle.room_world.specs.World.{box_line, silent}

-- an address of four bytes
abbrev ip_of : ℕ → ℕ → ℕ → ℕ → ℕ
ip_of a b c d = a * 16777216 + b * 65536 + c * 256 + d

-- box i has the ids from 256 × (i + 1) up to the next box's
abbrev pub first_id : ℕ → NodeId
first_id i = record { 0 = (i % 16 + 1) * 256 }

-- interface j of box i: 10.0.j.(i + 1), port 20808 + i
abbrev pub port_of : ℕ → ℕ → SocketAddrPlain
port_of i j = record { ip = ip_of 10 0 (j % 256) (i % 16 + 1); port = 20808 + i % 16 }

-- 224.76.78.75, port 20808
abbrev pub is_multicast : Head → Bool
is_multicast h = h.ip == ip_of 224 76 78 75 && h.port == 20808

abbrev pub has_address : ℕ → ℕ → Head → Bool
has_address i j h = h.ip == (port_of i j).ip && h.port == (port_of i j).port

-- a multicast is for every port of every other box, and any other packet for the port that has its address
abbrev pub is_addressed : ℕ → ℕ → Head → Bool
is_addressed i j h = cond (is_multicast h) (not (i == h.sender)) (has_address i j h)

-- the ports of a box are the interfaces from 1 on
abbrev pub has_port : World → ℕ → ℕ → Bool
has_port w i j = nat_lt i w.count && (nat_le 1 j && nat_le j (box_line w i).ports)

-- the box has this port, its cables are in, and the packet is for it
abbrev pub is_for : World → ℕ → ℕ → Head → Bool
is_for w i j h = has_port w i j && (not (silent w i) && is_addressed i j h)

-- the name of the box that has this id among its own, or a question mark
abbrev pub name_of : World → ℕ → ℕ
name_of w id = cond (id / 256 == 0) 63 (cond (nat_le (id / 256) w.count) (box_line w (id / 256 - 1)).name 63)
