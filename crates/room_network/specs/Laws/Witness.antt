-- What the theorems on the order ask for can be met: over a new network with all its slots a packet is sent, and leaves.
use Rattle.std.specs.Prelude.{ℕ, Bool, true, ◌&&◌, cond, List, [], ◌∷◌, ◌≡◌, leb, ltb, length, replicate}
use Rattle.std.proofs.Common.{arith, sym, ap, ◌∙◌}
use Rattle.std.proofs.lemmas.List.{length-replicate}
use Rattle.room_network.specs.declared.Network.{Network}
use Rattle.room_network.specs.Queue.{Packet, slot_place, packet_at, packets_from, under_way, takes, after_send, queue_after_send, without_first}
use Rattle.room_network.specs.Laws.Slots.{Fitting}
use Rattle.room_network.specs.Laws.Order.{sent_last, first_leaves}

abbrev empty : Network
empty = record { first = 0; count = 0 }

-- a packet of three bytes, to the multicast address
abbrev packet : Packet
packet = record { arrival = 350; head = record { sender = 0; interface = 1; ip = 3763097163; port = 20808 }; bytes = 1 ∷ 2 ∷ 3 ∷ [] }

packet_fits : Fitting packet
packet_fits = record { arrival = omega arith; sender = omega arith; interface = omega arith; ip = omega arith; port = omega arith; short = omega arith }

-- the network and its queue once the packet is sent
abbrev network_after : List ℕ → Network
network_after queue = after_send empty (length queue) 3

abbrev queue_after : List ℕ → List ℕ
queue_after queue = queue_after_send empty packet queue

module _ (queue : List ℕ) (whole : length queue ≡ 557056) where
  taken : takes empty (length queue) 3 ≡ true
  taken = ap (λ (n : ℕ). ltb 0 1024 && (leb 557056 n && leb 3 512)) whole

  sent : under_way (network_after queue) (queue_after queue) ≡ packet ∷ []
  unfolding packets_from
  sent = sent_last empty packet queue packet_fits taken

  left : packet_at (slot_place (network_after queue).first) (queue_after queue) ∷ under_way (without_first (network_after queue)) (queue_after queue) ≡ packet ∷ []
  left = sym (first_leaves (network_after queue) 0 (queue_after queue) (ap (λ (b : Bool). (cond b (record { first = 0; count = 1 }) empty).count) taken)) ∙ sent

-- a queue of all its slots
abbrev zeros : List ℕ
zeros = replicate 557056 0

zeros_whole : length zeros ≡ 557056
zeros_whole = length-replicate {A = ℕ} 557056 0

-- the packet is under way alone
pub one_sent : under_way (network_after zeros) (queue_after zeros) ≡ packet ∷ []
one_sent = sent zeros zeros_whole

-- the first slot says what it is, and none is left once it is taken off
pub one_leaves : packet_at (slot_place (network_after zeros).first) (queue_after zeros) ∷ under_way (without_first (network_after zeros)) (queue_after zeros) ≡ packet ∷ []
one_leaves = left zeros zeros_whole
