-- What every call keeps of both lists, by what their operations keep.
-- The definitions; the theorems stand in proofs/Laws/Calls/Kept.
use Rattle.std.specs.Prelude.{ℕ, ◌≡◌, Bool, false, ◌&&◌, not, List, [], map, leb, length, Option, Some, unwrap_or}
use Rattle.std.proofs.Common.{SFits}
use Rattle.std.specs.Int.{w64}
use Rattle.time.specs.declared.HostTime.{HostTime}
use Rattle.wire.specs.declared.SocketAddrPlain.{SocketAddrPlain}
use Rattle.wire.specs.Parse.{parse}
use Rattle.lists.specs.Lists.{found, first, keep, change, has_key, upsert}
use Rattle.model.specs.Peers.{Peer, Interface, peer_key, interface_key, new_peer}
use Rattle.model.specs.Produce.{after_ping}
use Rattle.model.specs.Laws.Calls.Messages.{alive_said, pong_said}
use Rattle.model.specs.Packet.{AliveMsg, after_alive, PongMsg, after_pong, held_peer, owns}
use Rattle.model.specs.Calls.{Call, packet, interface_added, refusal_by}
use Rattle.wire.specs.declared.Message.{Message}

-- ---- what every call keeps of the neighbours

-- of lists of neighbours, where `Says from m now` holds of each packet's sender, message and time
pub record KeepsPeers (Says : SocketAddrPlain → Option Message → HostTime → Type 0) (L : List Peer → Type 0) : Type 0 where
  pub alone : L []
  pub pinged : (now : HostTime) → SFits w64 now.0 → {ps : List Peer} → L ps → L (map (after_ping now) ps)
  pub kept : (t : Peer → Bool) {ps : List Peer} → L ps → L (keep t ps)
  pub alive : (from : SocketAddrPlain) (m : AliveMsg) (now : HostTime) → SFits w64 now.0
      → Says from (alive_said m) now
      → {ps : List Peer} → refusal_by ps from (alive_said m) ≡ 0 → L ps
      → L (upsert peer_key (after_alive from m now (unwrap_or (held_peer m.node_id ps) (new_peer m.node_id from now))) ps)
  pub pong : (from : SocketAddrPlain) (m : PongMsg) (now : HostTime) → SFits w64 now.0
      → Says from (pong_said m) now
      → {ps : List Peer} → refusal_by ps from (pong_said m) ≡ 0 → L ps → L (change (owns from) (after_pong m now) ps)

-- of a call: of its packet, if it has one
abbrev pub SaidIn : (SocketAddrPlain → Option Message → HostTime → Type 0) → Call → Type 0
SaidIn Says c = (iface : ℕ) (from : SocketAddrPlain) (bytes : List ℕ) (now : HostTime) (buf_size : ℕ) → c ≡ packet iface from bytes now buf_size → Says from (parse bytes) now

-- nothing is asked of packets
abbrev pub Anything : SocketAddrPlain → Option Message → HostTime → Type 0
Anything from m now = Unit {0}

-- ---- what every call keeps of the interfaces

-- of lists of interfaces, where `Has i` holds of each that is added
pub record KeepsInterfaces (Has : Interface → Type 0) (I : List Interface → Type 0) : Type 0 where
  pub kept : (t : Interface → Bool) {is : List Interface} → I is → I (keep t is)
  pub added : (i : Interface) → Has i → {is : List Interface} → not (found (first (has_key interface_key i.id) is)) && leb 4 (length is) ≡ false → I is → I (upsert interface_key i is)

-- of a call: of the interface that it adds, if it does
abbrev pub HasIn : (Interface → Type 0) → Call → Type 0
HasIn Has c = (iface : ℕ) (addr : SocketAddrPlain) → c ≡ interface_added iface addr → Has (record { id = iface; addr = addr })

abbrev pub Anywhere : Interface → Type 0
Anywhere i = Unit {0}

-- of one neighbour
pub record KeepsPeer (Says : SocketAddrPlain → Option Message → HostTime → Type 0) (P : Peer → Type 0) : Type 0 where
  pub fresh : (from : SocketAddrPlain) (m : AliveMsg) (now : HostTime) → SFits w64 now.0
      → Says from (alive_said m) now → P (new_peer m.node_id from now)
  pub pinged : (now : HostTime) → SFits w64 now.0 → (p : Peer) → P p → P (after_ping now p)
  pub alive : (from : SocketAddrPlain) (m : AliveMsg) (now : HostTime) → SFits w64 now.0
      → Says from (alive_said m) now → (p : Peer) → P p → P (after_alive from m now p)
  -- of its owner, where it was not refused
  pub pong : (from : SocketAddrPlain) (m : PongMsg) (now : HostTime) → SFits w64 now.0 → Says from (pong_said m) now
      → (ps : List Peer) (p : Peer) → first (owns from) ps ≡ Some p → refusal_by ps from (pong_said m) ≡ 0 → P p → P (after_pong m now p)
