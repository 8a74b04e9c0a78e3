-- Which neighbours a call keeps, and which it drops.
-- The definitions; the theorems stand in proofs/Laws/Clerk/Staying.
use Rattle.std.specs.Prelude.{◌≡◌, ◌⊎◌, Bool, Option, Some, None}
use Rattle.std.proofs.Math.Bool.{false}
use mathlib.Core.List.{List, Memᴰ}
use Rattle.time.specs.declared.HostTime.{HostTime}
use Rattle.wire.specs.declared.NodeId.{NodeId}
use Rattle.wire.specs.declared.DiscoveryMsg.TheVariants.{Alive, ByeBye}
use Rattle.wire.specs.declared.Message.TheVariants.{Discovery, Measurement}
use Rattle.wire.specs.Parse.{parse}
use Rattle.wire.specs.Same.{same_node}
use Rattle.model.specs.Peers.{Peer}
use Rattle.model.specs.Calls.{Call, packet, tick, commit, switch, interface_added, interface_removed, io_error}
use Rattle.wire.specs.declared.Message.{Message}

-- ---- what a message keeps

-- it is a bye of this node
abbrev pub says_bye : NodeId → Option Message → Bool
says_bye n None = false
says_bye n (Some (Discovery (Alive node timeline start_stop session mep4))) = false
says_bye n (Some (Discovery (ByeBye node))) = same_node n node
says_bye n (Some (Measurement m)) = false

-- it is an alive of this node
abbrev pub says_alive : NodeId → Option Message → Bool
says_alive n None = false
says_alive n (Some (Discovery (Alive node timeline start_stop session mep4))) = same_node n node
says_alive n (Some (Discovery (ByeBye node))) = false
says_alive n (Some (Measurement m)) = false

-- among ps there is p still, by its id, seen now, or when p was if it is not announced
pub record StillIn (now : HostTime) (announced : Bool) (p : Peer) (ps : List Peer) : Type 0 where
  pub peer : Peer
  pub there : Memᴰ peer ps
  pub id : peer.id ≡ p.id
  pub seen : ((announced ≡ false) × (peer.last_seen ≡ p.last_seen)) ⊎ (peer.last_seen ≡ now)

-- ---- what a call keeps

-- whether a call is a packet that says bye for this node
abbrev pub bids_bye : NodeId → Call → Bool
bids_bye n (packet iface from bytes now buf_size) = says_bye n (parse bytes)
bids_bye n (tick now buf_size) = false
bids_bye n (commit s now buf_size) = false
bids_bye n (switch b now buf_size) = false
bids_bye n (interface_added iface addr) = false
bids_bye n (interface_removed iface) = false
bids_bye n (io_error iface error) = false

-- whether it is a packet that is an alive of this node
abbrev pub is_alive_of : NodeId → Call → Bool
is_alive_of n (packet iface from bytes now buf_size) = says_alive n (parse bytes)
is_alive_of n (tick now buf_size) = false
is_alive_of n (commit s now buf_size) = false
is_alive_of n (switch b now buf_size) = false
is_alive_of n (interface_added iface addr) = false
is_alive_of n (interface_removed iface) = false
is_alive_of n (io_error iface error) = false
