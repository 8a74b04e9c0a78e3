-- What the walks ask of a closure: each call, at what is read of a neighbour, answers what a test of neighbours does.
use Rattle.std.specs.Prelude.{◌≡◌, Bool}
use Rattle.time.specs.declared.HostTime.{HostTime}
use Rattle.wire.specs.declared.NodeId.{NodeId}
use Rattle.wire.specs.declared.SocketAddrPlain.{SocketAddrPlain}
use Rattle.model.specs.Peers.{Peer}

abbrev pub FitsBy : (NodeId → SocketAddrPlain → Bool → Type 0) → (Peer → Bool) → Type 0
FitsBy post test = (p : Peer) (r : Bool) → post p.id p.addr r → r ≡ test p

abbrev pub StaysBy : (NodeId → HostTime → Bool → Type 0) → (Peer → Bool) → Type 0
StaysBy post test = (p : Peer) (r : Bool) → post p.id p.last_seen r → r ≡ test p
