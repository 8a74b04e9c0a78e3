-- Where the neighbours after a call come from, and when each was last seen.
-- The definitions; the theorems stand in proofs/Laws/Clerk/Seen.
use Rattle.std.specs.Prelude.{◌≡◌, ◌⊎◌, true}
use mathlib.Core.List.{List, Memᴰ}
use Rattle.time.specs.declared.HostTime.{HostTime}
use Rattle.wire.specs.declared.NodeId.{NodeId}
use Rattle.model.specs.Peers.{Peer}
use Rattle.model.specs.Engine.{Box}
use Rattle.model.specs.Calls.{Call}
use Rattle.model.specs.Laws.Clerk.Neighbours.{call_time}
use Rattle.model.specs.Laws.Clerk.Staying.{is_alive_of}

-- one of ps has this id and was last seen then
pub record HeldAs (ps : List Peer) (n : NodeId) (then : HostTime) : Type 0 where
  pub peer : Peer
  pub there : Memᴰ peer ps
  pub id : peer.id ≡ n
  pub seen : peer.last_seen ≡ then

-- the call announces this id and it was seen at the call's time, or one with this id was held before, last seen then
abbrev pub SeenBy : Box → Call → NodeId → HostTime → Type 0
SeenBy e c n then = ((is_alive_of n c ≡ true) × (then ≡ call_time c)) ⊎ HeldAs e.peers n then
