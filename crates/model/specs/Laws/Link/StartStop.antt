-- A start or a stop that is committed on one box is held by another, once that has taken the commit's packet: over two whole lists of calls.
-- The definitions; the theorems stand in proofs/Laws/Link/StartStop.
use Rattle.std.specs.Prelude.{ℕ, ◌≡◌, ◌≢◌, ◌<ℤ◌, Option, Some}
use mathlib.Core.List.{List, [], Memᴰ}
use Rattle.time.specs.declared.HostTime.{HostTime}
use Rattle.timeline.specs.declared.StartStopState.{StartStopState}
use Rattle.timeline.specs.declared.SessionState.{SessionState}
use Rattle.wire.specs.declared.NodeId.{NodeId}
use Rattle.wire.specs.declared.SocketAddrPlain.{SocketAddrPlain}
use Rattle.wire.specs.declared.DiscoveryMsg.TheVariants.{Alive}
use Rattle.wire.specs.declared.Message.TheVariants.{Discovery}
use Rattle.wire.specs.Parse.{parse}
use Rattle.lists.specs.Lists.{without}
use Rattle.model.specs.Peers.{Peer, peer_key, start_stops_in}
use Rattle.model.specs.Engine.{Box, Output, send}
use Rattle.model.specs.Packet.{held_peer}
use Rattle.model.specs.Calls.{packet, commit, done, step}
use Rattle.lists.specs.Laws.Each.{Each}
use Rattle.model.specs.Laws.Distance.Statement.{Keeps, packet_elections}
use Rattle.model.specs.Laws.Link.Sessions.{shared_start_stop}
use Rattle.timeline.specs.declared.Timeline.{Timeline}

-- ---- the premises

-- The sender e, as a commit of the state s begins; the bytes are a packet that the commit writes, an alive with the start-stop state `sent`. It tells that
-- whether or not the commit changes it.
pub record SendsStartStop (e : Box) (s : SessionState) (now : HostTime) (buf_size : ℕ) (bytes : List ℕ) (sent : StartStopState) : Type 0 where
  pub after : Box
  pub outputs : List Output
  pub accepted : step e (commit s now buf_size) ≡ done after outputs
  pub interface : ℕ
  pub to : SocketAddrPlain
  pub written : Memᴰ (send interface to bytes) outputs
  pub node : NodeId
  pub line : Option Timeline
  pub mep4 : Option SocketAddrPlain
  pub reads : parse bytes ≡ Some (Discovery (Alive node line (Some sent) (Some e.session_id) mep4))

-- The receiver e, as the call begins that takes those bytes from `sender`. Times of starts and stops are in shared time, its own included.
pub record TakesStartStop (sender : Box) (sent : StartStopState) (e : Box) (interface : ℕ) (from : SocketAddrPlain) (bytes : List ℕ) (now : HostTime) (buf_size : ℕ) : Type 0 where
  pub after : Box
  pub outputs : List Output
  pub accepted : step e (packet interface from bytes now buf_size) ≡ done after outputs
  pub our_session : e.session_id ≡ sender.session_id
  pub held : Peer
  pub holds : held_peer sender.node_id e.peers ≡ Some held
  pub held_session : held.session_id ≡ Some sender.session_id
  pub sampled : held.samples.offsets ≢ []
  pub unlike : held.start_stop_ghost ≢ Some sent
  pub others : Each (λ x. x.time.0 <ℤ sent.time.0) (start_stops_in e.session_id (without peer_key sender.node_id.0 e.peers))
  pub own : (shared_start_stop e).time.0 <ℤ sent.time.0
  pub elections : Each (Keeps now) (packet_elections e interface from bytes now)
