-- What becomes of the neighbours in upkeep, and what follows from that.
use Rattle.std.specs.Prelude.{ℕ, ◌≡◌, List, length}
use Rattle.time.specs.declared.HostTime.{HostTime}
use Rattle.wire.specs.declared.SocketAddrPlain.{SocketAddrPlain}
use Rattle.model.specs.Sums.{never}
use Rattle.model.specs.Peers.{Peer, peers_in}
use Rattle.model.specs.Produce.{earliest_ping, min_last_seen, or_timeout, timer_outputs}
use Rattle.peer_walks.specs.declared.Overview.{Overview}
use Rattle.peer_walks.specs.Inner.Asked.{asked}
use Rattle.engine_state.specs.declared.OwnState.{OwnState}
use Rattle.answer.specs.Inner.Planned.{timer_output}
use Rattle.election.specs.Inner.Resolution.{unresolved}
use Rattle.upkeep.specs.declared.settle.Settled.{Settled}
use Rattle.upkeep.specs.Inner.Decided.{pinged, staying, decided}

-- of neighbours ps, where the next broadcast is at a time: those that are left, and the addresses that are asked
pub record Settling (now : HostTime) (own : OwnState) (next : HostTime) (ps left : List Peer) (to : List SocketAddrPlain) (r : Settled) : Type 0 where
  pub neighbours : left ≡ staying now ps
  pub pings : to ≡ asked now ps
  pub election : r.resolved ≡ decided now own next ps
  pub timer : timer_output r.timer ≡ timer_outputs (or_timeout (earliest_ping next (pinged now ps)) (min_last_seen never (staying now ps)))
  pub number : r.count ≡ length (peers_in r.resolved.own.session_id left)

-- by what a survey found where none goes
pub record AllStay (own : OwnState) (found : Overview) (count asks : ℕ) (next : HostTime) (r : Settled) : Type 0 where
  pub left : r.left ≡ count
  pub asked : r.asked ≡ asks
  pub election : r.resolved ≡ unresolved own next
  pub timer : timer_output r.timer ≡ timer_outputs (or_timeout found.ping found.seen)
  pub number : r.count ≡ found.count
