-- What upkeep decides: what becomes of the neighbours, of what the engine says of itself, and of the next broadcast.
use Rattle.std.specs.Prelude.{ℕ, cond, List, map, pos}
use Rattle.std.specs.Int.Signed.{le_z}
use Rattle.time.specs.declared.HostTime.{HostTime}
use Rattle.model.specs.Sums.{plus}
use Rattle.lists.specs.Lists.{keep}
use Rattle.model.specs.Peers.{Peer}
use Rattle.model.specs.Engine.{Box}
use Rattle.model.specs.Produce.{after_ping, recent}
use Rattle.interface_map.specs.Held.{interfaces_of}
use Rattle.engine_state.specs.declared.core_state.Core.{Core}
use Rattle.engine_state.specs.declared.OwnState.{OwnState}
use Rattle.engine_state.specs.Held.{own_in}
use Rattle.election.specs.declared.Resolved.{Resolved}
use Rattle.election.specs.Inner.Resolution.{resolution_if}
use Rattle.upkeep.specs.Laws.Kept.{loses}

-- the next broadcast, after one that may be due now
abbrev pub next_after : HostTime → HostTime → HostTime
next_after now due = cond (le_z due.0 now.0) (plus now (pos 250_000)) due

-- ---- the neighbours

-- after the pings, and those of them that stay
abbrev pub pinged : HostTime → List Peer → List Peer
pinged now ps = map (after_ping now) ps

abbrev pub staying : HostTime → List Peer → List Peer
staying now ps = keep (recent now) (pinged now ps)

-- an election where one goes
abbrev pub decided : HostTime → OwnState → HostTime → List Peer → Resolved
decided now own next ps = resolution_if (loses (recent now) (pinged now ps)) now own next (staying now ps)

-- ---- of an engine

-- what is decided, of neighbours ps
abbrev pub decided_in : HostTime → Core → List Peer → Resolved
decided_in now e ps = decided now (own_in e) (next_after now e.next_broadcast) ps

-- the core's box with these neighbours, this count and what was decided
abbrev pub core_with : Core → List Peer → ℕ → Resolved → Box
core_with e ps n x = record {
  node_id = e.node_id;
  enabled = e.enabled;
  session_id = x.own.session_id;
  session_offset = x.own.session_offset.0;
  state = x.own.state;
  interfaces = interfaces_of e.interfaces;
  peers = ps;
  num_session_peers = n;
  next_broadcast = x.next_broadcast;
}
