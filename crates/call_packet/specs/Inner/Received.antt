-- What a packet's message puts out, and the core after the election that it may call for.
use Rattle.std.specs.Prelude.{ℕ, List, ◌++◌}
use Rattle.time.specs.declared.HostTime.{HostTime}
use Rattle.model.specs.Engine.{Output}
use Rattle.model.specs.Produce.{produce_outputs}
use Rattle.model.specs.Packet.{Handled}
use Rattle.model.specs.Calls.{resolved_if_needed}
use Rattle.engine_state.specs.declared.core_state.Core.{Core}
use Rattle.election.specs.declared.Resolved.{Resolved}

-- a message's outputs, those of the election that it may call for, and upkeep's
abbrev pub after_message : HostTime → Handled → List Output
after_message at h = h.outputs ++ ((resolved_if_needed at h).outputs ++ (produce_outputs at (resolved_if_needed at h).box).outputs)

-- the core with so many neighbours and what may have been decided
abbrev pub decided_core : Core → ℕ → Resolved → Core
decided_core e count x = record {
  node_id = e.node_id;
  enabled = e.enabled;
  session_id = x.own.session_id;
  session_offset = x.own.session_offset;
  state = x.own.state;
  interfaces = e.interfaces;
  count = count;
  num_session_peers = e.num_session_peers;
  next_broadcast = x.next_broadcast;
}
