-- The box of the definition that an engine stands for: a `Core`, and the neighbours that the rows of its tables say. Rows from the count on are free.
use Rattle.std.specs.Prelude.{ℕ, List, ℤ}
use Rattle.model.specs.Peers.{Peer}
use Rattle.model.specs.Engine.{Box}
use Rattle.interface_map.specs.Held.{interfaces_of}
use Rattle.peer_table.specs.Rows.{peers_of}
use Rattle.engine_state.specs.declared.core_state.Core.{Core}
use Rattle.engine_state.specs.declared.Engine.{Engine}
use Rattle.engine_state.specs.declared.OwnState.{OwnState}

-- with these neighbours
unfoldable pub core_box : Core → List Peer → Box
core_box c ps = record {
  node_id = c.node_id;
  enabled = c.enabled;
  session_id = c.session_id;
  session_offset = c.session_offset.0;
  state = c.state;
  interfaces = interfaces_of c.interfaces;
  peers = ps;
  num_session_peers = c.num_session_peers;
  next_broadcast = c.next_broadcast;
}

-- with those that the rows of the tables say
abbrev pub held_in : Core → List ℕ → List ℤ → Box
held_in c words numbers = core_box c (peers_of c.count words numbers)

abbrev pub held : Engine → Box
held e = held_in e.core e.words e.numbers

-- what an engine says of itself
abbrev pub own_in : Core → OwnState
own_in c = record { node_id = c.node_id; session_id = c.session_id; session_offset = c.session_offset; state = c.state }
