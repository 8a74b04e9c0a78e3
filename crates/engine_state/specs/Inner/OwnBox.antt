-- A box of which no more is known than what it says of itself and its neighbours.
use Rattle.std.specs.Prelude.{false, List, [], pos}
use Rattle.model.specs.Peers.{Peer}
use Rattle.model.specs.Engine.{Box}
use Rattle.engine_state.specs.declared.OwnState.{OwnState}

-- a box that says this of itself and has these neighbours, and of which nothing else is known: elections and `taken` look at no more
unfoldable pub own_box : OwnState → List Peer → Box
own_box o ps = record {
  node_id = o.node_id;
  enabled = false;
  session_id = o.session_id;
  session_offset = o.session_offset.0;
  state = o.state;
  interfaces = [];
  peers = ps;
  num_session_peers = 0;
  next_broadcast = record { 0 = pos 0 };
}
