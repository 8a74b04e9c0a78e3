-- The neighbour of the definition that a `PeerState` and samples stand for, and what the messages say.
use Rattle.model.specs.Peers.{Samples, Peer}
use Rattle.peer.specs.declared.peer_state.PeerState.{PeerState}

unfoldable pub peer : PeerState → Samples → Peer
peer p samples = record {
  id = p.id;
  session_id = p.session_id;
  timeline_ghost = p.timeline_ghost;
  start_stop_ghost = p.start_stop_ghost;
  last_seen = p.last_seen;
  addr = p.addr;
  samples = samples;
  next_ping_time = p.next_ping_time;
  ping_timeouts = p.ping_timeouts;
  measuring = p.measuring;
}
