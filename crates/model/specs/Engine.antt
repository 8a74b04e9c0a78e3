-- The engine's state, and what its calls put out (Engine and Output of engine.rs).
use Rattle.std.specs.Prelude.{ℕ, Bool, false, List, [], ℤ, pos, Option}
use Rattle.time.specs.declared.HostTime.{HostTime}
use Rattle.timeline.specs.declared.Timeline.{Timeline}
use Rattle.timeline.specs.declared.StartStopState.{StartStopState}
use Rattle.timeline.specs.declared.SessionState.{SessionState}
use Rattle.timeline.specs.Session.{default_state}
use Rattle.wire.specs.declared.NodeId.{NodeId}
use Rattle.wire.specs.declared.SocketAddrPlain.{SocketAddrPlain}
use Rattle.wire.specs.Layout.{alive_bytes}
use Rattle.model.specs.Sums.{plus, minus}
use Rattle.model.specs.Peers.{Peer, Interface}

-- both maps are lists, which calls keep ascending by id and by number
pub record Box : Type 0 where
  pub node_id : NodeId
  pub enabled : Bool
  pub session_id : NodeId
  pub session_offset : ℤ
  pub state : SessionState
  pub interfaces : List Interface
  pub peers : List Peer
  pub num_session_peers : ℕ
  pub next_broadcast : HostTime

-- Engine::new
unfoldable pub new : NodeId → Box
new node_id = record {
  node_id = node_id;
  enabled = false;
  session_id = node_id;
  session_offset = pos 0;
  state = default_state;
  interfaces = [];
  peers = [];
  num_session_peers = 0;
  next_broadcast = record { 0 = pos 0 };
}

-- ---- some fields changed

-- the same node and session with another state, interfaces, neighbours, count and next broadcast
abbrev pub with_fields : SessionState → List Interface → List Peer → ℕ → HostTime → Box → Box
with_fields state is ps n next e = record {
  node_id = e.node_id;
  enabled = e.enabled;
  session_id = e.session_id;
  session_offset = e.session_offset;
  state = state;
  interfaces = is;
  peers = ps;
  num_session_peers = n;
  next_broadcast = next;
}

unfoldable pub with_state : SessionState → Box → Box
with_state state e = with_fields state e.interfaces e.peers e.num_session_peers e.next_broadcast e

unfoldable pub with_interfaces : List Interface → Box → Box
with_interfaces is e = with_fields e.state is e.peers e.num_session_peers e.next_broadcast e

unfoldable pub with_peers : List Peer → Box → Box
with_peers ps e = with_fields e.state e.interfaces ps e.num_session_peers e.next_broadcast e

unfoldable pub with_num_session_peers : ℕ → Box → Box
with_num_session_peers n e = with_fields e.state e.interfaces e.peers n e.next_broadcast e

unfoldable pub with_next_broadcast : HostTime → Box → Box
with_next_broadcast next e = with_fields e.state e.interfaces e.peers e.num_session_peers next e

-- ---- host time to shared time, and back, at an offset

unfoldable pub timeline_to_ghost : ℤ → Timeline → Timeline
timeline_to_ghost offset l = record { tempo = l.tempo; beat_origin = l.beat_origin; time_origin = plus l.time_origin offset }

unfoldable pub timeline_to_host : ℤ → Timeline → Timeline
timeline_to_host offset l = record { tempo = l.tempo; beat_origin = l.beat_origin; time_origin = minus l.time_origin offset }

unfoldable pub start_stop_to_ghost : ℤ → StartStopState → StartStopState
start_stop_to_ghost offset s = record { is_playing = s.is_playing; beat = s.beat; time = plus s.time offset }

unfoldable pub start_stop_to_host : ℤ → StartStopState → StartStopState
start_stop_to_host offset s = record { is_playing = s.is_playing; beat = s.beat; time = minus s.time offset }

-- ---- outputs

pub data Output : Type 0 where
  send : ℕ → SocketAddrPlain → List ℕ → Output
  state_changed : SessionState → Output
  num_peers_changed : ℕ → Output
  set_timer : HostTime → Output

-- a box, and what was put out on the way to it
pub record Produced : Type 0 where
  pub box : Box
  pub outputs : List Output

-- 224.76.78.75, port 20808
abbrev pub multicast : SocketAddrPlain
multicast = record { ip = 0xe04c_4e4b; port = 20808 }

-- our alive, or our response: our session, and our state in shared time
unfoldable pub our_alive : Box → Option SocketAddrPlain → Bool → List ℕ
our_alive e mep4 is_response =
    alive_bytes e.node_id e.session_id (timeline_to_ghost e.session_offset e.state.timeline) (start_stop_to_ghost e.session_offset e.state.start_stop) mep4 is_response
