-- The calls, one step and a run (the public functions of engine.rs, with the numbers for a call turned down).
use Rattle.std.specs.Prelude.{ℕ, ◌+◌, ◌%◌, ◌^◌, Bool, true, false, ◌&&◌, not, cond, List, [], ◌∷◌, ◌++◌, map, eqb, ltb, leb, pos, length, Option, Some, None}
use Rattle.std.specs.Bool.{beq}
use Rattle.std.specs.Int.Signed.{le_z}
use Rattle.time.specs.declared.HostTime.{HostTime}
use Rattle.time.specs.Same.{same_time}
use Rattle.timeline.specs.declared.SessionState.{SessionState}
use Rattle.timeline.specs.Same.{same_state}
use Rattle.wire.specs.declared.NodeId.{NodeId}
use Rattle.wire.specs.declared.SocketAddrPlain.{SocketAddrPlain}
use Rattle.wire.specs.declared.DiscoveryMsg.TheVariants.{Alive, ByeBye}
use Rattle.wire.specs.declared.MeasurementMsg.TheVariants.{Ping, Pong}
use Rattle.wire.specs.declared.Message.TheVariants.{Discovery, Measurement}
use Rattle.wire.specs.Layout.{byebye_bytes}
use Rattle.wire.specs.Parse.{parse}
use Rattle.wire.specs.Same.{same_node}
use Rattle.model.specs.Sums.{neg64}
use Rattle.lists.specs.Lists.{empty, found, holds, first, has_key, upsert, without}
use Rattle.model.specs.Peers.{Peer, Interface, interface_key}
use Rattle.model.specs.Engine.{Box, Produced, Output, send, state_changed, num_peers_changed, with_state, with_interfaces, with_next_broadcast, multicast}
use Rattle.model.specs.Election.{resolve_if}
use Rattle.model.specs.Produce.{produce_outputs}
use Rattle.model.specs.Packet.{Arrival, Handled, handle_message, held_peer, owns, moves}
use Rattle.model.specs.Commit.{taken}
use Rattle.wire.specs.declared.Message.{Message}

pub data IoErrorKind : Type 0 where
  join_multicast_failed open_unicast_failed send_failed : IoErrorKind

-- The arguments of each function. The last number of the first four is the length of the answer buffer that it is lent. The numbers are any: a call here may
-- have a byte of 300 or a port that no type can hold. That weakens no claim: what is proved of every call holds of those too, and the code's calls, whose
-- arguments are numbers of their types (`CallFits` in laws/calls/Fits), are among them.
pub data Call : Type 0 where
  packet : ℕ → SocketAddrPlain → List ℕ → HostTime → ℕ → Call
  tick : HostTime → ℕ → Call
  commit : SessionState → HostTime → ℕ → Call
  switch : Bool → HostTime → ℕ → Call
  interface_added : ℕ → SocketAddrPlain → Call
  interface_removed : ℕ → Call
  io_error : ℕ → IoErrorKind → Call

-- turned down with a number, or done with the new box and the outputs in order
pub data Outcome : Type 0 where
  refused : ℕ → Outcome
  done : Box → List Output → Outcome

-- 0 to 10^15
abbrev pub timely : HostTime → Bool
timely now = le_z (pos 0) now.0 && le_z now.0 (pos 1_000_000_000_000_000)

-- refusals 1 and 2: a time out of range, an answer buffer under 4,096 bytes
unfoldable pub admit : HostTime → ℕ → Outcome → Outcome
admit now buf_size o = cond (timely now) (cond (ltb buf_size 4096) (refused 2) o) (refused 1)

-- outputs in front of upkeep's
unfoldable pub then_produce : List Output → HostTime → Box → Outcome
then_produce os now e = done (produce_outputs now e).box (os ++ (produce_outputs now e).outputs)

-- ---- handle_packet

-- the box after a message and the election that it may call for
unfoldable pub resolved_if_needed : HostTime → Handled → Produced
resolved_if_needed now h = resolve_if h.needs_resolution now h.box

unfoldable pub take_message : Box → Arrival → List ℕ → Option Message → Outcome
take_message e a bytes m =
    let h = handle_message e a bytes m in
    let r = resolved_if_needed a.now h in
    then_produce (h.outputs ++ r.outputs) a.now r.box

-- the node that an alive is from
abbrev pub alive_sender : Option Message → Option NodeId
alive_sender None = None
alive_sender (Some (Discovery (Alive node timeline start_stop session mep4))) = Some node
alive_sender (Some (Discovery (ByeBye node))) = None
alive_sender (Some (Measurement m)) = None

-- an alive of our own, where this is our node id
abbrev pub our_own : NodeId → Option Message → Bool
our_own id m = holds (λ n. same_node n id) (alive_sender m)

-- a disabled engine hears nothing, and an enabled one not itself
abbrev pub hears : Box → Option Message → Bool
hears e m = e.enabled && not (our_own e.node_id m)

-- a node that is not held, with 16 held
abbrev pub no_room_for : List Peer → NodeId → Bool
no_room_for ps n = not (found (held_peer n ps)) && leb 16 (length ps)

-- p is measured, a pong that names this session leaves it in its own, and it has a sample that answers a ping of this time
abbrev pub sampled_before : Option NodeId → HostTime → Peer → Bool
sampled_before session ping_time p = p.measuring && not (moves session p) && found (first (same_time ping_time) p.samples.ping_times)

-- a pong to a ping time that its owner counted before
abbrev pub doubled : List Peer → SocketAddrPlain → Option Message → Bool
doubled ps from None = false
doubled ps from (Some (Discovery m)) = false
doubled ps from (Some (Measurement (Ping time prev))) = false
doubled ps from (Some (Measurement (Pong session ghost ping prev))) = holds (sampled_before session ping) (first (owns from) ps)

-- refusal 5: an alive for whose sender there is no room; refusal 11: a doubled pong; 0 for a message that is taken
unfoldable pub refusal_by : List Peer → SocketAddrPlain → Option Message → ℕ
refusal_by ps from m = cond (holds (no_room_for ps) (alive_sender m)) 5 (cond (doubled ps from m) 11 0)

abbrev pub read_refusal : Box → SocketAddrPlain → Option Message → ℕ
read_refusal e from m = refusal_by e.peers from m

-- turned down with a number, unless it is 0
abbrev pub unless_refused : ℕ → Outcome → Outcome
unless_refused n o = cond (eqb n 0) o (refused n)

-- the refusals of what was read come after the tests for a disabled engine and for our own alive
unfoldable pub handle_read : Box → Arrival → List ℕ → Option Message → Outcome
handle_read e a bytes m = cond (hears e m) (unless_refused (read_refusal e a.from m) (take_message e a bytes m)) (done e [])

-- refusal 3: a packet over 512 bytes
unfoldable pub handle_packet : Box → Arrival → List ℕ → Outcome
handle_packet e a bytes = cond (ltb 512 (length bytes)) (refused 3) (handle_read e a bytes (parse bytes))

-- ---- handle_timer

unfoldable pub handle_timer : Box → HostTime → Outcome
handle_timer e now = then_produce [] now e

-- ---- commit_app_state

-- the box that has taken the state, before upkeep
unfoldable pub committed : Box → SessionState → HostTime → Box
committed e s now = cond e.enabled (with_next_broadcast now (with_state (taken e s) e)) (with_state (taken e s) e)

unfoldable pub commit_app_state : Box → SessionState → HostTime → Outcome
commit_app_state e s now = cond (same_state e.state s) (done e []) (then_produce (state_changed (taken e s) ∷ []) now (committed e s now))

-- ---- set_enabled

-- whether the line's time origin is 0; then it becomes now
abbrev pub unstarted : SessionState → Bool
unstarted s = same_time s.timeline.time_origin (record { 0 = pos 0 })

unfoldable pub started : HostTime → SessionState → SessionState
started now s = record {
  timeline = record { tempo = s.timeline.tempo; beat_origin = s.timeline.beat_origin; time_origin = now };
  start_stop = s.start_stop;
}

-- alone it is in a session of its own, whose shared time is 0 now
unfoldable pub switched_on : Box → HostTime → Box
switched_on e now = record {
  node_id = e.node_id;
  enabled = true;
  session_id = cond (empty e.peers) e.node_id e.session_id;
  session_offset = cond (empty e.peers) (neg64 now.0) e.session_offset;
  state = cond (unstarted e.state) (started now e.state) e.state;
  interfaces = e.interfaces;
  peers = e.peers;
  num_session_peers = e.num_session_peers;
  next_broadcast = now;
}

unfoldable pub next_node_id : NodeId → NodeId
next_node_id n = record { 0 = (n.0 + 1) % 2 ^ 64 }

unfoldable pub switched_off : Box → Box
switched_off e = record {
  node_id = next_node_id e.node_id;
  enabled = false;
  session_id = next_node_id e.node_id;
  session_offset = e.session_offset;
  state = e.state;
  interfaces = e.interfaces;
  peers = [];
  num_session_peers = 0;
  next_broadcast = e.next_broadcast;
}

unfoldable pub switch_on : Box → HostTime → Outcome
switch_on e now = then_produce (cond (unstarted e.state) (state_changed (started now e.state) ∷ []) []) now (switched_on e now)

-- a bye on every interface, and the count where it was not 0
unfoldable pub switch_off : Box → Outcome
switch_off e =
    done (switched_off e)
    (map (λ i. send i.id multicast (byebye_bytes e.node_id)) e.interfaces ++ cond (eqb e.num_session_peers 0) [] (num_peers_changed 0 ∷ []))

unfoldable pub set_enabled : Box → Bool → HostTime → Outcome
set_enabled e enabled now = cond (beq e.enabled enabled) (done e []) (cond enabled (switch_on e now) (switch_off e))

-- ---- add_interface, remove_interface, handle_io_error

-- a new one with 4 held
abbrev pub full_of : ℕ → List Interface → Bool
full_of iface is = not (found (first (has_key interface_key iface) is)) && leb 4 (length is)

-- refusal 6
unfoldable pub add_interface : Box → ℕ → SocketAddrPlain → Outcome
add_interface e iface addr =
    cond (full_of iface e.interfaces) (refused 6)
    (done (with_interfaces (upsert interface_key (record { id = iface; addr = addr }) e.interfaces) e) [])

unfoldable pub remove_interface : Box → ℕ → Outcome
remove_interface e iface = done (with_interfaces (without interface_key iface e.interfaces) e) []

-- whatever the kind
unfoldable pub handle_io_error : Box → ℕ → IoErrorKind → Outcome
handle_io_error e iface error = remove_interface e iface

-- ---- one call, and a list of them

unfoldable pub step : Box → Call → Outcome
step e (packet iface from bytes now buf_size) = admit now buf_size (handle_packet e (record { iface = iface; from = from; now = now }) bytes)
step e (tick now buf_size) = admit now buf_size (handle_timer e now)
step e (commit s now buf_size) = admit now buf_size (commit_app_state e s now)
step e (switch enabled now buf_size) = admit now buf_size (set_enabled e enabled now)
step e (interface_added iface addr) = add_interface e iface addr
step e (interface_removed iface) = remove_interface e iface
step e (io_error iface error) = handle_io_error e iface error

-- a call that is turned down leaves the box
abbrev pub next : Box → Outcome → Box
next e (refused n) = e
next e (done e' os) = e'

unfoldable pub run : Box → List Call → Box
run e [] = e
run e (c ∷ cs) = run (next e (step e c)) cs

-- what the calls of a list give, each on the box that the one before left
unfoldable pub outcomes : Box → List Call → List Outcome
outcomes e [] = []
outcomes e (c ∷ cs) = step e c ∷ outcomes (next e (step e c)) cs

-- the box that such a list leaves, e before it
unfoldable pub left_by : Box → List Outcome → Box
left_by e [] = e
left_by e (o ∷ os) = left_by (next e o) os

-- ---- what is answered

-- the number of a call's answer: 0 means done
abbrev pub outcome_number : Outcome → ℕ
outcome_number (refused n) = n
outcome_number (done e os) = 0

abbrev pub outputs_of : Outcome → List Output
outputs_of (refused n) = []
outputs_of (done e os) = os
