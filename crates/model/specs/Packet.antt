-- What each kind of message does to the engine (the match of handle_packet in engine.rs).
use Rattle.std.specs.Prelude.{ℕ, Bool, true, false, ◌&&◌, ◌||◌, not, cond, List, [], ◌∷◌, eqb, ltb, ℤ, pos, length, drop, Option, Some, None, unwrap_or}
use Rattle.time.specs.declared.HostTime.{HostTime}
use Rattle.wire.specs.declared.NodeId.{NodeId}
use Rattle.wire.specs.declared.SocketAddrPlain.{SocketAddrPlain}
use Rattle.wire.specs.declared.DiscoveryMsg.TheVariants.{Alive, ByeBye}
use Rattle.wire.specs.declared.MeasurementMsg.TheVariants.{Ping, Pong}
use Rattle.wire.specs.declared.Message.TheVariants.{Discovery, Measurement}
use Rattle.wire.specs.Layout.{ping_bytes, pong_bytes}
use Rattle.wire.specs.Same.{same_addr, same_maybe_node, same_maybe_timeline, same_maybe_start_stop}
use Rattle.model.specs.Sums.{plus}
use Rattle.lists.specs.Lists.{empty, found, first, change, has_key, upsert, without}
use Rattle.model.specs.Peers.{Samples, Peer, Interface, peer_key, interface_key, no_samples, sampled, new_peer, sample}
use Rattle.model.specs.Engine.{Box, Output, send, with_peers, our_alive}
use Rattle.wire.specs.declared.Message.{Message}
use Rattle.timeline.specs.declared.Timeline.{Timeline}
use Rattle.timeline.specs.declared.StartStopState.{StartStopState}

-- where a packet came in, from whom and when
pub record Arrival : Type 0 where
  pub iface : ℕ
  pub from : SocketAddrPlain
  pub now : HostTime

-- the box after a message, what was put out, and whether an election follows
pub record Handled : Type 0 where
  pub box : Box
  pub outputs : List Output
  pub needs_resolution : Bool

unfoldable pub unchanged : Box → Handled
unchanged e = record { box = e; outputs = []; needs_resolution = false }

-- ---- an alive

-- what an alive says
pub record AliveMsg : Type 0 where
  pub node_id : NodeId
  pub timeline : Option Timeline
  pub start_stop : Option StartStopState
  pub session_id : Option NodeId
  pub mep4 : Option SocketAddrPlain

abbrev pub addr_or : SocketAddrPlain → Option SocketAddrPlain → SocketAddrPlain
addr_or from None = from
addr_or from (Some a) = a

unfoldable pub session_changed : AliveMsg → Peer → Bool
session_changed m p = not (same_maybe_node p.session_id m.session_id)

-- whether anything in it is new
unfoldable pub news : AliveMsg → Peer → Bool
news m p = not (same_maybe_timeline p.timeline_ghost m.timeline) || not (same_maybe_start_stop p.start_stop_ghost m.start_stop) || session_changed m p

-- another session clears the samples and restarts measuring
unfoldable pub after_alive : SocketAddrPlain → AliveMsg → HostTime → Peer → Peer
after_alive from m now p = record {
  id = p.id;
  session_id = m.session_id;
  timeline_ghost = m.timeline;
  start_stop_ghost = m.start_stop;
  last_seen = now;
  addr = addr_or from m.mep4;
  samples = cond (session_changed m p) no_samples p.samples;
  next_ping_time = cond (session_changed m p) now p.next_ping_time;
  ping_timeouts = cond (session_changed m p) 0 p.ping_timeouts;
  measuring = session_changed m p || p.measuring;
}

-- the address of an interface, where it is held
abbrev pub addr_of_interface : Option Interface → Option SocketAddrPlain
addr_of_interface None = None
addr_of_interface (Some i) = Some i.addr

unfoldable pub response : Box → ℕ → Peer → Output
response e iface p = send iface p.addr (our_alive e (addr_of_interface (first (has_key interface_key iface) e.interfaces)) true)

-- from the neighbour p, as it is held or new
unfoldable pub handle_alive_of : Box → Arrival → AliveMsg → Peer → Handled
handle_alive_of e a m p =
    let q = after_alive a.from m a.now p in
    record {
      box = with_peers (upsert peer_key q e.peers) e;
      outputs = cond (news m p) (response e a.iface q ∷ []) [];
      needs_resolution = news m p && not (empty q.samples.offsets);
    }

abbrev pub held_peer : NodeId → List Peer → Option Peer
held_peer n ps = first (has_key peer_key n.0) ps

unfoldable pub handle_alive : Box → Arrival → AliveMsg → Handled
handle_alive e a m = handle_alive_of e a m (unwrap_or (held_peer m.node_id e.peers) (new_peer m.node_id a.from a.now))

-- ---- a bye

unfoldable pub handle_byebye : Box → NodeId → Handled
handle_byebye e node = record { box = with_peers (without peer_key node.0 e.peers) e; outputs = []; needs_resolution = found (held_peer node e.peers) }

-- ---- a ping: the pong has our shared time, and all that follows the ping's byte 8

unfoldable pub handle_ping : Box → Arrival → List ℕ → Handled
handle_ping e a bytes = record {
  box = e;
  outputs = send a.iface a.from (pong_bytes e.session_id (plus a.now e.session_offset) (drop 9 bytes)) ∷ [];
  needs_resolution = false;
}

-- ---- a pong

-- what a pong says
pub record PongMsg : Type 0 where
  pub session_id : Option NodeId
  pub ghost_time : HostTime
  pub ping_host_time : HostTime
  pub ping_prev_ghost_time : Option HostTime

-- the sample that it gives, heard at a time
abbrev pub sample_of : PongMsg → HostTime → ℤ
sample_of m now = sample m.ping_prev_ghost_time m.ghost_time m.ping_host_time now

-- it belongs to the first neighbour whose address is the sender's
abbrev pub owns : SocketAddrPlain → Peer → Bool
owns from p = same_addr p.addr from

-- whether a session is given that is not the held one
abbrev pub moves : Option NodeId → Peer → Bool
moves None p = false
moves (Some s) p = not (same_maybe_node p.session_id (Some s))

-- First, such a session replaces the held one and clears the samples.
unfoldable pub moved : Option NodeId → Peer → Peer
moved session p = record {
  id = p.id;
  session_id = cond (moves session p) session p.session_id;
  timeline_ghost = p.timeline_ghost;
  start_stop_ghost = p.start_stop_ghost;
  last_seen = p.last_seen;
  addr = p.addr;
  samples = cond (moves session p) no_samples p.samples;
  next_ping_time = p.next_ping_time;
  ping_timeouts = p.ping_timeouts;
  measuring = p.measuring;
}

-- Then the sample is kept, while the neighbour is measured.
unfoldable pub samples_with : HostTime → ℤ → Peer → Samples
samples_with ping_time offset p = cond p.measuring (sampled ping_time offset p.samples) p.samples

-- measuring ends at 20 samples
unfoldable pub still_measuring : HostTime → ℤ → Peer → Bool
still_measuring ping_time offset p = p.measuring && ltb (length (samples_with ping_time offset p).offsets) 20

unfoldable pub measured : HostTime → ℤ → HostTime → Peer → Peer
measured ping_time offset now p = record {
  id = p.id;
  session_id = p.session_id;
  timeline_ghost = p.timeline_ghost;
  start_stop_ghost = p.start_stop_ghost;
  last_seen = p.last_seen;
  addr = p.addr;
  samples = samples_with ping_time offset p;
  next_ping_time = cond (still_measuring ping_time offset p) (plus now (pos 50_000)) p.next_ping_time;
  ping_timeouts = cond p.measuring 0 p.ping_timeouts;
  measuring = still_measuring ping_time offset p;
}

-- both steps
unfoldable pub after_pong : PongMsg → HostTime → Peer → Peer
after_pong m now p = measured m.ping_host_time (sample_of m now) now (moved m.session_id p)

-- from the neighbour p: the next ping goes out at once; the first sample and the 20th each call for an election
unfoldable pub handle_pong_of : Box → Arrival → PongMsg → Option Peer → Handled
handle_pong_of e a m None = unchanged e
handle_pong_of e a m (Some p) =
    let q = after_pong m a.now p in
    record {
      box = with_peers (change (owns a.from) (after_pong m a.now) e.peers) e;
      outputs = cond q.measuring (send a.iface p.addr (ping_bytes a.now (Some m.ghost_time)) ∷ []) [];
      needs_resolution = p.measuring && (eqb (length q.samples.offsets) 1 || not q.measuring);
    }

unfoldable pub handle_pong : Box → Arrival → PongMsg → Handled
handle_pong e a m = handle_pong_of e a m (first (owns a.from) e.peers)

-- ---- any message

unfoldable pub handle_message : Box → Arrival → List ℕ → Option Message → Handled
handle_message e a bytes None = unchanged e
handle_message e a bytes (Some (Discovery (Alive node timeline start_stop session mep4))) =
    let m : AliveMsg = record { node_id = node; timeline = timeline; start_stop = start_stop; session_id = session; mep4 = mep4 } in
    handle_alive e a m
handle_message e a bytes (Some (Discovery (ByeBye node))) = handle_byebye e node
handle_message e a bytes (Some (Measurement (Ping time prev))) = handle_ping e a bytes
handle_message e a bytes (Some (Measurement (Pong session ghost ping prev))) =
    let m : PongMsg = record { session_id = session; ghost_time = ghost; ping_host_time = ping; ping_prev_ghost_time = prev } in
    handle_pong e a m
