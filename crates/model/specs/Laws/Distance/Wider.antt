-- The wider distance rule: its statement. It promises more than the distance rule does, of the previewed line, and asks less: not that the commit changes the
-- line, nor that the receiver is enabled and has another id, nor a tempo above 0; and of the packet only that it names the receiver's session, and has news.
use Rattle.std.specs.Prelude.{ℕ, ◌^◌, ◌<◌, ◌≤◌, ◌≡◌, ◌≢◌, true, ℤ, nat_abs, ◌-ℤ◌, ◌<ℤ◌, Some}
use mathlib.Core.List.{List, [], ◌∷◌, ◌++◌, Memᴰ}
use Rattle.time.specs.declared.HostTime.{HostTime}
use Rattle.timeline.specs.declared.Timeline.{Timeline}
use Rattle.timeline.specs.declared.SessionState.{SessionState}
use Rattle.wire.specs.declared.NodeId.{NodeId}
use Rattle.wire.specs.declared.SocketAddrPlain.{SocketAddrPlain}
use Rattle.wire.specs.Parse.{parse}
use Rattle.lists.specs.Lists.{without}
use Rattle.model.specs.Peers.{Peer, peer_key, timelines_in}
use Rattle.model.specs.Engine.{Box, Output, send, new}
use Rattle.model.specs.Packet.{AliveMsg, news, held_peer}
use Rattle.model.specs.Calls.{Call, packet, commit, done, step, run}
use Rattle.model.specs.Preview.{given, preview}
use Rattle.model.specs.Laws.Calls.Messages.{alive_said}
use Rattle.lists.specs.Laws.Each.{Each}
use Rattle.model.specs.Laws.Distance.Statement.{Small, stands, Keeps, packet_elections}

-- a commit of the state s on box e is accepted, and the bytes are a packet that it writes
pub record Writes (e : Box) (s : SessionState) (now : HostTime) (buf_size : ℕ) (bytes : List ℕ) : Type 0 where
  pub after : Box
  pub outputs : List Output
  pub accepted : step e (commit s now buf_size) ≡ done after outputs
  pub interface : ℕ
  pub to : SocketAddrPlain
  pub written : Memᴰ (send interface to bytes) outputs

-- Box e accepts the bytes. They read as the alive m, which names e's session. Its node is held in that session, with a sample, and m is news of it.
-- The elections of the call keep session and offset.
pub record TakesAlive (e : Box) (interface : ℕ) (from : SocketAddrPlain) (bytes : List ℕ) (now : HostTime) (buf_size : ℕ) (m : AliveMsg) : Type 0 where
  pub after : Box
  pub outputs : List Output
  pub accepted : step e (packet interface from bytes now buf_size) ≡ done after outputs
  pub reads : parse bytes ≡ alive_said m
  pub our_session : m.session_id ≡ Some e.session_id
  pub held : Peer
  pub holds : held_peer m.node_id e.peers ≡ Some held
  pub held_session : held.session_id ≡ m.session_id
  pub sampled : held.samples.offsets ≢ []
  pub is_news : news m held ≡ true
  pub elections : Each (Keeps now) (packet_elections e interface from bytes now)

-- m tells the line `sent`, and no other that e holds for its session, its own included, has a beat origin equal to or above it
pub record Newest (e : Box) (m : AliveMsg) (sent : Timeline) : Type 0 where
  pub tells : m.timeline ≡ Some sent
  pub others : Each (λ l. l.beat_origin.0 <ℤ sent.beat_origin.0) (timelines_in e.session_id (without peer_key m.node_id.0 e.peers))
  pub own : e.state.timeline.beat_origin.0 <ℤ sent.beat_origin.0

-- the sizes of what the sender is asked and knows, and of both offsets
pub record Bounded (sender : Box) (s : SessionState) (receiver : Box) : Type 0 where
  pub tempo : nat_abs s.timeline.tempo.0 ≤ 60_000_000
  pub asked_beat : Small s.timeline.beat_origin.0
  pub asked_time : Small s.timeline.time_origin.0
  pub own_beat : Small sender.state.timeline.beat_origin.0
  pub known_beats : Each (λ l. Small l.beat_origin.0) (timelines_in sender.session_id sender.peers)
  pub sender_offset : Small sender.session_offset
  pub receiver_offset : Small receiver.session_offset

-- The preview of s on the sender is given. At every micro-beat the asked line stands less than one microsecond away from the line that the receiver holds, and
-- the previewed one stands where that does, each of the sender's lines at the sender's offset.
pub record Exactly (sender : Box) (s : SessionState) (now : HostTime) (receiver : Box) : Type 0 where
  pub shown : SessionState
  pub moved : ℤ
  pub is_given : preview sender s now ≡ given shown moved
  pub asked_near : (beat : ℤ) → nat_abs (stands s.timeline sender.session_offset beat -ℤ stands receiver.state.timeline receiver.session_offset beat) < 1_000_000
  pub shown_exactly : (beat : ℤ) → stands shown.timeline sender.session_offset beat ≡ stands receiver.state.timeline receiver.session_offset beat

-- Two engines, each led on from new by its own list of calls; the sender's list ends in the commit, the receiver's in the call that takes the packet.
abbrev pub WiderDistanceRule : Type 0
WiderDistanceRule =
    (a b : NodeId) (calls hears : List Call) (s : SessionState) (now now' : HostTime) (buf_size buf_size' interface : ℕ) (from : SocketAddrPlain) (bytes : List ℕ) (m : AliveMsg) (sent : Timeline)
    → a.0 < 2 ^ 64
    → Writes (run (new a) calls) s now buf_size bytes
    → TakesAlive (run (new b) hears) interface from bytes now' buf_size' m
    → Newest (run (new b) hears) m sent
    → Bounded (run (new a) calls) s (run (new b) hears)
    → Exactly (run (new a) calls) s now (run (new b) (hears ++ (packet interface from bytes now' buf_size' ∷ [])))
