-- The distance rule: its statement.
use Rattle.std.specs.Prelude.{ℕ, ◌^◌, ◌<◌, ◌≤◌, ◌≡◌, ◌≢◌, true, ◌&&◌, cond, ℤ, pos, nat_abs, ◌+ℤ◌, ◌-ℤ◌, ◌*ℤ◌, ◌<ℤ◌, ◌≤ℤ◌, Option, Some}
use mathlib.Core.List.{List, [], ◌∷◌, ◌++◌, Memᴰ}
use Rattle.time.specs.declared.HostTime.{HostTime}
use Rattle.timeline.specs.declared.Timeline.{Timeline}
use Rattle.timeline.specs.declared.SessionState.{SessionState}
use Rattle.wire.specs.declared.NodeId.{NodeId}
use Rattle.wire.specs.declared.SocketAddrPlain.{SocketAddrPlain}
use Rattle.wire.specs.declared.DiscoveryMsg.TheVariants.{Alive}
use Rattle.wire.specs.declared.Message.TheVariants.{Discovery}
use Rattle.wire.specs.Parse.{parse}
use Rattle.lists.specs.Lists.{without}
use Rattle.model.specs.Peers.{Peer, peer_key, timelines_in}
use Rattle.model.specs.Engine.{Box, Output, send, new}
use Rattle.model.specs.Election.{resolved}
use Rattle.model.specs.Produce.{lapse, lapses}
use Rattle.model.specs.Laws.Calls.Stages.{polled}
use Rattle.model.specs.Packet.{handle_message, held_peer}
use Rattle.model.specs.Calls.{Call, packet, commit, done, step, run, resolved_if_needed}
use Rattle.model.specs.Preview.{preview, given}
use Rattle.lists.specs.Laws.Each.{Each}
use Rattle.timeline.specs.declared.StartStopState.{StartStopState}

-- ---- where a line stands

-- at most 10^15 in size
abbrev pub Small : ℤ → Type 0
Small z = nat_abs z ≤ 1_000_000_000_000_000

-- the place of micro-beat b on a line that is carried into shared time at an offset, in millionths of a microsecond: exact, never wrapped
unfoldable pub stands : Timeline → ℤ → ℤ → ℤ
stands l offset b = pos 1_000_000 *ℤ (l.time_origin.0 +ℤ offset) +ℤ (b -ℤ l.beat_origin.0) *ℤ l.tempo.0

-- ---- the elections of a packet call that is taken: the boxes in which they begin

-- in upkeep
unfoldable pub upkeep_elections : HostTime → Box → List Box
upkeep_elections now e = cond (e.enabled && lapses now (polled now e)) (lapse now (polled now e) ∷ []) []

-- on the message itself, and then in upkeep
unfoldable pub packet_elections : Box → ℕ → SocketAddrPlain → List ℕ → HostTime → List Box
packet_elections e iface from bytes now =
    let h = handle_message e (record { iface = iface; from = from; now = now }) bytes (parse bytes) in
    cond h.needs_resolution (h.box ∷ []) [] ++ upkeep_elections now (resolved_if_needed now h).box

-- an election that begins in box e changes neither its session nor its offset
pub record Keeps (now : HostTime) (e : Box) : Type 0 where
  pub session : (resolved now e).session_id ≡ e.session_id
  pub offset : (resolved now e).session_offset ≡ e.session_offset

-- ---- the premises

-- The sender e, as a commit of the state s begins; the bytes are a packet that the commit writes, an alive with the line `sent`.
-- No election is held in a commit before its packets are written, so nothing is asked of those.
pub record Sends (e : Box) (s : SessionState) (now : HostTime) (buf_size : ℕ) (bytes : List ℕ) (sent : Timeline) : Type 0 where
  pub after : Box
  pub outputs : List Output
  pub accepted : step e (commit s now buf_size) ≡ done after outputs
  pub changes : s.timeline ≢ e.state.timeline
  pub interface : ℕ
  pub to : SocketAddrPlain
  pub written : Memᴰ (send interface to bytes) outputs
  pub node : NodeId
  pub start_stop : Option StartStopState
  pub mep4 : Option SocketAddrPlain
  pub session : NodeId
  pub reads : parse bytes ≡ Some (Discovery (Alive node (Some sent) start_stop (Some session) mep4))
  pub in_session : session ≡ e.session_id

-- the same, with the sizes of what it asks and knows
pub record Commits (e : Box) (s : SessionState) (now : HostTime) (buf_size : ℕ) (bytes : List ℕ) (sent : Timeline) : Type 0 where
  pub sends : Sends e s now buf_size bytes sent
  pub tempo : (pos 1 ≤ℤ s.timeline.tempo.0) × (s.timeline.tempo.0 ≤ℤ pos 60_000_000)
  pub asked_beat : Small s.timeline.beat_origin.0
  pub asked_time : Small s.timeline.time_origin.0
  pub own_beat : Small e.state.timeline.beat_origin.0
  pub known_beats : Each (λ l. Small l.beat_origin.0) (timelines_in e.session_id e.peers)
  pub offset : Small e.session_offset

-- The receiver e, as the call begins that takes those bytes from `sender`. That both boxes are in one session is what `our_session` says.
pub record Takes (sender : Box) (sent : Timeline) (e : Box) (interface : ℕ) (from : SocketAddrPlain) (bytes : List ℕ) (now : HostTime) (buf_size : ℕ) : Type 0 where
  pub after : Box
  pub outputs : List Output
  pub accepted : step e (packet interface from bytes now buf_size) ≡ done after outputs
  pub enabled : e.enabled ≡ true
  pub other_node : e.node_id ≢ sender.node_id
  pub our_session : e.session_id ≡ sender.session_id
  pub held : Peer
  pub holds : held_peer sender.node_id e.peers ≡ Some held
  pub held_session : held.session_id ≡ Some sender.session_id
  pub sampled : held.samples.offsets ≢ []
  pub unlike : held.timeline_ghost ≢ Some sent
  pub others : Each (λ l. l.beat_origin.0 <ℤ sent.beat_origin.0) (timelines_in e.session_id (without peer_key sender.node_id.0 e.peers))
  pub own : e.state.timeline.beat_origin.0 <ℤ sent.beat_origin.0
  pub elections : Each (Keeps now) (packet_elections e interface from bytes now)

-- the same, with the size of its offset
pub record Hears (sender : Box) (sent : Timeline) (e : Box) (interface : ℕ) (from : SocketAddrPlain) (bytes : List ℕ) (now : HostTime) (buf_size : ℕ) : Type 0 where
  pub takes : Takes sender sent e interface from bytes now buf_size
  pub offset : Small e.session_offset

-- ---- the rule

-- The preview of s on the sender is given; and at every micro-beat the asked line and the previewed one, each at the sender's offset, stand less than one
-- microsecond away from the line that the receiver holds, at its own offset.
pub record Near (sender : Box) (s : SessionState) (now : HostTime) (receiver : Box) : Type 0 where
  pub shown : SessionState
  pub moved : ℤ
  pub is_given : preview sender s now ≡ given shown moved
  pub asked_near : (beat : ℤ) → nat_abs (stands s.timeline sender.session_offset beat -ℤ stands receiver.state.timeline receiver.session_offset beat) < 1_000_000
  pub shown_near : (beat : ℤ) → nat_abs (stands shown.timeline sender.session_offset beat -ℤ stands receiver.state.timeline receiver.session_offset beat) < 1_000_000

-- Two engines, each led on from new by its own list of calls. The sender's list ends in an accepted commit of s, the receiver's in the accepted call that takes
-- a copy of an alive which that commit wrote. The asked line and the line previewed with that commit's state and time, at the sender's offset as the commit
-- began, are near the line that the receiver holds after its list. The sender's first id fits its type.
abbrev pub DistanceRule : Type 0
DistanceRule =
    (a b : NodeId) (sends hears : List Call) (s : SessionState) (now now' : HostTime) (buf_size buf_size' interface : ℕ) (from : SocketAddrPlain) (bytes : List ℕ) (sent : Timeline)
    → a.0 < 2 ^ 64
    → Commits (run (new a) sends) s now buf_size bytes sent
    → Hears (run (new a) sends) sent (run (new b) hears) interface from bytes now' buf_size'
    → Near (run (new a) sends) s now (run (new b) (hears ++ (packet interface from bytes now' buf_size' ∷ [])))
