-- The election of a session, its offset, its line and its start-stop state (resolve_session of engine.rs).
use Rattle.std.specs.Prelude.{Bool, true, false, ◌&&◌, ◌||◌, not, cond, List, [], ◌∷◌, ltb, ℤ, pos, Option, Some, None}
use Rattle.std.specs.Int.Signed.{lt_z, le_z}
use Rattle.signed.specs.Equal.{eq_z}
use Rattle.time.specs.declared.HostTime.{HostTime}
use Rattle.timeline.specs.declared.Timeline.{Timeline}
use Rattle.timeline.specs.declared.StartStopState.{StartStopState}
use Rattle.timeline.specs.declared.SessionState.{SessionState}
use Rattle.timeline.specs.Same.{same_state}
use Rattle.wire.specs.declared.NodeId.{NodeId}
use Rattle.wire.specs.Same.{same_node}
use Rattle.model.specs.Sums.{add64, sub64, abs64}
use Rattle.lists.specs.Lists.{best}
use Rattle.model.specs.Peers.{Peer, median_offset, timelines_in, start_stops_in, origin_of, moment_of}
use Rattle.model.specs.Engine.{Box, Produced, Output, state_changed, timeline_to_ghost, timeline_to_host, start_stop_to_ghost, start_stop_to_host}

-- ---- the session and its offset

-- the best session so far, and its offset
pub record Best : Type 0 where
  pub session : NodeId
  pub offset : ℤ

-- a foreign session's shared time is ahead by more than 500,000, or within 500,000 either way, by its wrapped size, where its id is the smaller
unfoldable pub wins : ℤ → Bool → Bool
wins ahead smaller = lt_z (pos 500_000) ahead || le_z (abs64 ahead) (pos 500_000) && smaller

-- the offsets differ by more than 500, by the wrapped size
unfoldable pub readopts : ℤ → ℤ → Bool
readopts ours theirs = lt_z (pos 500) (abs64 (sub64 ours theirs))

-- The best after a neighbour of a session and an offset: in the best's own session only the offset may change, and not where that session is our own node's.
-- Our shared time (`our_ghost_time` of the Rust) is now and the best's offset, so that a win and a readoption both move what the next one is compared with.
unfoldable pub meet : NodeId → HostTime → Best → NodeId → ℤ → Best
meet node now b session offset =
    let theirs : Best = record { session = session; offset = offset } in
    let ahead = sub64 (add64 now.0 offset) (add64 now.0 b.offset) in
    cond (same_node session b.session)
    (cond (not (same_node b.session node) && readopts b.offset offset) theirs b)
    (cond (wins ahead (ltb session.0 b.session.0)) theirs b)

-- a neighbour without a sample or without a session is passed over
unfoldable pub consider : NodeId → HostTime → Best → Option NodeId → List ℤ → Best
consider node now b session [] = b
consider node now b None (o ∷ os) = b
consider node now b (Some s) (o ∷ os) = meet node now b s (median_offset (o ∷ os))

unfoldable pub consider_all : NodeId → HostTime → Best → List Peer → Best
consider_all node now b [] = b
consider_all node now b (p ∷ ps) = consider_all node now (consider node now b p.session_id p.samples.offsets) ps

unfoldable pub best_session : HostTime → Box → Best
best_session now e = consider_all e.node_id now (record { session = e.session_id; offset = e.session_offset }) e.peers

-- ---- the line and the start-stop state of that session, in shared time: our own counts only where we stay in our session

abbrev pub own_if : {A : Type 0} → Bool → A → Option A
own_if true x = Some x
own_if false x = None

-- Our own line is carried into shared time at the offset that has just been elected, not at the one at which we held it.
unfoldable pub best_timeline : Best → Box → Option Timeline
best_timeline b e =
    best origin_of
    (own_if (same_node b.session e.session_id) (timeline_to_ghost b.offset e.state.timeline))
    (timelines_in b.session e.peers)

unfoldable pub best_start_stop : Best → Box → Option StartStopState
best_start_stop b e =
    best moment_of
    (own_if (same_node b.session e.session_id) (start_stop_to_ghost b.offset e.state.start_stop))
    (start_stops_in b.session e.peers)

-- in host time, or the old one where none is known
abbrev pub host_or : {A : Type 0} → (A → A) → A → Option A → A
host_or to_host old None = old
host_or to_host old (Some x) = to_host x

unfoldable pub resolved_state : Best → Box → SessionState
resolved_state b e = record {
  timeline = host_or (timeline_to_host b.offset) e.state.timeline (best_timeline b e);
  start_stop = host_or (start_stop_to_host b.offset) e.state.start_stop (best_start_stop b e);
}

-- ---- the election

unfoldable pub changes : Best → Box → Bool
changes b e = not (same_node b.session e.session_id) || not (eq_z b.offset e.session_offset) || not (same_state (resolved_state b e) e.state)

unfoldable pub resolve_to : HostTime → Best → Box → Box
resolve_to now b e = record {
  node_id = e.node_id;
  enabled = e.enabled;
  session_id = b.session;
  session_offset = b.offset;
  state = resolved_state b e;
  interfaces = e.interfaces;
  peers = e.peers;
  num_session_peers = e.num_session_peers;
  next_broadcast = cond (changes b e) now e.next_broadcast;
}

-- the box after an election, and what an election puts out
unfoldable pub resolved : HostTime → Box → Box
resolved now e = resolve_to now (best_session now e) e

unfoldable pub resolve_outputs : HostTime → Box → List Output
resolve_outputs now e = cond (changes (best_session now e) e) (state_changed (resolved now e).state ∷ []) []

abbrev pub resolve_session : HostTime → Box → Produced
resolve_session now e = record { box = resolved now e; outputs = resolve_outputs now e }

-- an election where there is a reason for one
unfoldable pub resolve_if : Bool → HostTime → Box → Produced
resolve_if true now e = resolve_session now e
resolve_if false now e = record { box = e; outputs = [] }
