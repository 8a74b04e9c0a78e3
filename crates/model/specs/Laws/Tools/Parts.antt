-- The two parts of a session state that are elected, each by a value of its own: the line and the start-stop state. What holds of both is proved of any part.
use Rattle.std.specs.Prelude.{◌≡◌, refl, Bool, cond, ℤ}
use Rattle.std.proofs.Common.{ap, ◌∙◌}
use mathlib.Core.List.{List, [], flat_map}
use Rattle.time.specs.declared.HostTime.{HostTime}
use Rattle.timeline.specs.declared.Timeline.{Timeline}
use Rattle.timeline.specs.declared.StartStopState.{StartStopState}
use Rattle.timeline.specs.declared.SessionState.{SessionState}
use Rattle.wire.specs.declared.NodeId.{NodeId}
use Rattle.wire.specs.Same.{same_node}
use Rattle.lists.specs.Lists.{best}
use Rattle.model.specs.Peers.{Peer, in_session, peers_in, timeline_list, start_stop_list, timelines_in, start_stops_in, origin_of, moment_of}
use Rattle.model.specs.Engine.{Box, timeline_to_ghost, timeline_to_host, start_stop_to_ghost, start_stop_to_host}
use Rattle.model.specs.Election.{Best, own_if, host_or, best_session, best_timeline, best_start_stop, resolved_state, resolve_to, resolved}
use Rattle.model.specs.Produce.{after_ping}

module _ {A : Type 0} (told : Peer → List A) (s : NodeId) where
  -- what one neighbour tells, if it is in session s, and what all of them tell
  abbrev pub told_in : Peer → List A
  told_in p = cond (in_session s p) (told p) []

  abbrev pub known_in : List Peer → List A
  known_in ps = flat_map told (peers_in s ps)

-- a part, of type A
pub record Part (A : Type 0) : Type 0 where
  -- by which the best is elected
  pub value : A → ℤ
  -- into shared time at an offset, and back
  pub to_ghost : ℤ → A → A
  pub to_host : ℤ → A → A
  -- where it stands in a state
  pub of : SessionState → A
  -- what a neighbour has told of it
  pub told : Peer → List A
  -- an election takes the best of those known and of our own, which counts only where the session stays
  pub elected : (b : Best) (e : Box)
      → of (resolved_state b e)
      ≡ host_or (to_host b.offset) (of e.state) (best value (own_if (same_node b.session e.session_id) (to_ghost b.offset (of e.state))) (known_in told b.session e.peers))
  -- no ping changes it
  pub pinged : (now : HostTime) (p : Peer) → told (after_ping now p) ≡ told p

-- the same by the box after an election
pub part_by : {A : Type 0} (P : Part A) (now : HostTime) (e : Box) (t : Bool) → same_node (resolved now e).session_id e.session_id ≡ t
    → P.of (resolved now e).state
    ≡ host_or (P.to_host (resolved now e).session_offset) (P.of e.state)
    (best P.value (own_if t (P.to_ghost (resolved now e).session_offset (P.of e.state))) (known_in P.told (resolved now e).session_id e.peers))
unfolding resolved resolve_to
part_by P now e t h =
    let b : Best = best_session now e in
    P.elected b e ∙ ap (λ (x : Bool). host_or (P.to_host b.offset) (P.of e.state) (best P.value (own_if x (P.to_ghost b.offset (P.of e.state))) (known_in P.told b.session e.peers))) h

-- ---- the line, by its beat origin

abbrev told_line : Peer → List Timeline
told_line p = timeline_list p.timeline_ghost

pub line_elected : (b : Best) (e : Box)
    → (resolved_state b e).timeline
    ≡ host_or (timeline_to_host b.offset) e.state.timeline (best origin_of (own_if (same_node b.session e.session_id) (timeline_to_ghost b.offset e.state.timeline)) (known_in told_line b.session e.peers))
unfolding resolved_state best_timeline timelines_in
line_elected b e = refl

pub line_pinged : (now : HostTime) (p : Peer) → told_line (after_ping now p) ≡ told_line p
unfolding after_ping
line_pinged now p = refl

abbrev pub line_part : Part Timeline
line_part = record {
  value = origin_of;
  to_ghost = timeline_to_ghost;
  to_host = timeline_to_host;
  of = λ s. s.timeline;
  told = told_line;
  elected = line_elected;
  pinged = line_pinged;
}

-- ---- the start-stop state, by its time

abbrev told_start_stop : Peer → List StartStopState
told_start_stop p = start_stop_list p.start_stop_ghost

pub start_stop_elected : (b : Best) (e : Box)
    → (resolved_state b e).start_stop
    ≡ host_or (start_stop_to_host b.offset) e.state.start_stop
    (best moment_of (own_if (same_node b.session e.session_id) (start_stop_to_ghost b.offset e.state.start_stop)) (known_in told_start_stop b.session e.peers))
unfolding resolved_state best_start_stop start_stops_in
start_stop_elected b e = refl

pub start_stop_pinged : (now : HostTime) (p : Peer) → told_start_stop (after_ping now p) ≡ told_start_stop p
unfolding after_ping
start_stop_pinged now p = refl

abbrev pub start_stop_part : Part StartStopState
start_stop_part = record {
  value = moment_of;
  to_ghost = start_stop_to_ghost;
  to_host = start_stop_to_host;
  of = λ s. s.start_stop;
  told = told_start_stop;
  elected = start_stop_elected;
  pinged = start_stop_pinged;
}
