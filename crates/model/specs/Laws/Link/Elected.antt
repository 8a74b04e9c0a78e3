-- What an election takes for our line and our start-stop state: the best of those that are known, or the old one.
use Rattle.std.specs.Prelude.{◌≡◌, refl, ◌≢◌, ◌⊎◌, true, false, List, [], ℤ, Option, Some, None}
use Rattle.std.proofs.Common.{sym, ap, subst, inl, inr, eq-eqb}
use Rattle.time.specs.declared.HostTime.{HostTime}
use Rattle.timeline.specs.declared.Timeline.{Timeline}
use Rattle.timeline.specs.declared.StartStopState.{StartStopState}
use Rattle.wire.specs.declared.NodeId.{NodeId}
use Rattle.wire.specs.Same.{same_node}
use Rattle.lists.specs.Lists.{best}
use Rattle.model.specs.Peers.{timelines_in, start_stops_in, origin_of, moment_of}
use Rattle.model.specs.Engine.{Box, timeline_to_ghost, timeline_to_host, start_stop_to_ghost, start_stop_to_host}
use Rattle.model.specs.Election.{host_or, resolved}
use Rattle.lists.specs.Laws.Bools.{none_some, not_true→false}
use Rattle.model.specs.Laws.Tools.Tests.{same_node_true}
use Rattle.model.specs.Laws.Link.Best.{IsBest, best_is, best_none}
use Rattle.model.specs.Laws.Tools.Parts.{Part, known_in, part_by, line_part, start_stop_part}

-- ---- of lines and of start-stop states alike

module _ {A : Type 0} (value : A → ℤ) (to_host : A → A) where
  -- `held` is, in host time, the best of a list and of what is before it
  pub record Adopts (before : Option A) (xs : List A) (held : A) : Type 0 where
    pub one : A
    pub is_best : IsBest value before xs one
    pub in_host_time : held ≡ to_host one

  -- or the old one, where nothing is known
  abbrev pub AdoptsAny : A → List A → A → Type 0
  AdoptsAny old xs held = ((xs ≡ []) × (held ≡ old)) ⊎ Adopts None xs held

  abbrev chosen : A → Option A → List A → A
  chosen old before xs = host_or to_host old (best value before xs)

  adopts_best : (old b : A) (xs : List A) → Adopts (Some b) xs (chosen old (Some b) xs)
  adopts_best old b xs = go (best value (Some b) xs) refl
    where
      go : (o : Option A) → best value (Some b) xs ≡ o → Adopts (Some b) xs (chosen old (Some b) xs)
      go None h = none_some b (sym (best_none value (Some b) xs h).0)
      go (Some r) h = record { one = r; is_best = best_is value (Some b) xs r h; in_host_time = ap (host_or to_host old) h }

  adopts_if_any : (old : A) (xs : List A) → AdoptsAny old xs (chosen old None xs)
  adopts_if_any old xs = go (best value None xs) refl
    where
      go : (o : Option A) → best value None xs ≡ o → AdoptsAny old xs (chosen old None xs)
      go None h = inl ((best_none value None xs h).1, ap (host_or to_host old) h)
      go (Some r) h = inr (record { one = r; is_best = best_is value None xs r h; in_host_time = ap (host_or to_host old) h })

-- ---- of a box

module _ (now : HostTime) (e : Box) where
  -- the session and the offset that the election gives
  abbrev pub new_session : NodeId
  new_session = (resolved now e).session_id

  abbrev pub new_offset : ℤ
  new_offset = (resolved now e).session_offset

  -- what is known for that session
  abbrev pub lines : List Timeline
  lines = timelines_in new_session e.peers

  abbrev pub start_stops : List StartStopState
  start_stops = start_stops_in new_session e.peers

  -- our own as they were, in shared time at the new offset
  abbrev pub our_line : Timeline
  our_line = timeline_to_ghost new_offset e.state.timeline

  abbrev pub our_start_stop : StartStopState
  our_start_stop = start_stop_to_ghost new_offset e.state.start_stop

  pub same_session : new_session ≡ e.session_id → same_node new_session e.session_id ≡ true
  same_session h = eq-eqb _ _ (ap (λ (n : NodeId). n.0) h)

  other_session : new_session ≢ e.session_id → same_node new_session e.session_id ≡ false
  other_session h = not_true→false _ (λ t. h (same_node_true _ _ t))

  -- ---- of any part

  module _ {A : Type 0} (P : Part A) where
    -- what is known of it for that session, and our own as it was, in shared time at the new offset
    abbrev known : List A
    known = known_in P.told new_session e.peers

    abbrev ours : A
    ours = P.to_ghost new_offset (P.of e.state)

    -- where the session stays our own is among those that are compared
    pub part_taken : new_session ≡ e.session_id → Adopts P.value (P.to_host new_offset) (Some ours) known (P.of (resolved now e).state)
    part_taken h = subst (Adopts P.value (P.to_host new_offset) (Some ours) known) (sym (part_by P now e true (same_session h))) (adopts_best P.value (P.to_host new_offset) (P.of e.state) ours known)

    -- where it changes it is not
    pub part_taken_changed : new_session ≢ e.session_id → AdoptsAny P.value (P.to_host new_offset) (P.of e.state) known (P.of (resolved now e).state)
    part_taken_changed h =
        subst (AdoptsAny P.value (P.to_host new_offset) (P.of e.state) known) (sym (part_by P now e false (other_session h))) (adopts_if_any P.value (P.to_host new_offset) (P.of e.state) known)

  -- ---- of the line and of the start-stop state

  pub line_taken : new_session ≡ e.session_id → Adopts origin_of (timeline_to_host new_offset) (Some our_line) lines (resolved now e).state.timeline
  unfolding timelines_in
  line_taken = part_taken line_part

  pub start_stop_taken : new_session ≡ e.session_id → Adopts moment_of (start_stop_to_host new_offset) (Some our_start_stop) start_stops (resolved now e).state.start_stop
  unfolding start_stops_in
  start_stop_taken = part_taken start_stop_part

  pub line_taken_changed : new_session ≢ e.session_id → AdoptsAny origin_of (timeline_to_host new_offset) e.state.timeline lines (resolved now e).state.timeline
  unfolding timelines_in
  line_taken_changed = part_taken_changed line_part

  pub start_stop_taken_changed : new_session ≢ e.session_id → AdoptsAny moment_of (start_stop_to_host new_offset) e.state.start_stop start_stops (resolved now e).state.start_stop
  unfolding start_stops_in
  start_stop_taken_changed = part_taken_changed start_stop_part
