-- What Link's callbacks for the tempo and for start and stop ask: the app is told of every change of the state.
use Rattle.std.specs.Prelude.{ℕ, ◌≡◌, refl, ◌⊎◌, Bool, true, false, ◌||◌, not, cond, eqb}
use Rattle.std.proofs.Common.{sym, ap, ◌∙◌, subst, inl, inr, ⊎_elim}
use mathlib.Core.List.{List, [], ◌∷◌, Memᴰ}
use Rattle.signed.specs.Equal.{eq_z}
use Rattle.time.specs.declared.HostTime.{HostTime}
use Rattle.timeline.specs.declared.SessionState.{SessionState}
use Rattle.timeline.specs.Session.{default_state}
use Rattle.timeline.specs.Same.{same_state}
use Rattle.wire.specs.declared.NodeId.{NodeId}
use Rattle.wire.specs.Same.{same_node}
use Rattle.model.specs.Engine.{Box, Output, send, state_changed, num_peers_changed, set_timer, new, with_state, with_interfaces, with_peers, with_num_session_peers, with_next_broadcast}
use Rattle.model.specs.Election.{Best, best_session, resolved_state, changes, resolve_to, resolved, resolve_outputs}
use Rattle.model.specs.Produce.{session_peers, count_outputs}
use Rattle.model.specs.Commit.{taken}
use Rattle.model.specs.Calls.{Call, Outcome, done, unstarted, started, switched_on, switched_off, committed, step, next, run, outputs_of}
use Rattle.lists.specs.Laws.Bools.{by_cond, clash}
use Rattle.model.specs.Laws.Tools.Tests.{same_state_true}
use Rattle.model.specs.Laws.Calls.Told.{last_told, Tells}
use Rattle.model.proofs.Laws.Calls.Told.{tells_step, tells_run}
use Rattle.model.specs.Laws.Link.Reports.{state_of, states_told}

-- ---- the stages that tell of it

-- an election that changes nothing leaves the state
third_holds : (x y z : Bool) → not x || not y || not z ≡ false → z ≡ true
third_holds true true true h = refl
third_holds true true false h = sym h
third_holds true false z h = clash h
third_holds false y z h = clash h

unchanged_state : (b : Best) (e : Box) → changes b e ≡ false → resolved_state b e ≡ e.state
unfolding changes
unchanged_state b e h = same_state_true _ _ (third_holds (same_node b.session e.session_id) (eq_z b.offset e.session_offset) (same_state (resolved_state b e) e.state) h)

tells_elected : (now : HostTime) (e : Box) → last_told state_of e.state (resolve_outputs now e) ≡ (resolved now e).state
unfolding resolve_outputs resolved resolve_to
tells_elected now e =
    by_cond (λ (os : List Output). last_told state_of e.state os ≡ (resolved now e).state) (changes (best_session now e) e) (state_changed (resolved now e).state ∷ []) []
    (λ t. refl) (λ t. sym (unchanged_state (best_session now e) e t))

-- a count tells of no state
past_count : (t : Bool) (k : ℕ) (s : SessionState) → last_told state_of s (cond t [] (num_peers_changed k ∷ [])) ≡ s
past_count t k s = by_cond (λ (os : List Output). last_told state_of s os ≡ s) t [] (num_peers_changed k ∷ []) (λ u. refl) (λ u. refl)

tells_taken : (e : Box) (s : SessionState) (now : HostTime) → taken e s ≡ (committed e s now).state
unfolding committed with_state with_next_broadcast
tells_taken e s now = by_cond (λ (x : Box). taken e s ≡ x.state) e.enabled (with_next_broadcast now (with_state (taken e s) e)) (with_state (taken e s) e) (λ t. refl) (λ t. refl)

tells_started : (t : Bool) (s s' : SessionState) → last_told state_of s (cond t (state_changed s' ∷ []) []) ≡ cond t s' s
tells_started true s s' = refl
tells_started false s s' = refl

tells_state : Tells state_of (λ e. e.state)
unfolding with_peers with_interfaces with_next_broadcast with_num_session_peers count_outputs switched_on switched_off
tells_state = record {
  sends = λ iface to ps. refl;
  timers = λ t. refl;
  peers = λ ps e. refl;
  interfaces = λ is e. refl;
  broadcast = λ t e. refl;
  election = tells_elected;
  count = λ e. past_count (eqb (session_peers e) e.num_session_peers) (session_peers e) e.state;
  takes = tells_taken;
  on = λ e now. tells_started (unstarted e.state) e.state (started now e.state);
  off = λ e. past_count (eqb e.num_session_peers 0) 0 e.state;
}

-- ---- one call, from any box

-- the last one told of stands among the outputs, or none does
told_or_none : (s : SessionState) (os : List Output) → (last_told state_of s os ≡ s) ⊎ Memᴰ (state_changed (last_told state_of s os)) os
told_or_none s [] = inl refl
told_or_none s (send iface to ps ∷ os) = ⊎_elim inl (λ m. inr (Memᴰ.tail m)) (told_or_none s os)
told_or_none s (state_changed s' ∷ os) = inr (⊎_elim (λ h. Memᴰ.head (ap state_changed h)) Memᴰ.tail (told_or_none s' os))
told_or_none s (num_peers_changed k ∷ os) = ⊎_elim inl (λ m. inr (Memᴰ.tail m)) (told_or_none s os)
told_or_none s (set_timer t ∷ os) = ⊎_elim inl (λ m. inr (Memᴰ.tail m)) (told_or_none s os)

module _ (e : Box) (c : Call) (e' : Box) (os : List Output) (accepted : step e c ≡ done e' os) where
  -- the last state that the call puts out, or else the one before it, is the one after it
  pub told_after : last_told state_of e.state os ≡ e'.state
  told_after = subst (λ (o : Outcome). last_told state_of e.state (outputs_of o) ≡ (next e o).state) accepted (tells_step state_of (λ x. x.state) tells_state e c)

  -- the state is as it was, or the new one is put out
  pub change_told : (e'.state ≡ e.state) ⊎ Memᴰ (state_changed e'.state) os
  change_told = ⊎_elim (λ h. inl (sym told_after ∙ h)) (λ m. inr (subst (λ (s : SessionState). Memᴰ (state_changed s) os) told_after m)) (told_or_none e.state os)

  -- so where none is put out it is as it was
  pub untold_unchanged : ((s : SessionState) → Memᴰ (state_changed s) os → ⊥) → e'.state ≡ e.state
  untold_unchanged none_put_out = ⊎_elim (λ h. h) (λ m. absurd (none_put_out _ m)) change_told

-- ---- every list of calls

-- the last state that any call so far put out, the new box's if none was, is the one that is held
pub told_state : (a : NodeId) (cs : List Call) → states_told default_state (new a) cs ≡ (run (new a) cs).state
unfolding states_told new
told_state a cs = tells_run state_of (λ e. e.state) tells_state (new a) cs
