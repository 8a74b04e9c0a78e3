-- What Link's documentation says of being heard: once enabled an instance announces itself, and a committed change goes to the others. Both go out in the
-- call itself, on every interface, as a bye does.
use Rattle.std.specs.Prelude.{ℕ, ◌≡◌, ◌≤ℤ◌}
use Rattle.std.proofs.Math.Path.{refl, subst}
use Rattle.std.proofs.Common.{sym, ap, ◌∙◌}
use Rattle.std.proofs.Math.Bool.{true, false}
use mathlib.Core.List.{List, map, Memᴰ}
use Rattle.std.specs.Int.Signed.{≤ℤ_refl}
use Rattle.signed.specs.Laws.Signs.{le_le_z}
use Rattle.time.specs.declared.HostTime.{HostTime}
use Rattle.timeline.specs.declared.SessionState.{SessionState}
use Rattle.timeline.specs.Same.{same_state}
use Rattle.model.specs.Peers.{Interface}
use Rattle.model.specs.Engine.{Box, Produced, Output, with_state, with_next_broadcast}
use Rattle.model.specs.Produce.{broadcasts, produce_outputs}
use Rattle.model.specs.Laws.Calls.Stages.{upkeep_outputs}
use Rattle.model.specs.Commit.{taken}
use Rattle.model.specs.Calls.{commit, switch, done, committed, switched_on, switch_off, step}
use Rattle.lists.specs.Laws.Bools.{clash, cond-true}
use Rattle.model.specs.Laws.Tools.Outcomes.{done_outputs}
use Rattle.lists.specs.Laws.Each.{mem_left, mem_right}
use Rattle.model.proofs.Laws.Calls.Steps.{produce_on, committed_interfaces}
use Rattle.model.specs.Laws.Calls.Course.{Course, commit_same, commit_taken, switch_same, went_on, went_off, Kept}
use Rattle.model.proofs.Laws.Calls.Course.{course}
use Rattle.model.proofs.Laws.Clerk.Neighbours.{committed_enabled}
use Rattle.model.proofs.Laws.Clerk.Ids.{mem_map}
use Rattle.model.specs.Laws.Link.Announces.{announcement, farewell}

-- ---- upkeep of an enabled box whose broadcast is due now

module _ (now : HostTime) (e : Box) (on : e.enabled ≡ true) (due : e.next_broadcast ≡ now) where
  due_broadcasts : broadcasts now e ≡ map (announcement e) e.interfaces
  unfolding broadcasts
  due_broadcasts = cond-true _ _ (le_le_z _ _ (subst (λ (t : HostTime). t.0 ≤ℤ now.0) (sym due) (≤ℤ_refl _)))

  upkeep_announces : (i : Interface) → Memᴰ i e.interfaces → Memᴰ (announcement e i) (produce_outputs now e).outputs
  unfolding upkeep_outputs
  upkeep_announces i m =
      subst (λ (a : Produced). Memᴰ (announcement e i) a.outputs) (sym (produce_on now e on))
      (mem_left _ (subst (Memᴰ (announcement e i)) (sym due_broadcasts) (mem_map (announcement e) i m)))

  kept_announces : (before : List Output) (e' : Box) (os : List Output) → Kept now e before e' os
      → (i : Interface) → Memᴰ i e.interfaces → Memᴰ (announcement e i) os
  kept_announces before e' os k i m = subst (Memᴰ (announcement e i)) (sym k.outputs) (mem_right before (upkeep_announces i m))

-- a commit makes the broadcast of an enabled box due
commit_due : (e : Box) (s : SessionState) (now : HostTime) → e.enabled ≡ true → (committed e s now).next_broadcast ≡ now
unfolding committed with_next_broadcast
commit_due e s now on = ap (λ (x : Box). x.next_broadcast) (cond-true (with_next_broadcast now (with_state (taken e s) e)) (with_state (taken e s) e) on)

-- ---- the calls, on any box, and so after any calls

module _ (e e' : Box) (os : List Output) (now : HostTime) (buf_size : ℕ) where
  -- switching on announces the box that it has made
  pub enabling_announces : e.enabled ≡ false → step e (switch true now buf_size) ≡ done e' os → (i : Interface) → Memᴰ i e.interfaces → Memᴰ (announcement (switched_on e now) i) os
  unfolding switched_on
  enabling_announces off accepted i m = go (course e (switch true now buf_size) e' os accepted)
    where
      go : Course e e' os (switch true now buf_size) → Memᴰ (announcement (switched_on e now) i) os
      go (switch_same a on k) = clash (sym on ∙ off)
      go (went_on a t k) = kept_announces now (switched_on e now) refl refl _ e' os k i m

  -- a commit of another state announces the box that has taken it
  pub commit_announces : (s : SessionState) → e.enabled ≡ true → same_state e.state s ≡ false → step e (commit s now buf_size) ≡ done e' os
      → (i : Interface) → Memᴰ i e.interfaces → Memᴰ (announcement (committed e s now) i) os
  commit_announces s on other accepted i m = go (course e (commit s now buf_size) e' os accepted)
    where
      go : Course e e' os (commit s now buf_size) → Memᴰ (announcement (committed e s now) i) os
      go (commit_same a t k) = clash (sym t ∙ other)
      go (commit_taken a t k) =
          kept_announces now (committed e s now) (committed_enabled e s now ∙ on) (commit_due e s now on) _ e' os k i (subst (Memᴰ i) (sym (committed_interfaces e s now)) m)

  -- switching off says bye
  pub leaving_announces : e.enabled ≡ true → step e (switch false now buf_size) ≡ done e' os → (i : Interface) → Memᴰ i e.interfaces → Memᴰ (farewell e i) os
  unfolding switch_off
  leaving_announces on accepted i m = go (course e (switch false now buf_size) e' os accepted)
    where
      go : Course e e' os (switch false now buf_size) → Memᴰ (farewell e i) os
      go (switch_same a off k) = clash (sym on ∙ off)
      go (went_off a t k) = subst (Memᴰ (farewell e i)) (sym (done_outputs _ _ _ _ k)) (mem_left _ (mem_map (farewell e) i m))
