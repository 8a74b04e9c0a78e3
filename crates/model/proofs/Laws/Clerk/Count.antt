-- The count of the session's neighbours: it is right after every call, and it is the one that the outputs told of last.
use Rattle.std.specs.Prelude.{ℕ, ◌≡◌, refl, Bool, cond, List, [], ◌∷◌, eqb, length}
use Rattle.std.proofs.Common.{sym, eqb-true}
use Rattle.timeline.specs.declared.SessionState.{SessionState}
use Rattle.wire.specs.declared.NodeId.{NodeId}
use Rattle.model.specs.Peers.{peers_in}
use Rattle.model.specs.Engine.{Box, Output, state_changed, num_peers_changed, new, with_interfaces, with_peers, with_num_session_peers, with_next_broadcast}
use Rattle.model.specs.Election.{best_session, changes, resolve_to, resolved, resolve_outputs}
use Rattle.model.specs.Produce.{session_peers, count_outputs}
use Rattle.model.specs.Calls.{Call, unstarted, switched_on, switched_off, step, next, run, outputs_of}
use Rattle.lists.specs.Laws.Bools.{by_cond}
use Rattle.model.proofs.Laws.Calls.Steps.{committed_count}
use Rattle.model.proofs.Laws.Calls.Reach.{reached}
use Rattle.model.specs.Laws.Calls.Told.{last_told, Tells}
use Rattle.model.proofs.Laws.Calls.Told.{tells_step, tells_run}
use Rattle.model.specs.Laws.Clerk.Count.{count_of, counts_told, told}

-- ---- the stages that tell of it

-- a state tells of no count
past_state : (t : Bool) (s : SessionState) (n : ℕ) → last_told count_of n (cond t (state_changed s ∷ []) []) ≡ n
past_state t s n = by_cond (λ (os : List Output). last_told count_of n os ≡ n) t (state_changed s ∷ []) [] (λ u. refl) (λ u. refl)

-- the count, where it is another
new_count : (k n : ℕ) → last_told count_of n (cond (eqb k n) [] (num_peers_changed k ∷ [])) ≡ k
new_count k n = by_cond (λ (os : List Output). last_told count_of n os ≡ k) (eqb k n) [] (num_peers_changed k ∷ []) (λ t. sym (eqb-true k n t)) (λ t. refl)

no_count : (n : ℕ) → last_told count_of n (cond (eqb n 0) [] (num_peers_changed 0 ∷ [])) ≡ 0
no_count n = by_cond (λ (os : List Output). last_told count_of n os ≡ 0) (eqb n 0) [] (num_peers_changed 0 ∷ []) (λ t. eqb-true n 0 t) (λ t. refl)

tells_count : Tells count_of (λ e. e.num_session_peers)
unfolding with_peers with_interfaces with_next_broadcast with_num_session_peers resolve_outputs resolved resolve_to count_outputs switched_on switched_off
tells_count = record {
  sends = λ iface to ps. refl;
  timers = λ t. refl;
  peers = λ ps e. refl;
  interfaces = λ is e. refl;
  broadcast = λ t e. refl;
  election = λ now e. past_state (changes (best_session now e) e) _ e.num_session_peers;
  count = λ e. new_count (session_peers e) e.num_session_peers;
  takes = λ e s now. sym (committed_count e s now);
  on = λ e now. past_state (unstarted e.state) _ e.num_session_peers;
  off = λ e. no_count e.num_session_peers;
}

-- ---- every call, and every list of calls

pub told_step : (e : Box) (c : Call) → counts_told e.num_session_peers (outputs_of (step e c)) ≡ (next e (step e c)).num_session_peers
unfolding counts_told
told_step = tells_step count_of (λ e. e.num_session_peers) tells_count

-- from any box
pub told_run : (e : Box) (cs : List Call) → told e.num_session_peers e cs ≡ (run e cs).num_session_peers
unfolding told
told_run = tells_run count_of (λ e. e.num_session_peers) tells_count

pub last_count : (a : NodeId) (cs : List Call) → told 0 (new a) cs ≡ (run (new a) cs).num_session_peers
unfolding new
last_count a cs = told_run (new a) cs

-- the count is that of the neighbours that are held under the box's session
pub count_is_true : (a : NodeId) (cs : List Call) → (run (new a) cs).num_session_peers ≡ length (peers_in (run (new a) cs).session_id (run (new a) cs).peers)
unfolding session_peers
count_is_true a cs = (reached a cs).counted
