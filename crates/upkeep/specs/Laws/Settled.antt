-- Where neighbours go: the box and the outputs of the election that follows.
use Rattle.std.specs.Prelude.{ℕ, ◌≡◌, Bool, cond, List, [], ◌∷◌, Some, None}
use Rattle.std.proofs.Math.Path.{refl, sym, ap}
use Rattle.std.proofs.Common.{◌∙◌}
use Rattle.std.proofs.Math.Bool.{true, false}
use Rattle.time.specs.declared.HostTime.{HostTime}
use Rattle.timeline.specs.declared.SessionState.{SessionState}
use Rattle.lists.specs.Lists.{keep}
use Rattle.model.specs.Peers.{Peer}
use Rattle.model.specs.Engine.{Box, state_changed, with_peers, with_next_broadcast}
use Rattle.model.specs.Election.{best_session, best_timeline, best_start_stop, resolved_state, changes, resolve_to, resolved, resolve_outputs, resolve_if}
use Rattle.model.specs.Produce.{after_broadcast, after_pings, lapse, recent}
use Rattle.model.specs.Laws.Calls.Stages.{polled, settled}
use Rattle.engine_state.specs.declared.core_state.Core.{Core}
use Rattle.engine_state.specs.declared.OwnState.{OwnState}
use Rattle.engine_state.specs.Held.{core_box, own_in}
use Rattle.engine_state.specs.Inner.OwnBox.{own_box}
use Rattle.answer.specs.Inner.Planned.{state_outputs}
use Rattle.election.specs.declared.Resolved.{Resolved}
use Rattle.election.specs.Inner.Resolution.{unresolved, resolution, resolution_if}
use Rattle.upkeep.specs.Inner.Decided.{next_after, pinged, staying, decided, decided_in, core_with}
use Rattle.upkeep.specs.Laws.Kept.{loses}
use Rattle.upkeep.specs.Laws.Stay.{all_stay}

-- ---- an election, if there is one

pub reported : (b : Bool) (s : SessionState) → cond b (state_changed s ∷ []) [] ≡ state_outputs (cond b (Some s) None)
unfolding state_outputs
reported true s = refl
reported false s = refl

module _ (now : HostTime) (e : Core) (ps : List Peer) (n : ℕ) (next : HostTime) where
  abbrev pub before_election : Box
  before_election = core_with e ps n (unresolved (own_in e) next)

  pub resolution_box : (b : Bool) → (resolve_if b now before_election).box ≡ core_with e ps n (resolution_if b now (own_in e) next ps)
  unfolding resolve_if resolved resolve_to resolution_if resolution own_box best_session resolved_state best_timeline best_start_stop changes
  resolution_box true = refl
  resolution_box false = refl

  pub resolution_outputs : (b : Bool) → (resolve_if b now before_election).outputs ≡ state_outputs (resolution_if b now (own_in e) next ps).report
  unfolding resolve_if resolved resolve_to resolve_outputs resolution_if resolution own_box best_session resolved_state best_timeline best_start_stop changes state_outputs
  resolution_outputs true = let b = own_box (own_in e) ps in reported (changes (best_session now b) b) (resolved_state (best_session now b) b)
  resolution_outputs false = refl

-- no election changes who the engine is
pub same_node : (b : Bool) (now : HostTime) (own : OwnState) (next : HostTime) (ps : List Peer) → (resolution_if b now own next ps).own.node_id ≡ own.node_id
unfolding resolution_if resolution own_box
same_node true now own next ps = refl
same_node false now own next ps = refl

-- ---- after the pings

module _ (now : HostTime) (e : Core) (qs : List Peer) where
  abbrev left : List Peer
  left = staying now qs

  abbrev goes : Bool
  goes = loses (recent now) (pinged now qs)

  abbrev next : HostTime
  next = next_after now e.next_broadcast

  settled_is : settled now (core_box e qs) ≡ resolve_if goes now (before_election now e left e.num_session_peers next)
  unfolding settled polled after_pings after_broadcast lapse with_peers with_next_broadcast core_box
  settled_is = refl

  pub settled_box : (settled now (core_box e qs)).box ≡ core_with e left e.num_session_peers (decided_in now e qs)
  settled_box = ap (λ a. a.box) settled_is ∙ resolution_box now e left e.num_session_peers next goes

  pub settled_outputs : (settled now (core_box e qs)).outputs ≡ state_outputs (decided_in now e qs).report
  settled_outputs = ap (λ a. a.outputs) settled_is ∙ resolution_outputs now e left e.num_session_peers next goes

-- where one goes there is an election, and else all stay
module _ (now : HostTime) (own : OwnState) (next : HostTime) (ps qs : List Peer) (x : Resolved) (h : qs ≡ pinged now ps) where
  lost : (b : Bool) → loses (recent now) qs ≡ b → resolution_if b now own next (staying now ps) ≡ decided now own next ps
  lost b e = sym (ap (λ (l : Bool). resolution_if l now own next (staying now ps)) (sym (ap (loses (recent now)) h) ∙ e))

  pub one_goes : (rs : List Peer) → loses (recent now) qs ≡ true → rs ≡ keep (recent now) qs → x ≡ resolution now own next rs → (rs ≡ staying now ps) × (x ≡ decided now own next ps)
  unfolding resolution_if
  one_goes rs b p q = let stay : rs ≡ staying now ps = p ∙ ap (keep (recent now)) h in (stay, q ∙ ap (resolution now own next) stay ∙ lost true b)

  pub none_goes : loses (recent now) qs ≡ false → x ≡ unresolved own next → (qs ≡ staying now ps) × (x ≡ decided now own next ps)
  unfolding resolution_if
  none_goes b q = (h ∙ sym (all_stay (recent now) (pinged now ps) (sym (ap (loses (recent now)) h) ∙ b)), q ∙ lost false b)
