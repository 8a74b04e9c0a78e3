-- What an accepted call makes of the neighbours that a box holds.
use Rattle.std.specs.Prelude.{ℕ, ◌≡◌, refl, Bool, true, false, ◌&&◌, not, cond, List, []}
use Rattle.std.proofs.Common.{sym, ap₂, ◌∙◌}
use Rattle.std.proofs.Math.Path.{ap}
use Rattle.time.specs.declared.HostTime.{HostTime}
use Rattle.timeline.specs.declared.SessionState.{SessionState}
use Rattle.timeline.specs.Same.{same_state}
use Rattle.wire.specs.Parse.{parse}
use Rattle.model.specs.Peers.{Peer}
use Rattle.model.specs.Engine.{Box, Produced, Output, with_peers, with_state, with_interfaces, with_num_session_peers, with_next_broadcast}
use Rattle.model.specs.Produce.{after_broadcast, after_pings, lapse, produce_outputs}
use Rattle.model.specs.Laws.Calls.Stages.{polled, upkeep_box}
use Rattle.model.specs.Packet.{Arrival, handle_message}
use Rattle.model.specs.Commit.{taken}
use Rattle.model.specs.Calls.{Call, done, resolved_if_needed, committed, switched_on, switched_off, switch_off, step}
use Rattle.model.specs.Laws.Calls.Messages.{arrived}
use Rattle.lists.specs.Laws.Bools.{split, by_cond, cond-true, cond-false}
use Rattle.model.specs.Laws.Tools.Outcomes.{done_box}
use Rattle.model.proofs.Laws.Calls.Steps.{resolve_if_peers, resolve_if_enabled, resolve_if_node, message_enabled, message_node, settled_peers, settled_enabled, produce_on, produce_off}
use Rattle.model.specs.Laws.Calls.Course.{Course, packet_ignored, packet_taken, ticked, commit_same, commit_taken, switch_same, went_on, went_off, added, removed, failed, Kept, messaged}
use Rattle.model.proofs.Laws.Calls.Course.{course}
use Rattle.model.specs.Laws.Clerk.Neighbours.{call_time, upkept, Alike, peers_after}

module _ (now : HostTime) (e : Box) where
  upkeep_peers : (upkeep_box now e).peers ≡ upkept now e.peers
  unfolding upkeep_box with_num_session_peers lapse polled after_pings after_broadcast with_peers with_next_broadcast
  upkeep_peers = settled_peers now e

  pub produce_peers : e.enabled ≡ true → (produce_outputs now e).box.peers ≡ upkept now e.peers
  produce_peers h = ap (λ (a : Produced). a.box.peers) (produce_on now e h) ∙ upkeep_peers

  pub produce_enabled : (produce_outputs now e).box.enabled ≡ e.enabled
  unfolding upkeep_box with_num_session_peers
  produce_enabled = split e.enabled
      (λ h. ap (λ (a : Produced). a.box.enabled) (produce_on now e h) ∙ settled_enabled now e)
      (λ h. ap (λ (a : Produced). a.box.enabled) (produce_off now e h))

module _ (e : Box) (a : Arrival) (bytes : List ℕ) where
  pub messaged_peers : (messaged e a bytes).peers ≡ (handle_message e a bytes (parse bytes)).box.peers
  unfolding resolved_if_needed
  messaged_peers = resolve_if_peers _ a.now _

  pub messaged_alike : Alike e (messaged e a bytes)
  unfolding resolved_if_needed
  messaged_alike =
      let h = handle_message e a bytes (parse bytes) in
      record {
        enabled = resolve_if_enabled h.needs_resolution a.now h.box ∙ message_enabled e a bytes (parse bytes);
        node = resolve_if_node h.needs_resolution a.now h.box ∙ message_node e a bytes (parse bytes);
      }

pub committed_peers : (e : Box) (s : SessionState) (now : HostTime) → (committed e s now).peers ≡ e.peers
unfolding committed with_next_broadcast with_state
committed_peers e s now = by_cond (λ (x : Box). x.peers ≡ e.peers) e.enabled (with_next_broadcast now (with_state (taken e s) e)) (with_state (taken e s) e) (λ t. refl) (λ t. refl)

pub committed_enabled : (e : Box) (s : SessionState) (now : HostTime) → (committed e s now).enabled ≡ e.enabled
unfolding committed with_next_broadcast with_state
committed_enabled e s now = by_cond (λ (x : Box). x.enabled ≡ e.enabled) e.enabled (with_next_broadcast now (with_state (taken e s) e)) (with_state (taken e s) e) (λ t. refl) (λ t. refl)

-- upkeep of a box that has e's neighbours and is enabled as e is
kept_peers : (now : HostTime) (x e' : Box) (before os : List Output) (ps : List Peer) (t : Bool) → Kept now x before e' os → x.peers ≡ ps → x.enabled ≡ t → e'.peers ≡ cond t (upkept now ps) ps
kept_peers now x e' before os ps true k f h = ap (λ (b : Box). b.peers) k.box ∙ produce_peers now x h ∙ ap (upkept now) f
kept_peers now x e' before os ps false k f h = ap (λ (b : Box). b.peers) k.box ∙ ap (λ (a : Produced). a.box.peers) (produce_off now x h) ∙ f

off_peers : (e e' : Box) (os : List Output) → done e' os ≡ switch_off e → e'.peers ≡ []
unfolding switch_off switched_off
off_peers e e' os h = ap (λ (b : Box). b.peers) (done_box _ _ _ _ h)

by_course : (e e' : Box) (os : List Output) (c : Call) → Course e e' os c → e'.peers ≡ peers_after e c
unfolding switched_on with_interfaces
by_course e e' os c (packet_ignored a t i) = ap (λ (b : Box). b.peers) i.box ∙ sym (cond-false _ _ t)
by_course e e' os c (packet_taken {iface} {from} {bytes} {now} a l on own full k) =
    let x = arrived iface from now in
    kept_peers now _ e' _ os _ true k (messaged_peers e x bytes) ((messaged_alike e x bytes).enabled ∙ on) ∙ sym (cond-true _ _ (ap₂ ◌&&◌ on (ap not own)))
by_course e e' os c (ticked {now} a k) = kept_peers now e e' _ os e.peers e.enabled k refl refl
by_course e e' os c (commit_same {s} a t i) = ap (λ (b : Box). b.peers) i.box ∙ sym (cond-false _ _ (ap (λ (b : Bool). e.enabled && not b) t ∙ off e.enabled))
  where
    off : (b : Bool) → b && false ≡ false
    off true = refl
    off false = refl
by_course e e' os c (commit_taken {s} {now} a t k) =
    kept_peers now _ e' _ os e.peers e.enabled k (committed_peers e s now) (committed_enabled e s now) ∙ ap (λ (b : Bool). cond b (upkept now e.peers) e.peers) (on e.enabled)
  where
    on : (b : Bool) → b ≡ b && not (same_state e.state s)
    on true = sym (ap not t)
    on false = refl
by_course e e' os c (switch_same {b} a t i) = ap (λ (x : Box). x.peers) i.box ∙ same b t
  where
    same : (b : Bool) → e.enabled ≡ b → e.peers ≡ cond (b && not e.enabled) (upkept (call_time c) e.peers) (cond (not b && e.enabled) [] e.peers)
    same true t = sym (cond-false _ _ (ap not t))
    same false t = sym (cond-false _ _ t)
by_course e e' os c (went_on {now} a t k) = kept_peers now _ e' _ os e.peers true k refl refl ∙ sym (cond-true _ _ (ap not t))
by_course e e' os c (went_off a t h) = off_peers e e' os h ∙ sym (cond-true _ _ t)
by_course e e' os c (added f g) = ap (λ (b : Box). b.peers) f
by_course e e' os c (removed f g) = ap (λ (b : Box). b.peers) f
by_course e e' os c (failed f g) = ap (λ (b : Box). b.peers) f

pub accepted_peers : (e : Box) (c : Call) (e' : Box) (os : List Output) → step e c ≡ done e' os → e'.peers ≡ peers_after e c
accepted_peers e c e' os h = by_course e e' os c (course e c e' os h)
