-- What an accepted call has done, by its kind: the way from `step` to claims about calls.
use Rattle.std.specs.Prelude.{ℕ, ◌≡◌, refl, Bool, ◌&&◌, not, List, [], eqb, ltb, pos, length}
use Rattle.std.proofs.Math.Path.{sym}
use Rattle.std.proofs.Common.{◌∙◌}
use Rattle.std.proofs.Math.Bool.{true, false, cond}
use Rattle.std.specs.Bool.{beq}
use Rattle.std.specs.Int.Signed.{le_z}
use borrow.Author.Tests.{eqb-true, ltb-false}
use Rattle.signed.specs.Laws.Signs.{le_z-true}
use Rattle.signed.specs.Laws.Tests.{both}
use Rattle.time.specs.declared.HostTime.{HostTime}
use Rattle.timeline.specs.declared.SessionState.{SessionState}
use Rattle.timeline.specs.Same.{same_state}
use Rattle.wire.specs.declared.SocketAddrPlain.{SocketAddrPlain}
use Rattle.wire.specs.Parse.{parse}
use Rattle.model.specs.Engine.{Box, Output}
use Rattle.model.specs.Calls.{Call, packet, tick, commit, switch, interface_added, interface_removed, io_error, Outcome, refused, done, admit, then_produce, take_message, our_own, read_refusal, unless_refused, handle_read, handle_packet, handle_timer, commit_app_state, switch_on, switch_off, set_enabled, add_interface, remove_interface, handle_io_error, step, hears, full_of}
use Rattle.model.specs.Laws.Calls.Messages.{arrived}
use Rattle.lists.specs.Laws.Bools.{split, not_true, cond-true, cond-false}
use Rattle.model.specs.Laws.Tools.Outcomes.{refused_done, done_box, done_outputs}
use Rattle.model.specs.Laws.Calls.Course.{Admitted, Kept, Idle, Course, packet_ignored, packet_taken, ticked, commit_same, commit_taken, switch_same, went_on, went_off, added, removed, failed}

-- ---- each outcome leads to its course

module _ (e' : Box) (os : List Output) where
  pub admitted : (now : HostTime) (buf_size : ℕ) (o : Outcome) → admit now buf_size o ≡ done e' os → Admitted now buf_size × (o ≡ done e' os)
  unfolding admit
  admitted now buf_size o h =
      split (le_z (pos 0) now.0 && le_z now.0 (pos 1_000_000_000_000_000))
      (λ t. let k : cond (ltb buf_size 4096) (refused 2) o ≡ done e' os = sym (cond-true _ _ t) ∙ h in
      let r = both (le_z (pos 0) now.0) (le_z now.0 (pos 1_000_000_000_000_000)) t in
      split (ltb buf_size 4096) (λ u. refused_done 2 e' os (sym (cond-true _ _ u) ∙ k))
      (λ u. (record { from = le_z-true r.0; upto = le_z-true r.1; long = ltb-false buf_size 4096 u }, sym (cond-false _ _ u) ∙ k)))
      (λ t. refused_done 1 e' os (sym (cond-false _ _ t) ∙ h))

  kept : (now : HostTime) (e : Box) (before : List Output) → then_produce before now e ≡ done e' os → Kept now e before e' os
  unfolding then_produce
  kept now e before h = record { box = sym (done_box _ _ _ _ h); outputs = sym (done_outputs _ _ _ _ h) }

  idle : (e : Box) → done e [] ≡ done e' os → Idle e e' os
  idle e h = record { box = sym (done_box _ _ _ _ h); outputs = sym (done_outputs _ _ _ _ h) }

module _ (e e' : Box) (os : List Output) where
  course_packet : (iface : ℕ) (from : SocketAddrPlain) (bytes : List ℕ) (now : HostTime) (buf_size : ℕ) → Admitted now buf_size → handle_packet e (arrived iface from now) bytes ≡ done e' os → Course e e' os (packet iface from bytes now buf_size)
  unfolding handle_packet handle_read take_message
  course_packet iface from bytes now buf_size a h =
      split (ltb 512 (length bytes)) (λ l. refused_done 3 e' os (sym (cond-true _ _ l) ∙ h)) (λ l.
      let h₁ : handle_read e (arrived iface from now) bytes (parse bytes) ≡ done e' os = sym (cond-false _ _ l) ∙ h in
      split (hears e (parse bytes))
      (λ t. let h₂ : unless_refused (read_refusal e from (parse bytes)) (take_message e (arrived iface from now) bytes (parse bytes)) ≡ done e' os = sym (cond-true _ _ t) ∙ h₁ in
      split (eqb (read_refusal e from (parse bytes)) 0)
      (λ u. let r = both e.enabled (not (our_own e.node_id (parse bytes))) t in
      packet_taken a (ltb-false 512 (length bytes) l) r.0 (not_true _ r.1) (eqb-true _ _ u) (kept e' os now _ _ (sym (cond-true _ _ u) ∙ h₂)))
      (λ u. refused_done (read_refusal e from (parse bytes)) e' os (sym (cond-false _ _ u) ∙ h₂)))
      (λ t. packet_ignored a t (idle e' os e (sym (cond-false _ _ t) ∙ h₁))))

  course_commit : (s : SessionState) (now : HostTime) (buf_size : ℕ) → Admitted now buf_size → commit_app_state e s now ≡ done e' os → Course e e' os (commit s now buf_size)
  unfolding commit_app_state
  course_commit s now buf_size a h =
      split (same_state e.state s)
      (λ t. commit_same a t (idle e' os e (sym (cond-true _ _ t) ∙ h)))
      (λ t. commit_taken a t (kept e' os now _ _ (sym (cond-false _ _ t) ∙ h)))

  course_switch : (b : Bool) (now : HostTime) (buf_size : ℕ) → Admitted now buf_size → (x : Bool) → e.enabled ≡ x
      → cond (beq x b) (done e []) (cond b (switch_on e now) (switch_off e)) ≡ done e' os → Course e e' os (switch b now buf_size)
  unfolding switch_on
  course_switch true now buf_size a true f h = switch_same a f (idle e' os e h)
  course_switch true now buf_size a false f h = went_on a f (kept e' os now _ _ h)
  course_switch false now buf_size a true f h = went_off a f (sym h)
  course_switch false now buf_size a false f h = switch_same a f (idle e' os e h)

  course_added : (iface : ℕ) (addr : SocketAddrPlain) → add_interface e iface addr ≡ done e' os → Course e e' os (interface_added iface addr)
  unfolding add_interface
  course_added iface addr h =
      split (full_of iface e.interfaces)
      (λ t. refused_done 6 e' os (sym (cond-true _ _ t) ∙ h))
      (λ t. let k = sym (cond-false _ _ t) ∙ h in added (sym (done_box _ _ _ _ k)) (sym (done_outputs _ _ _ _ k)))

pub course : (e : Box) (c : Call) (e' : Box) (os : List Output) → step e c ≡ done e' os → Course e e' os c
unfolding step handle_timer set_enabled remove_interface handle_io_error
course e (packet iface from bytes now buf_size) e' os h = let (a, k) = admitted e' os now buf_size _ h in course_packet e e' os iface from bytes now buf_size a k
course e (tick now buf_size) e' os h = let (a, k) = admitted e' os now buf_size _ h in ticked a (kept e' os now e [] k)
course e (commit s now buf_size) e' os h = let (a, k) = admitted e' os now buf_size _ h in course_commit e e' os s now buf_size a k
course e (switch b now buf_size) e' os h = let (a, k) = admitted e' os now buf_size _ h in course_switch e e' os b now buf_size a e.enabled refl k
course e (interface_added iface addr) e' os h = course_added e e' os iface addr h
course e (interface_removed iface) e' os h = removed (sym (done_box _ _ _ _ h)) (sym (done_outputs _ _ _ _ h))
course e (io_error iface error) e' os h = failed (sym (done_box _ _ _ _ h)) (sym (done_outputs _ _ _ _ h))
