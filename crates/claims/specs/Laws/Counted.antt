-- A host's count over the calls of a list: after each it is the one that the engine has.
use Rattle.std.specs.Prelude.{ℕ, ◌^◌, ◌<◌, ◌≡◌, refl, ◌&&◌, not, cond, List, [], ◌∷◌, eqb, leb, ltb, length, None}
use Rattle.std.proofs.Common.{arith, sym, ap, ap₂, ◌∙◌, subst, ne_eqb}
use Rattle.std.specs.Bool.{beq}
use Rattle.time.specs.declared.HostTime.{HostTime}
use Rattle.timeline.specs.Same.{same_state}
use Rattle.wire.specs.declared.NodeId.{NodeId}
use Rattle.wire.specs.Parse.{parse}
use Rattle.lists.specs.Lists.{found, first, has_key, upsert}
use Rattle.model.specs.Peers.{interface_key, in_session, peers_in}
use Rattle.model.specs.Engine.{Box, Output, state_changed, with_interfaces}
use Rattle.model.specs.Produce.{session_peers}
use Rattle.model.specs.Commit.{taken}
use Rattle.model.specs.Calls.{Call, packet, tick, commit, switch, interface_added, interface_removed, io_error, Outcome, refused, done, timely, admit, then_produce, take_message, hears, read_refusal, unless_refused, handle_read, handle_packet, handle_timer, committed, commit_app_state, switch_on, switch_off, set_enabled, add_interface, remove_interface, handle_io_error, step, next, outcome_number, outputs_of}
use Rattle.model.specs.Answer.{buffer_after}
use Rattle.model.specs.Laws.Tools.Tests.{above_zero}
use Rattle.lists.specs.Laws.Bools.{by_cond, cond-false, none_some}
use Rattle.lists.specs.Laws.Each.{length_keep}
use Rattle.model.specs.Laws.Calls.Messages.{arrived}
use Rattle.model.proofs.Laws.Calls.Steps.{by_add}
use Rattle.model.specs.Laws.Calls.Reach.{Reached}
use Rattle.model.proofs.Laws.Calls.Reach.{reached_step}
use Rattle.model.specs.Laws.Clerk.Count.{counts_told}
use Rattle.model.proofs.Laws.Clerk.Count.{told_step}
use Rattle.engine_state.specs.declared.Engine.{Engine}
use Rattle.engine_state.specs.Held.{held}
use Rattle.call.specs.declared.Called.{Called}
use Rattle.call.specs.Called.{Returns}
use Rattle.claims.specs.Read.{last_count, count_in, counted}
use Rattle.claims.specs.Host.{buf_size_of, nothing, buffer, Led, led_on, call, answers}
use Rattle.claims.specs.Laws.ReadBack.{call_back, count_back}

-- ---- numbers of calls

-- the number of a call that is turned down is above 0
abbrev pub Numbered : Outcome → Type 0
Numbered (refused n) = 0 < n
Numbered (done e os) = Unit {0}

admitted : (now : HostTime) (buf_size : ℕ) (o : Outcome) → Numbered o → Numbered (admit now buf_size o)
unfolding admit
admitted now buf_size o h =
    by_cond Numbered (timely now) (cond (ltb buf_size 4096) (refused 2) o) (refused 1) (λ t. by_cond Numbered (ltb buf_size 4096) (refused 2) o (λ u. omega arith) (λ u. h)) (λ t. omega arith)

pub numbered : (e : Box) (c : Call) → Numbered (step e c)
unfolding step handle_packet handle_read take_message then_produce handle_timer commit_app_state set_enabled switch_on switch_off add_interface remove_interface handle_io_error
numbered e (packet iface from bytes now buf_size) =
    let m = parse bytes in
    let a = arrived iface from now in
    admitted now buf_size (handle_packet e a bytes)
    (by_cond Numbered (ltb 512 (length bytes)) (refused 3) (handle_read e a bytes m) (λ t. omega arith)
    (λ t. by_cond Numbered (hears e m) (unless_refused (read_refusal e from m) (take_message e a bytes m)) (done e [])
    (λ u. by_cond Numbered (eqb (read_refusal e from m) 0) (take_message e a bytes m) (refused (read_refusal e from m)) (λ f. tt) (λ f. above_zero _ f)) (λ u. tt)))
numbered e (tick now buf_size) = admitted now buf_size (handle_timer e now) tt
numbered e (commit s now buf_size) =
    admitted now buf_size (commit_app_state e s now)
    (by_cond Numbered (same_state e.state s) (done e []) (then_produce (state_changed (taken e s) ∷ []) now (committed e s now)) (λ t. tt) (λ t. tt))
numbered e (switch enabled now buf_size) =
    admitted now buf_size (set_enabled e enabled now)
    (by_cond Numbered (beq e.enabled enabled) (done e []) (cond enabled (switch_on e now) (switch_off e)) (λ t. tt)
    (λ t. by_cond Numbered enabled (switch_on e now) (switch_off e) (λ u. tt) (λ u. tt)))
numbered e (interface_added iface addr) =
    by_cond Numbered (not (found (first (has_key interface_key iface) e.interfaces)) && leb 4 (length e.interfaces)) (refused 6)
    (done (with_interfaces (upsert interface_key (record { id = iface; addr = addr }) e.interfaces) e) []) (λ t. omega arith) (λ t. tt)
numbered e (interface_removed iface) = tt
numbered e (io_error iface error) = tt

-- a call that is done, with the box and the outputs
pub record Done (e : Box) (c : Call) : Type 0 where
  pub box : Box
  pub outputs : List Output
  pub gives : step e c ≡ done box outputs

-- a call of the code whose number is 0 is done
pub zero_done : (e : Engine) (c : Call) (r : Called) → Returns e c r → r.number ≡ 0 → Done (held e) c
zero_done e c r says zero = go (step (held e) c) refl
  where
    go : (o : Outcome) → step (held e) c ≡ o → Done (held e) c
    go (refused n) h =
        let above : 0 < n = subst Numbered h (numbered (held e) c) in
        let None : n ≡ 0 = sym (ap outcome_number h) ∙ sym says.number_is ∙ zero in
        let no : ⊥ = omega arith in
        absurd no
    go (done b os) h = record { box = b; outputs = os; gives = h }

-- ---- one call

-- a call that takes no buffer leaves the count
count_unlent : (e : Box) (c : Call) → buf_size_of c ≡ None → e.num_session_peers ≡ (next e (step e c)).num_session_peers
unfolding step remove_interface handle_io_error with_interfaces
count_unlent e (packet iface from bytes now buf_size) h = none_some buf_size (sym h)
count_unlent e (tick now buf_size) h = none_some buf_size (sym h)
count_unlent e (commit s now buf_size) h = none_some buf_size (sym h)
count_unlent e (switch enabled now buf_size) h = none_some buf_size (sym h)
count_unlent e (interface_added iface addr) h = by_add (λ (o : Outcome). e.num_session_peers ≡ (next e o).num_session_peers) (λ n. refl) e (record { id = iface; addr = addr }) (λ free. refl)
count_unlent e (interface_removed iface) h = refl
count_unlent e (io_error iface error) h = refl

-- at most 16 are counted
few_counted : {a : NodeId} {e : Box} → Reached a e → e.num_session_peers < 2 ^ 32
unfolding session_peers peers_in
few_counted {e = e} r = omega (arith, r.counted, r.few_peers, length_keep (in_session e.session_id) e.peers)

-- A host that has the count before a call and reads its answer, if its number is 0, has the count after it.
count_lent : (a : NodeId) (e : Box) → Reached a e → (c : Call) (before : List ℕ)
    → cond (eqb (outcome_number (step e c)) 0) (count_in e.num_session_peers (buffer_after (step e c) before)) e.num_session_peers ≡ (next e (step e c)).num_session_peers
unfolding count_in
count_lent a e r c before = go (step e c) refl
  where
    go : (o : Outcome) → step e c ≡ o → cond (eqb (outcome_number o) 0) (count_in e.num_session_peers (buffer_after (step e c) before)) e.num_session_peers ≡ (next e o).num_session_peers
    go (refused n) h =
        let above : 0 < n = subst Numbered h (numbered e c) in
        cond-false _ _ (ne_eqb n 0 (λ zero. omega arith))
    go (done e' os) h =
        let told : counts_told e.num_session_peers os ≡ e'.num_session_peers =
        subst (λ (o : Outcome). counts_told e.num_session_peers (outputs_of o) ≡ (next e o).num_session_peers) h (told_step e c) in
        let after : e'.num_session_peers < 2 ^ 32 = few_counted (subst (λ (o : Outcome). Reached a (next e o)) h (reached_step a e r c)) in
        ap (last_count e.num_session_peers) (call_back e c e' os r.few_peers r.few_interfaces h before)
        ∙ count_back e.num_session_peers os (few_counted r) (omega (arith, told, after))
        ∙ told

-- ---- lists of calls

-- from an engine that a new one was led to
pub counted_led : (a : NodeId) (e : Engine) (cs : List Call) (last : Engine) → Reached a (held e) → (led : Led e cs last)
    → counted (held e).num_session_peers (answers led) ≡ (held last).num_session_peers
unfolding counted answers
counted_led a e _ _ r (led_on _) = refl
counted_led a e _ last r (call _ c called says (nothing TakesNone) cs _ rest) =
    ap (λ (n : ℕ). counted n (answers rest)) (count_unlent (held e) c TakesNone ∙ sym (ap (λ (b : Box). b.num_session_peers) says.engine_is))
    ∙ counted_led a called.engine cs last (subst (Reached a) (sym says.engine_is) (reached_step a (held e) r c)) rest
counted_led a e _ last r (call _ c called says (buffer before after takes written) cs _ rest) =
    let n = (held e).num_session_peers in
    ap (λ (m : ℕ). counted m (answers rest))
    (ap₂ (λ (i : ℕ) (bs : List ℕ). cond (eqb i 0) (count_in n bs) n) says.number_is written
    ∙ count_lent a (held e) r c before
    ∙ sym (ap (λ (b : Box). b.num_session_peers) says.engine_is))
    ∙ counted_led a called.engine cs last (subst (Reached a) (sym says.engine_is) (reached_step a (held e) r c)) rest
