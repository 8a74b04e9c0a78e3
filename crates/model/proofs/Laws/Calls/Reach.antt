-- What holds of every box that a list of calls leads to.
use Rattle.std.specs.Prelude.{suc, ◌^◌, ◌<◌, ◌≤◌, ◌≡◌, Bool, true, false, ◌&&◌, ◌||◌, cond, ltb, ℤ, length}
use Rattle.std.proofs.Common.{arith, sym, ap, ◌∙◌, length-take, ltb-true}
use Rattle.std.proofs.Math.Path.{refl, subst}
use mathlib.Core.List.{List, [], ◌∷◌, ◌++◌}
use Rattle.time.specs.declared.HostTime.{HostTime}
use Rattle.timeline.specs.declared.SessionState.{SessionState}
use Rattle.wire.specs.declared.NodeId.{NodeId}
use Rattle.wire.specs.Parse.{parse}
use Rattle.lists.specs.Lists.{keep}
use Rattle.model.specs.Peers.{interface_key, new_peer, peers_in, Samples, no_samples, sampled}
use Rattle.model.specs.Engine.{Box, Output, new, with_state, with_interfaces, with_num_session_peers, with_next_broadcast}
use Rattle.model.specs.Produce.{ping_due, silent, after_ping, session_peers}
use Rattle.model.specs.Laws.Calls.Stages.{upkeep_box}
use Rattle.model.specs.Packet.{session_changed, after_alive, moves, sample_of, moved, samples_with, still_measuring, measured, after_pong}
use Rattle.model.specs.Commit.{taken}
use Rattle.model.specs.Calls.{Call, packet, tick, commit, switch, interface_added, interface_removed, io_error, Outcome, then_produce, resolved_if_needed, take_message, handle_timer, committed, switched_on, next_node_id, switched_off, switch_on, switch_off, remove_interface, handle_io_error, step, next, run, outcomes, left_by}
use Rattle.model.specs.Laws.Calls.Messages.{arrived}
use Rattle.lists.specs.Laws.Bools.{by_cond, clash}
use Rattle.lists.specs.Laws.Each.{nil, Ascending, none_left, ascending_keep, ascending_upsert}
use Rattle.model.proofs.Laws.Calls.Steps.{by_admit, by_packet, by_commit, by_switch, by_add, by_produce, resolve_if_enabled, resolve_if_node, message_enabled, message_node, settled_enabled, produce_node, committed_node}
use Rattle.model.specs.Laws.Calls.Kept.{KeepsPeer, KeepsInterfaces, Anything, Anywhere}
use Rattle.model.proofs.Laws.Calls.Kept.{keeps_few, keeps_ascending, keeps_each, peers_step, interfaces_step, anything_said, anywhere_added}
use Rattle.model.proofs.Laws.Calls.Within.{keeps_few_interfaces}
use Rattle.model.specs.Laws.Calls.Reach.{Few, Measured, Reached, Told}

-- ---- samples

few_none : (measuring : Bool) → Few [] measuring
few_none measuring = (omega arith, λ e. omega arith)

-- five unanswered pings end measuring
ended : (t m : Bool) (xs : List ℤ) → Few xs m → Few xs (cond t false m)
ended true m xs h = (h.0, λ e. clash (sym e))
ended false m xs h = h

-- another session clears the samples
restarted : (t m : Bool) (s : Samples) → Few s.offsets m → Few (cond t no_samples s).offsets (t || m)
restarted true m s h = few_none true
restarted false m s h = h

cleared : (t : Bool) (s : Samples) → length s.offsets ≤ 20 → length (cond t no_samples s).offsets ≤ 20
cleared t s h = by_cond (λ (l : Samples). length l.offsets ≤ 20) t no_samples s (λ e. omega arith) (λ e. h)

-- a sample is kept while there are fewer than 20
one_more : (m : Bool) (ping : HostTime) (x : ℤ) (s : Samples) → length s.offsets ≤ 20 → let t = cond m (sampled ping x s) s in Few t.offsets (m && ltb (length t.offsets) 20)
unfolding sampled
one_more true ping x s h = (omega (arith, length-take 20 (s.offsets ++ (x ∷ []))), λ e. ltb-true _ _ e)
one_more false ping x s h = (h, λ e. clash (sym e))

keeps_measured : KeepsPeer Anything Measured
unfolding new_peer after_ping after_alive after_pong measured still_measuring samples_with moved
keeps_measured = record {
  fresh = λ from m now f s. few_none true;
  pinged = λ now f p h. ended (ping_due now p && silent p) p.measuring p.samples.offsets h;
  alive = λ from m now f s p h. restarted (session_changed m p) p.measuring p.samples h;
  pong = λ from m now f s ps p o free h. one_more p.measuring m.ping_host_time (sample_of m now) (moved m.session_id p).samples (cleared (moves m.session_id p) p.samples h.0);
}

keeps_ascending_interfaces : KeepsInterfaces Anywhere (Ascending interface_key)
keeps_ascending_interfaces = record { kept = λ t h. ascending_keep interface_key t h; added = λ i u free h. ascending_upsert interface_key i h }

-- ---- the node

module _ (e : Box) (h : e.node_id.0 < 2 ^ 64) where
  abbrev Named : Outcome → Type 0
  Named o = (next e o).node_id.0 < 2 ^ 64

  named_produce : (os : List Output) (now : HostTime) (x : Box) → x.node_id ≡ e.node_id → Named (then_produce os now x)
  unfolding then_produce
  named_produce os now x q = subst (λ (n : NodeId). n.0 < 2 ^ 64) (sym (produce_node now x ∙ q)) h

  pub node_step : (c : Call) → (next e (step e c)).node_id.0 < 2 ^ 64
  unfolding step take_message resolved_if_needed handle_timer switch_on switched_on switch_off switched_off next_node_id remove_interface handle_io_error with_interfaces
  node_step (packet iface from bytes now buf_size) = by_admit Named (λ n. h) now buf_size _ (λ f. by_packet Named (λ n. h) e h (arrived iface from now) bytes
      (λ l on free. named_produce _ now _ (resolve_if_node _ now _ ∙ message_node e (arrived iface from now) bytes (parse bytes))))
  node_step (tick now buf_size) = by_admit Named (λ n. h) now buf_size _ (λ f. named_produce _ now e refl)
  node_step (commit s now buf_size) = by_admit Named (λ n. h) now buf_size _ (λ f. by_commit Named (λ n. h) e h s now (named_produce _ now _ (committed_node e s now)))
  node_step (switch b now buf_size) = by_admit Named (λ n. h) now buf_size _ (λ f. by_switch Named (λ n. h) e h b now (λ off. named_produce _ now _ refl) (λ on. omega arith))
  node_step (interface_added iface addr) = by_add Named (λ n. h) e (record { id = iface; addr = addr }) (λ free. h)
  node_step (interface_removed iface) = h
  node_step (io_error iface error) = h

module _ (e : Box) (h : Told e) where
  abbrev Ok : Outcome → Type 0
  Ok o = Told (next e o)

  -- after upkeep the count is right
  told_produce : (os : List Output) (now : HostTime) (x : Box) → (x.enabled ≡ false → Told x) → Ok (then_produce os now x)
  unfolding upkeep_box with_num_session_peers session_peers
  told_produce os now x t = by_produce Ok (λ n. h) os now x (λ on. record { counted = refl; alone = λ off. clash (sym (settled_enabled now x ∙ on) ∙ off) }) t

  told_committed : (s : SessionState) (now : HostTime) → Told (committed e s now)
  unfolding committed with_state with_next_broadcast session_peers
  told_committed s now = by_cond Told e.enabled (with_next_broadcast now (with_state (taken e s) e)) (with_state (taken e s) e)
      (λ on. record { counted = h.counted; alone = h.alone }) (λ off. record { counted = h.counted; alone = h.alone })

  told_step : (c : Call) → Told (next e (step e c))
  unfolding step take_message resolved_if_needed handle_timer switch_on switched_on switch_off switched_off remove_interface handle_io_error with_interfaces session_peers peers_in keep
  told_step (packet iface from bytes now buf_size) = by_admit Ok (λ n. h) now buf_size _ (λ f. by_packet Ok (λ n. h) e h (arrived iface from now) bytes
      (λ l on free. told_produce _ now _ (λ off. clash (sym (resolve_if_enabled _ now _ ∙ message_enabled e (arrived iface from now) bytes (parse bytes) ∙ on) ∙ off))))
  told_step (tick now buf_size) = by_admit Ok (λ n. h) now buf_size _ (λ f. told_produce [] now e (λ off. h))
  told_step (commit s now buf_size) = by_admit Ok (λ n. h) now buf_size _ (λ f. by_commit Ok (λ n. h) e h s now (told_produce _ now _ (λ off. told_committed s now)))
  told_step (switch b now buf_size) = by_admit Ok (λ n. h) now buf_size _ (λ f. by_switch Ok (λ n. h) e h b now (λ off. told_produce _ now _ (λ off'. clash off')) (λ on. record { counted = refl; alone = λ off. refl }))
  told_step (interface_added iface addr) = by_add Ok (λ n. h) e (record { id = iface; addr = addr }) (λ free. record { counted = h.counted; alone = h.alone })
  told_step (interface_removed iface) = record { counted = h.counted; alone = h.alone }
  told_step (io_error iface error) = record { counted = h.counted; alone = h.alone }

-- ---- every call, and every list of calls

pub reached_step : (a : NodeId) (e : Box) → Reached a e → (c : Call) → Reached a (next e (step e c))
reached_step a e r c =
    let t : Told (next e (step e c)) = told_step e (record { counted = r.counted; alone = r.alone }) c in
    record {
      node = λ h. node_step e (r.node h) c;
      ascending_peers = peers_step keeps_ascending e r.ascending_peers c (anything_said c);
      few_peers = peers_step keeps_few e r.few_peers c (anything_said c);
      measured = peers_step (keeps_each keeps_measured) e r.measured c (anything_said c);
      ascending_interfaces = interfaces_step keeps_ascending_interfaces e r.ascending_interfaces c (anywhere_added c);
      few_interfaces = interfaces_step keeps_few_interfaces e r.few_interfaces c (anywhere_added c);
      counted = t.counted;
      alone = t.alone;
    }

pub reached_run : (a : NodeId) (e : Box) → Reached a e → (cs : List Call) → Reached a (run e cs)
unfolding run
reached_run a e r [] = r
reached_run a e r (c ∷ cs) = reached_run a (next e (step e c)) (reached_step a e r c) cs

pub reached_new : (a : NodeId) → Reached a (new a)
unfolding new session_peers peers_in keep
reached_new a = record {
  node = λ h. h;
  ascending_peers = none_left;
  few_peers = omega arith;
  measured = nil;
  ascending_interfaces = none_left;
  few_interfaces = omega arith;
  counted = refl;
  alone = λ off. refl;
}

pub reached : (a : NodeId) (cs : List Call) → Reached a (run (new a) cs)
reached a cs = reached_run a (new a) (reached_new a) cs

pub run_append : (e : Box) (cs ds : List Call) → run e (cs ++ ds) ≡ run (run e cs) ds
unfolding run
run_append e [] ds = refl
run_append e (c ∷ cs) ds = run_append (next e (step e c)) cs ds

-- ---- all the outcomes of a list of calls

-- there is one for each call, those of further calls follow on the box that was led to, and the last box is the run's
pub outcomes_length : (e : Box) (cs : List Call) → length (outcomes e cs) ≡ length cs
unfolding outcomes
outcomes_length e [] = refl
outcomes_length e (c ∷ cs) = ap suc (outcomes_length (next e (step e c)) cs)

pub outcomes_append : (e : Box) (cs ds : List Call) → outcomes e (cs ++ ds) ≡ outcomes e cs ++ outcomes (run e cs) ds
unfolding outcomes run
outcomes_append e [] ds = refl
outcomes_append e (c ∷ cs) ds = ap (λ (os : List Outcome). step e c ∷ os) (outcomes_append (next e (step e c)) cs ds)

pub run_left : (e : Box) (cs : List Call) → run e cs ≡ left_by e (outcomes e cs)
unfolding outcomes run left_by
run_left e [] = refl
run_left e (c ∷ cs) = run_left (next e (step e c)) cs
