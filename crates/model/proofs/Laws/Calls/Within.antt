-- Every call leaves at most 16 neighbours, 4 interfaces and 20 samples a neighbour, each with its ping time, from any box of which this holds, also from one
-- that no calls lead to.
use Rattle.std.specs.Prelude.{◌≤◌, refl, Bool, cond, List, [], ◌∷◌, ◌++◌, ℤ, length}
use Rattle.std.proofs.Common.{arith, length-take, length-append}
use Rattle.time.specs.declared.HostTime.{HostTime}
use Rattle.model.specs.Peers.{Samples, no_samples, sampled, new_peer, interface_key}
use Rattle.model.specs.Engine.{Box}
use Rattle.model.specs.Produce.{after_ping}
use Rattle.model.specs.Packet.{session_changed, after_alive, moves, sample_of, moved, samples_with, measured, after_pong}
use Rattle.model.specs.Calls.{Call, step, next, run}
use Rattle.lists.specs.Laws.Bools.{by_cond}
use Rattle.lists.specs.Laws.Each.{length_keep}
use Rattle.model.specs.Laws.Calls.Kept.{KeepsPeer, KeepsInterfaces, Anything, Anywhere}
use Rattle.model.proofs.Laws.Calls.Kept.{keeps_few, keeps_each, upsert_few, peers_step, interfaces_step, anything_said, anywhere_added}
use Rattle.model.specs.Laws.Calls.Within.{Paired, Sampled, Within}

-- another session clears the samples
pub cleared : (t : Bool) (s : Samples) → Paired s → Paired (cond t no_samples s)
cleared t s h = by_cond Paired t no_samples s (λ e. (omega arith, refl)) (λ e. h)

-- one more, where there is room
one_more : (ping : HostTime) (x : ℤ) (s : Samples) → Paired s → Paired (sampled ping x s)
unfolding sampled
one_more ping x s h =
    let os = s.offsets ++ (x ∷ []) in
    let ts = s.ping_times ++ (ping ∷ []) in
    (omega (arith, length-take 20 os), omega (arith, length-take 20 os, length-take 20 ts, length-append s.offsets (x ∷ []), length-append s.ping_times (ping ∷ []), h.1))

pub keeps_samples : KeepsPeer Anything Sampled
unfolding new_peer after_ping after_alive after_pong measured samples_with moved
keeps_samples = record {
  fresh = λ from m now f s. (omega arith, refl);
  pinged = λ now f p h. h;
  alive = λ from m now f s p h. cleared (session_changed m p) p.samples h;
  pong = λ from m now f s ps p o free h.
      let left : Paired (moved m.session_id p).samples = cleared (moves m.session_id p) p.samples h in
      by_cond Paired p.measuring _ _ (λ e. one_more m.ping_host_time (sample_of m now) _ left) (λ e. left);
}

pub keeps_few_interfaces : KeepsInterfaces Anywhere (λ is. length is ≤ 4)
keeps_few_interfaces = record {
  kept = λ t {is} h. omega (arith, length_keep t is);
  added = λ i u {is} free h. upsert_few interface_key i.id 4 i is refl free h;
}

pub within_step : (e : Box) → Within e → (c : Call) → Within (next e (step e c))
within_step e w c = record {
  few_peers = peers_step keeps_few e w.few_peers c (anything_said c);
  few_interfaces = interfaces_step keeps_few_interfaces e w.few_interfaces c (anywhere_added c);
  few_samples = peers_step (keeps_each keeps_samples) e w.few_samples c (anything_said c);
}

pub within_run : (e : Box) → Within e → (cs : List Call) → Within (run e cs)
unfolding run
within_run e w [] = w
within_run e w (c ∷ cs) = within_run (next e (step e c)) (within_step e w c) cs
