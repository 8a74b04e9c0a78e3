-- What an accepted commit writes: each packet among its outputs that reads as an alive is an alive of the box that took the state.
use Rattle.std.specs.Prelude.{ℕ, ◌^◌, ◌<◌, ◌≡◌, refl, Bool, eqb, Some}
use Rattle.std.proofs.Common.{arith, ap, ◌∙◌, subst}
use Rattle.std.proofs.Math.Path.{sym}
use Rattle.std.proofs.Math.Bool.{true, false}
use mathlib.Core.List.Memᴰ
use mathlib.Core.List.{List, ◌∷◌, Memᴰ}
use Rattle.time.specs.declared.HostTime.{HostTime}
use Rattle.time.specs.Same.{same_time}
use Rattle.timeline.specs.declared.Timeline.{Timeline}
use Rattle.timeline.specs.declared.SessionState.{SessionState}
use Rattle.wire.specs.declared.SocketAddrPlain.{SocketAddrPlain}
use Rattle.wire.specs.declared.DiscoveryMsg.{DiscoveryMsg}
use Rattle.wire.specs.declared.Message.TheVariants.{Discovery}
use Rattle.wire.specs.Layout.{alive_bytes}
use Rattle.wire.specs.Parse.{parse}
use Rattle.model.specs.Sums.{never}
use Rattle.model.specs.Peers.{Peer, Interface}
use Rattle.model.specs.Engine.{Box, Produced, Output, send, state_changed, num_peers_changed, set_timer, our_alive, with_state, with_next_broadcast, timeline_to_ghost, start_stop_to_ghost}
use Rattle.model.specs.Election.{resolve_if, resolve_outputs, changes, best_session}
use Rattle.model.specs.Produce.{broadcast_due, broadcasts, pings, timer_outputs, session_peers, count_outputs, produce_outputs, asks}
use Rattle.model.specs.Laws.Calls.Messages.{alive_said}
use Rattle.model.specs.Laws.Calls.Stages.{settled, upkeep_outputs}
use Rattle.model.specs.Packet.{AliveMsg}
use Rattle.model.specs.Commit.{taken}
use Rattle.model.specs.Calls.{commit, done, step, committed}
use Rattle.lists.specs.Laws.Bools.{split}
use Rattle.lists.specs.Laws.Each.{Each, nil, ◌▸◌, each_mem, each_append, either, each_of_map, each_of_flat_map}
use Rattle.model.proofs.Laws.Calls.Steps.{produce_on, produce_off}
use Rattle.model.specs.Laws.Calls.Course.{Course, commit_same, commit_taken}
use Rattle.model.proofs.Laws.Calls.Course.{course}
use Rattle.model.specs.Laws.Distance.Wider.{Writes}
use Rattle.model.specs.Laws.Distance.Reads.{low_bits, Tells, alive_says, ping_no}

-- ---- the outputs of upkeep

-- if o is a packet that reads as a discovery message, it is an alive of e
abbrev Ours : Box → Output → Type 0
Ours e o = (i : ℕ) (to : SocketAddrPlain) (bytes : List ℕ) (m : DiscoveryMsg) → o ≡ send i to bytes → parse bytes ≡ Some (Discovery m) → (a : SocketAddrPlain) × (bytes ≡ our_alive e (Some a) false)

bytes_of : (i j : ℕ) (to to' : SocketAddrPlain) (bs bs' : List ℕ) → send i to bs ≡ send j to' bs' → bs ≡ bs'
bytes_of i j to to' bs bs' h = cc

no_state : (e : Box) (s : SessionState) → Ours e (state_changed s)
no_state e s i to bytes m h r = let z : ◌≡◌ {A = ℕ} 0 1 = cc in let y : ⊥ = omega arith in absurd y

no_timer : (e : Box) (t : HostTime) → Ours e (set_timer t)
no_timer e t i to bytes m h r = let z : ◌≡◌ {A = ℕ} 0 1 = cc in let y : ⊥ = omega arith in absurd y

no_count : (e : Box) (n : ℕ) → Ours e (num_peers_changed n)
no_count e n i to bytes m h r = let z : ◌≡◌ {A = ℕ} 0 1 = cc in let y : ⊥ = omega arith in absurd y

module _ (now : HostTime) (e : Box) where
  of_broadcasts : Each (Ours e) (broadcasts now e)
  unfolding broadcasts
  of_broadcasts = either (broadcast_due now e) (each_of_map {Q = Ours e} _ (λ (i : Interface) j to bytes m h r. (i.addr, sym (bytes_of _ _ _ _ _ _ h))) e.interfaces) nil

  of_pings : (p : Peer) → Each (Ours e) (pings now e.interfaces p)
  unfolding pings
  of_pings p = either (asks now p) (each_of_map {Q = Ours e} _ (λ (i : Interface) j to bytes m h r. absurd (ping_no now m (ap parse (bytes_of _ _ _ _ _ _ h) ∙ r))) e.interfaces) nil

  of_election : (t : Bool) (e' : Box) → Each (Ours e) (resolve_if t now e').outputs
  unfolding resolve_if resolve_outputs
  of_election true e' = either (changes (best_session now e') e') (no_state e _ ▸ nil) nil
  of_election false e' = nil

  of_settled : Each (Ours e) (settled now e).outputs
  unfolding settled
  of_settled = of_election _ _

  of_timer : (t : HostTime) → Each (Ours e) (timer_outputs t)
  unfolding timer_outputs
  of_timer t = either (same_time t never) nil (no_timer e t ▸ nil)

  of_count : (e' : Box) → Each (Ours e) (count_outputs e')
  unfolding count_outputs
  of_count e' = either (eqb (session_peers e') e'.num_session_peers) nil (no_count e _ ▸ nil)

  of_upkeep : Each (Ours e) (upkeep_outputs now e)
  unfolding upkeep_outputs
  of_upkeep =
      each_append of_broadcasts
      (each_append (each_of_flat_map (pings now e.interfaces) of_pings e.peers)
      (each_append of_settled (each_append (of_timer _) (of_count _))))

  of_produce : Each (Ours e) (produce_outputs now e).outputs
  of_produce = split e.enabled
      (λ on. subst (λ (x : Produced). Each (Ours e) x.outputs) (sym (produce_on now e on)) of_upkeep)
      (λ off. subst (λ (x : Produced). Each (Ours e) x.outputs) (sym (produce_off now e off)) nil)

-- ---- the commit

-- the box that takes a state is the old one in all but the state
pub committed_alive : (e : Box) (s : SessionState) (now : HostTime) (a : SocketAddrPlain)
    → our_alive (committed e s now) (Some a) false
    ≡ alive_bytes e.node_id e.session_id (timeline_to_ghost e.session_offset (taken e s).timeline) (start_stop_to_ghost e.session_offset (taken e s).start_stop) (Some a) false
unfolding our_alive committed with_state with_next_broadcast
committed_alive e s now a = split e.enabled (λ h. rw h) (λ h. rw h)

-- a commit that puts anything out puts out the state and what upkeep puts out
commit_outputs : (e : Box) (s : SessionState) (now : HostTime) (buf_size : ℕ) (after : Box) (os : List Output) {o : Output} → Memᴰ o os
    → step e (commit s now buf_size) ≡ done after os → os ≡ state_changed (taken e s) ∷ (produce_outputs now (committed e s now)).outputs
commit_outputs e s now buf_size after os {o} m h = go (course e (commit s now buf_size) after os h)
  where
    go : Course e after os (commit s now buf_size) → os ≡ state_changed (taken e s) ∷ (produce_outputs now (committed e s now)).outputs
    go (commit_same a t i) = absurd (Memᴰ.not-nil (subst (Memᴰ o) i.outputs m))
    go (commit_taken a t k) = k.outputs

-- what a packet of a commit says, if it reads as an alive: the sender's node, and the state that the box took, in shared time, by its low 64 bits
pub commit_says : (e : Box) (s : SessionState) (now : HostTime) (buf_size : ℕ) (after : Box) (os : List Output) (i : ℕ) (to : SocketAddrPlain) (bytes : List ℕ) (m : AliveMsg) → e.node_id.0 < 2 ^ 64
    → step e (commit s now buf_size) ≡ done after os → Memᴰ (send i to bytes) os → parse bytes ≡ alive_said m
    → Tells e.node_id (timeline_to_ghost e.session_offset (taken e s).timeline) (start_stop_to_ghost e.session_offset (taken e s).start_stop) m
commit_says e s now buf_size after os i to bytes m fits accepted written reads =
    let mine : Each (Ours (committed e s now)) os
    = subst (Each (Ours (committed e s now))) (sym (commit_outputs e s now buf_size after os written accepted)) (no_state _ _ ▸ of_produce now (committed e s now)) in
    let (a, b) = each_mem mine written i to bytes _ refl reads in
    alive_says e.node_id e.session_id (timeline_to_ghost e.session_offset (taken e s).timeline) (start_stop_to_ghost e.session_offset (taken e s).start_stop) a m
    fits (sym (ap parse (b ∙ committed_alive e s now a)) ∙ reads)

-- ---- the line that it tells

line_inj : (l l' : Timeline) → Some l ≡ Some l' → l ≡ l'
line_inj l l' e = cc

pub sent_line : (e : Box) (s : SessionState) (now : HostTime) (buf_size : ℕ) (bytes : List ℕ) (m : AliveMsg) (sent : Timeline) → e.node_id.0 < 2 ^ 64
    → Writes e s now buf_size bytes → parse bytes ≡ alive_said m → m.timeline ≡ Some sent → sent ≡ low_bits (timeline_to_ghost e.session_offset (taken e s).timeline)
sent_line e s now buf_size bytes m sent fits w reads tells =
    line_inj _ _ (sym tells ∙ (commit_says e s now buf_size w.after w.outputs w.interface w.to bytes m fits w.accepted w.written reads).line)
