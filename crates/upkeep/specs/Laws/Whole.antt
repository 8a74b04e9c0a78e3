-- Upkeep of an engine, from its parts.
use Rattle.std.specs.Prelude.{ℕ, ◌<◌, ◌^◌, ◌≡◌, refl, Bool, true, false, eqb, ltb, ℤ, pos, negsuc, length}
use Rattle.std.proofs.Common.{Some, None, arith, ◌∙◌, SFits, ltb-false}
use Rattle.std.proofs.Math.Path.{sym, ap, ap₂}
use Rattle.std.proofs.Math.Bool.{cond}
use mathlib.Core.List.{List, [], ◌∷◌, ◌++◌}
use Rattle.std.specs.Int.Signed.{le_z}
use Rattle.std.specs.Int.{w64}
use Rattle.time.specs.declared.HostTime.{HostTime}
use Rattle.wire.specs.declared.SocketAddrPlain.{SocketAddrPlain}
use Rattle.model.specs.Sums.{never, earlier}
use Rattle.model.specs.Peers.{Peer, Interface, peers_in}
use Rattle.model.specs.Engine.{Box, Produced, num_peers_changed, with_peers, with_num_session_peers, with_next_broadcast, our_alive}
use Rattle.model.specs.Produce.{broadcasts, after_broadcast, after_pings, earliest_ping, min_last_seen, or_timeout, next_timer, timer_outputs, session_peers, count_outputs, upkeep, produce_outputs}
use Rattle.lists.specs.Laws.Bools.{cond-true, cond-false}
use Rattle.model.specs.Laws.Calls.Stages.{polled, settled, upkeep_outputs, upkeep_box, timer, upkeep_is}
use Rattle.peer_walks.specs.Inner.Asked.{asked}
use Rattle.interface_map.specs.Held.{interfaces_of}
use Rattle.engine_state.specs.declared.core_state.Core.{Core}
use Rattle.engine_state.specs.declared.OwnState.{OwnState}
use Rattle.engine_state.specs.Held.{core_box, own_in}
use Rattle.engine_state.specs.Inner.OwnBox.{own_box}
use Rattle.answer.specs.declared.Multicast.TheVariants as packets
use Rattle.answer.specs.declared.Plan.{Plan}
use Rattle.answer.specs.Inner.Planned.{multicast_outputs, ping_outputs, state_outputs, timer_output, count_output, plan_of}
use Rattle.election.specs.declared.Resolved.{Resolved}
use Rattle.upkeep.specs.Inner.Decided.{next_after, pinged, staying, decided_in, core_with}
use Rattle.upkeep.specs.Laws.Pings.{pings_asked}
use Rattle.upkeep.specs.Laws.Settled.{settled_box, settled_outputs}

-- ---- the parts

-- no time is later than the largest
earliest_by : (b : Bool) (n : ℕ) → ltb n 9_223_372_036_854_775_807 ≡ b → n < 2 ^ 63 → cond b (record { 0 = pos n }) never ≡ record { 0 = pos n }
earliest_by true n e h = refl
earliest_by false n e h = let last : 9_223_372_036_854_775_807 ≡ n = omega (arith, ltb-false n 9_223_372_036_854_775_807 e) in ap (λ (k : ℕ). record { 0 = pos k }) last

pub earliest : (z : ℤ) → SFits w64 z → earlier never (record { 0 = z }) ≡ record { 0 = z }
earliest (negsuc n) f = refl
earliest (pos n) f = earliest_by (ltb n 9_223_372_036_854_775_807) n refl f.sfits

pub sent_if : (b : Bool) (is : List Interface) (own : OwnState) → multicast_outputs is (cond b (Some (packets.Alive own)) None) ≡ cond b (multicast_outputs is (Some (packets.Alive own))) []
unfolding multicast_outputs
sent_if true is own = refl
sent_if false is own = refl

module _ (now : HostTime) (e : Core) (qs : List Peer) where
  -- the broadcast
  sent : multicast_outputs (interfaces_of e.interfaces) (cond (le_z e.next_broadcast.0 now.0) (Some (packets.Alive (own_in e))) None) ≡ broadcasts now (core_box e qs)
  unfolding core_box broadcasts multicast_outputs our_alive own_box
  sent = sent_if (le_z e.next_broadcast.0 now.0) (interfaces_of e.interfaces) (own_in e)

  -- the timer
  pub timed : (t : HostTime) → SFits w64 t.0 → t ≡ next_after now e.next_broadcast → or_timeout (earliest_ping t (pinged now qs)) (min_last_seen never (staying now qs)) ≡ timer now (core_box e qs)
  unfolding timer next_timer polled after_pings after_broadcast with_peers with_next_broadcast core_box
  timed t f h = ap₂ (λ (a : HostTime) (ps : List Peer). or_timeout (earliest_ping a (pinged now qs)) (min_last_seen never ps)) (sym (earliest t.0 f) ∙ ap (earlier never) h) (sym (ap (λ (b : Box). b.peers) (settled_box now e qs)))

  abbrev number : ℕ
  number = length (peers_in (decided_in now e qs).own.session_id (staying now qs))

  -- the count
  counted : cond (eqb number e.num_session_peers) [] (num_peers_changed number ∷ []) ≡ count_outputs (settled now (core_box e qs)).box
  unfolding count_outputs session_peers
  counted = sym (ap count_outputs (settled_box now e qs))

  -- the box
  boxed : core_with e (staying now qs) number (decided_in now e qs) ≡ upkeep_box now (core_box e qs)
  unfolding upkeep_box session_peers with_num_session_peers
  boxed = sym (ap (λ (b : Box). with_num_session_peers (session_peers b) b) (settled_box now e qs))

-- ---- the whole

abbrev upkept : HostTime → Box → Produced
upkept now b = record { box = upkeep_box now b; outputs = upkeep_outputs now b }

abbrev idle : Box → Produced
idle b = record { box = b; outputs = [] }

pub disabled : (now : HostTime) (b : Box) → b.enabled ≡ false → produce_outputs now b ≡ idle b
unfolding produce_outputs
disabled now b off = cond-false (upkeep now b) (idle b) off

pub enabled : (now : HostTime) (b : Box) → b.enabled ≡ true → produce_outputs now b ≡ upkept now b
unfolding produce_outputs
enabled now b on = cond-true (upkeep now b) (idle b) on ∙ upkeep_is now b

-- neighbours, an election, a number and outputs that are those of upkeep
pub record Upkept (now : HostTime) (e : Core) (qs ps : List Peer) (x : Resolved) (n : ℕ) (to : List SocketAddrPlain) (u : Plan) : Type 0 where
  pub neighbours : ps ≡ staying now qs
  pub election : x ≡ decided_in now e qs
  pub number : n ≡ length (peers_in x.own.session_id ps)
  pub multicast : u.multicast ≡ cond (le_z e.next_broadcast.0 now.0) (Some (packets.Alive (own_in e))) None
  pub time : u.now ≡ now
  pub pings : to ≡ asked now qs
  pub report : u.report ≡ x.report
  pub timer : timer_output u.timer ≡ timer_outputs (timer now (core_box e qs))
  pub count : count_output u.count ≡ cond (eqb n e.num_session_peers) [] (num_peers_changed n ∷ [])

module _ (now : HostTime) (e : Core) (qs ps : List Peer) (x : Resolved) (n : ℕ) (to : List SocketAddrPlain) (u : Plan) (k : Upkept now e qs ps x n to u) (on : e.enabled ≡ true) where
  numbered : n ≡ number now e qs
  numbered = k.number ∙ ap₂ (λ (y : Resolved) (l : List Peer). length (peers_in y.own.session_id l)) k.election k.neighbours

  pub box_is : core_with e ps n x ≡ (produce_outputs now (core_box e qs)).box
  unfolding core_box
  box_is =
      ap (λ (m : ℕ). core_with e ps m x) numbered
      ∙ ap₂ (λ (l : List Peer) (y : Resolved). core_with e l (number now e qs) y) k.neighbours k.election
      ∙ boxed now e qs
      ∙ sym (ap (λ (a : Produced). a.box) (enabled now (core_box e qs) on))

  pub outputs_are : plan_of u to (interfaces_of e.interfaces) ≡ (produce_outputs now (core_box e qs)).outputs
  unfolding core_box upkeep_outputs plan_of
  outputs_are =
      let is = interfaces_of e.interfaces in
      ap₂ ◌++◌ (ap (multicast_outputs is) k.multicast ∙ sent now e qs)
      (ap₂ ◌++◌ (ap₂ (λ (t : HostTime). ping_outputs t is) k.time k.pings ∙ sym (pings_asked now is qs))
      (ap₂ ◌++◌ (ap state_outputs (k.report ∙ ap (λ (y : Resolved). y.report) k.election) ∙ sym (settled_outputs now e qs))
      (ap₂ ◌++◌ k.timer
      (k.count ∙ ap (λ (m : ℕ). cond (eqb m e.num_session_peers) [] (num_peers_changed m ∷ [])) numbered ∙ counted now e qs))))
      ∙ sym (ap (λ (a : Produced). a.outputs) (enabled now (core_box e qs) on))
