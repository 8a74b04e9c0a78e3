-- The clerk's questions and their answers. Each holds after any list of calls `cs`, from any new engine.
use Rattle.std.specs.Prelude.{ℕ, ◌<◌, ◌≤◌, ◌≡◌, ◌≢◌, ◌⊎◌, true, false, ℤ, pos, ◌-ℤ◌, length, get_or, ◌≤ℤ◌, Some, None}
use Rattle.std.proofs.Common.{sym, ◌∙◌, subst}
use mathlib.Core.List.{List, [], Memᴰ}
use Rattle.std.specs.Int.Signed.{≤ℤ_refl}
use Rattle.time.specs.declared.HostTime.{HostTime}
use Rattle.wire.specs.declared.NodeId.{NodeId}
use Rattle.wire.specs.declared.SocketAddrPlain.{SocketAddrPlain}
use Rattle.wire.specs.Parse.{parse}
use Rattle.lists.specs.Lists.{first}
use Rattle.model.specs.Peers.{Peer, peer_key, peers_in}
use Rattle.model.specs.Engine.{Box, Output, new}
use Rattle.model.specs.Packet.{AliveMsg, PongMsg, owns}
use Rattle.model.specs.Calls.{Call, packet, refused, done, next, step, run}
use Rattle.model.specs.Laws.Calls.Messages.{alive_said, pong_said}
use Rattle.lists.specs.Laws.Each.{Each, each, each_mem, Ascending, ascending_keep}
use Rattle.lists.specs.Laws.Distinct.{Distinct, distinct_at}
use Rattle.lists.specs.Laws.Along.{along_at}
use Rattle.model.proofs.Laws.Calls.Reach.{reached}
use Rattle.model.specs.Laws.Clerk.Neighbours.{runs_upkeep, goes_off, call_time}
use Rattle.model.specs.Laws.Clerk.Times.{SeenLately}
use Rattle.model.specs.Laws.Clerk.Ids.{ids}
use Rattle.model.proofs.Laws.Clerk.Ids.{found_id}
use Rattle.model.proofs.Laws.Clerk.Twice.{held_adds_none, again_adds_none, again_same_ids}
use Rattle.model.specs.Laws.Clerk.PingTimes.{FromPong}
use Rattle.model.proofs.Laws.Clerk.PingTimes.{times_once, from_pongs}
use Rattle.model.proofs.Laws.Clerk.Pongs.{again_refused, samples_kept}
use Rattle.model.specs.Laws.Clerk.Count.{told}
use Rattle.model.proofs.Laws.Clerk.Count.{last_count, count_is_true}
use Rattle.model.specs.Laws.Clerk.Staying.{bids_bye, is_alive_of}
use Rattle.model.proofs.Laws.Clerk.Staying.{lately, goes, stays}
use Rattle.model.specs.Laws.Clerk.Seen.{HeldAs}
use Rattle.model.proofs.Laws.Clerk.Seen.{each_seen}
use Rattle.model.proofs.Laws.Clerk.Silent.{alone_by_id}
use Rattle.model.specs.Laws.Clerk.Quiet.{Utters}
use Rattle.model.proofs.Laws.Clerk.Quiet.{refused_leaves_box, refused_leaves_buffer, own_alive_nothing, disabled_quiet}
use Rattle.model.specs.Answer.{buffer_after}
use Rattle.model.specs.Laws.Clerk.Claims.{CountsOnce}

-- a box that calls lead to
abbrev led : NodeId → List Call → Box
led a cs = run (new a) cs

-- ---- "Does a box that is heard twice, say on two ports, count once?"

module _ (a : NodeId) (cs : List Call) (bytes bytes' : List ℕ) (m m' : AliveMsg) (says : parse bytes ≡ alive_said m) (says' : parse bytes' ≡ alive_said m') (same : m'.node_id ≡ m.node_id)
    (iface iface' : ℕ) (from from' : SocketAddrPlain) (now : HostTime) (buf_size : ℕ) (e₁ : Box) (os₁ : List Output) (once : step (led a cs) (packet iface from bytes now buf_size) ≡ done e₁ os₁) where
  -- Yes: after an announcement another of the same node, at any time that is accepted and from wherever, adds no id. The two may differ in all but the node,
  -- as those on two ports do in their mep4 entry.
  pub announced_twice : (now' : HostTime) (buf_size' : ℕ) (e₂ : Box) (os₂ : List Output) → step e₁ (packet iface' from' bytes' now' buf_size') ≡ done e₂ os₂
      → (k : ℕ) → Memᴰ k (ids e₂.peers) → Memᴰ k (ids e₁.peers)
  announced_twice = again_adds_none bytes bytes' m m' says says' same (led a cs) iface iface' from from' now buf_size e₁ os₁ once

  -- And at the same time the same ids are held.
  pub announced_at_once : (buf_size' : ℕ) (e₂ : Box) (os₂ : List Output) → step e₁ (packet iface' from' bytes' now buf_size') ≡ done e₂ os₂ → ids e₂.peers ≡ ids e₁.peers
  announced_at_once = again_same_ids bytes bytes' m m' says says' same (led a cs) iface iface' from from' now buf_size e₁ os₁ once

-- And however many calls lie between the two: where the node is held as a call begins, its announcement adds no id, whatever else it says and from wherever.
pub announced_again : (a : NodeId) (cs : List Call) (bytes : List ℕ) (m : AliveMsg) → parse bytes ≡ alive_said m → Memᴰ m.node_id.0 (ids (led a cs).peers)
    → (iface : ℕ) (from : SocketAddrPlain) (now : HostTime) (buf_size : ℕ) (e' : Box) (os : List Output) → step (led a cs) (packet iface from bytes now buf_size) ≡ done e' os
    → (k : ℕ) → Memᴰ k (ids e'.peers) → Memᴰ k (ids (led a cs).peers)
announced_again a cs bytes m says held iface from now buf_size e' os = held_adds_none bytes m says (led a cs) iface from now buf_size e' os (found_id m.node_id.0 (led a cs).peers held)

-- "Can a box be held twice, or counted twice?" No: the ids of those held ascend strictly, and so do those of the ones that are counted.
pub held_once : (a : NodeId) (cs : List Call) → Ascending peer_key (led a cs).peers
held_once a cs = (reached a cs).ascending_peers

pub counted_once : (a : NodeId) (cs : List Call) → Ascending peer_key (peers_in (led a cs).session_id (led a cs).peers)
unfolding peers_in
counted_once a cs = ascending_keep peer_key _ (held_once a cs)

-- so whoever has one's id is that one
pub one_of_an_id : (a : NodeId) (cs : List Call) (p q : Peer) → Memᴰ p (led a cs).peers → Memᴰ q (led a cs).peers → q.id ≡ p.id → q ≡ p
one_of_an_id a cs p q m n = each_mem (alone_by_id p (held_once a cs) m) n

-- Yes: once it was taken, the next one like it adds no sample.
pub ponged_twice : (a : NodeId) (cs : List Call) (from : SocketAddrPlain) (bytes : List ℕ) (m : PongMsg) → parse bytes ≡ pong_said m
    → (p : Peer) → first (owns from) (led a cs).peers ≡ Some p
    → (iface : ℕ) (now : HostTime) (buf_size : ℕ) (e₁ : Box) (os₁ : List Output) → step (led a cs) (packet iface from bytes now buf_size) ≡ done e₁ os₁ → CountsOnce e₁ from bytes p
ponged_twice a cs from bytes m says p owner iface now buf_size e₁ os₁ h =
    let paired : Each (λ q. length q.samples.ping_times ≡ length q.samples.offsets) (led a cs).peers = each (λ q k. k.1) (times_once a cs) in
    record {
      refused_again = again_refused from bytes m says (led a cs) (held_once a cs) (reached a cs).alone paired p owner iface now buf_size e₁ os₁ h;
      samples_stay = samples_kept from bytes m says (led a cs) (held_once a cs) (reached a cs).alone paired p owner iface now buf_size e₁ os₁ h;
    }

module _ (a : NodeId) (cs : List Call) where
  -- And however many calls lie between: of every neighbour held no two ping times are the same, and there are as many as samples.
  pub ping_times_once : Each (λ p. Distinct p.samples.ping_times × (length p.samples.ping_times ≡ length p.samples.offsets)) (led a cs).peers
  ping_times_once = times_once a cs

  module _ (p : Peer) (held : Memᴰ p (led a cs).peers) where
    -- in other words, two places that hold the same time are one place
    pub one_place_of_a_time : (t : HostTime) (i j : ℕ) → i < length p.samples.offsets → j < length p.samples.offsets → get_or p.samples.ping_times i t ≡ get_or p.samples.ping_times j t → i ≡ j
    one_place_of_a_time t i j k l =
        let (once, paired) = each_mem ping_times_once held in
        distinct_at once t i j (subst (λ (n : ℕ). i < n) (sym paired) k) (subst (λ (n : ℕ). j < n) (sym paired) l)

    -- The i-th sample is that of a pong among the calls, and the i-th ping time is that pong's.
    pub each_from_a_pong : (x : ℤ) (t : HostTime) (i : ℕ) → i < length p.samples.offsets → FromPong cs (get_or p.samples.offsets i x) (get_or p.samples.ping_times i t)
    each_from_a_pong = along_at (each_mem (from_pongs a cs) held)

-- ---- "Is the count on the bill the true one?"

-- Yes: what the engine keeps is the number of neighbours held under its own session,
pub true_count : (a : NodeId) (cs : List Call) → (led a cs).num_session_peers ≡ length (peers_in (led a cs).session_id (led a cs).peers)
true_count = count_is_true

-- and the last count that any call so far put out is that number, 0 if none was.
pub told_count : (a : NodeId) (cs : List Call) → told 0 (new a) cs ≡ length (peers_in (led a cs).session_id (led a cs).peers)
told_count a cs = last_count a cs ∙ count_is_true a cs

-- ---- "When is a box dropped?"

module _ (a : NodeId) (cs : List Call) (c : Call) (e' : Box) (os : List Output) (h : step (led a cs) c ≡ done e' os) where
  -- After a call with upkeep whoever is held was seen at most 6,000,000 microseconds before. (An alive in that very call counts as seen.)
  pub seen_lately : runs_upkeep (led a cs) c ≡ true → Each (SeenLately (call_time c)) e'.peers
  seen_lately = lately (led a cs) c e' os h

  -- Nothing but its bye, this lapse and switching off removes one. One that the call announces does not lapse.
  pub removed_only : (p : Peer) → Memᴰ p (led a cs).peers → goes_off (led a cs) c ≡ false → bids_bye p.id c ≡ false
      → (runs_upkeep (led a cs) c ≡ true → is_alive_of p.id c ≡ false → SeenLately (call_time c) p) → Memᴰ p.id.0 (ids e'.peers)
  removed_only = stays (led a cs) c e' os h

  -- Its bye does remove one, if the engine is on: none with its id is held then.
  pub bye_removes : (n : NodeId) → bids_bye n c ≡ true → runs_upkeep (led a cs) c ≡ true → Each (λ q. q.id ≢ n) e'.peers
  bye_removes = goes (led a cs) c e' os h

  -- Nothing but its alive counts as seen: whoever is held after a call is announced by it and last seen at its time, or was held before it, last seen at the
  -- same time.
  pub seen_by_alive : Each (λ q. ((is_alive_of q.id c ≡ true) × (q.last_seen ≡ call_time c)) ⊎ HeldAs (led a cs).peers q.id q.last_seen) e'.peers
  seen_by_alive = each_seen (led a cs) c e' os h

  -- One seen exactly 6,000,000 before stays.
  pub exactly_six_seconds : (p : Peer) → Memᴰ p (led a cs).peers → goes_off (led a cs) c ≡ false → bids_bye p.id c ≡ false
      → p.last_seen.0 ≡ (call_time c).0 -ℤ pos 6_000_000 → Memᴰ p.id.0 (ids e'.peers)
  exactly_six_seconds p m off bye e = removed_only p m off bye (λ u unsaid. subst (λ (z : ℤ). ((call_time c).0 -ℤ pos 6_000_000) ≤ℤ z) (sym e) (≤ℤ_refl _))

-- ---- "How long is a box asked that does not answer?"

-- At most five times until it is reset or removed (`five_asks`), each time by one ping on each interface (`asks_sent`, `five_asks_sent`: in Pings and Asked);
-- once it was asked five times the next due call ends measuring (`ended_after_five`, `sixth_ends`), and it stays ended (`stays_ended`): in Silent. Measuring
-- ends at 20 samples too: whoever is measured has fewer.
pub measured_below_20 : (a : NodeId) (cs : List Call) → Each (λ p. (length p.samples.offsets ≤ 20) × (p.measuring ≡ true → length p.samples.offsets < 20)) (led a cs).peers
measured_below_20 a cs = (reached a cs).measured

-- ---- "What does a box do that hears itself, is turned down, or is off?"

module _ (a : NodeId) (cs : List Call) where
  -- Its own announcement changes nothing and is not answered.
  pub hears_itself : (iface : ℕ) (from : SocketAddrPlain) (bytes : List ℕ) (now : HostTime) (buf_size : ℕ) (m : AliveMsg) → parse bytes ≡ alive_said m → m.node_id ≡ (led a cs).node_id
      → (e' : Box) (os : List Output) → step (led a cs) (packet iface from bytes now buf_size) ≡ done e' os → (e' ≡ led a cs) × (os ≡ [])
  hears_itself = own_alive_nothing (led a cs)

  -- A call that is turned down changes neither the box nor the buffer.
  pub turned_down : (c : Call) (n : ℕ) → step (led a cs) c ≡ refused n → (next (led a cs) (step (led a cs) c) ≡ led a cs) × ((buffer : List ℕ) → buffer_after (step (led a cs) c) buffer ≡ buffer)
  turned_down c n h = (refused_leaves_box (led a cs) c n h, λ buffer. refused_leaves_buffer (led a cs) c n buffer h)

  -- Switched off it puts out nothing but a commit's state, and what switching on puts out.
  pub silent_while_off : (c : Call) (e' : Box) (os : List Output) → (led a cs).enabled ≡ false → step (led a cs) c ≡ done e' os → Utters (led a cs) os c
  silent_while_off = disabled_quiet (led a cs)
