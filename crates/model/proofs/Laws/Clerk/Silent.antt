-- A neighbour that does not answer: how often it is asked, and when measuring it ends.
use Rattle.std.specs.Prelude.{ℕ, suc, ◌+◌, ◌-◌, ◌<◌, ◌≤◌, ◌≡◌, ◌⊎◌, Bool, ◌&&◌, ◌||◌, not, cond, eqb, ltb, leb, pos, length, Option, Some, None, unwrap_or}
use native.Mathlib.Omega.{arith}
use Rattle.std.proofs.Math.Path.{refl, sym, ap, subst}
use Rattle.std.proofs.Common.{ap₂, ◌∙◌, inl, inr}
use Rattle.std.proofs.Math.Bool.{true, false}
use mathlib.Core.List.{List, [], ◌∷◌, ◌++◌, Memᴰ}
use Rattle.std.specs.Int.Signed.{le_z}
use borrow.Author.Tests.{eqb-true, eq-eqb, le-leb, leb-false}
use Rattle.signed.specs.Laws.Tests.{both}
use Rattle.time.specs.declared.HostTime.{HostTime}
use Rattle.wire.specs.declared.NodeId.{NodeId}
use Rattle.wire.specs.declared.SocketAddrPlain.{SocketAddrPlain}
use Rattle.wire.specs.declared.DiscoveryMsg.TheVariants.{Alive, ByeBye}
use Rattle.wire.specs.declared.MeasurementMsg.TheVariants.{Ping, Pong}
use Rattle.wire.specs.declared.Message.TheVariants.{Discovery, Measurement}
use Rattle.wire.specs.Parse.{parse}
use Rattle.wire.specs.Same.{same_node}
use Rattle.model.specs.Sums.{plus}
use Rattle.lists.specs.Lists.{found, first, has_key, without}
use Rattle.model.specs.Peers.{Peer, peer_key, new_peer}
use Rattle.model.specs.Engine.{Box, Output, with_peers, new}
use Rattle.model.specs.Produce.{ping_due, silent, after_ping, asks, recent}
use Rattle.model.specs.Packet.{Arrival, AliveMsg, session_changed, after_alive, handle_alive_of, handle_alive, handle_byebye, handle_ping, moved, samples_with, still_measuring, measured, PongMsg, sample_of, after_pong, handle_pong_of, handle_pong, unchanged, handle_message, held_peer, owns}
use Rattle.model.specs.Calls.{Call, packet, tick, commit, switch, interface_added, interface_removed, io_error, Outcome, refused, done, next, step, run}
use Rattle.model.specs.Laws.Calls.Messages.{arrived, pong_msg}
use Rattle.lists.specs.Laws.Bools.{split, by_cond, clash, not_true, some_inj, none_some, cond-true, cond-false}
use Rattle.lists.specs.Laws.Each.{Each, nil, ◌▸◌, each, each_mem, each_map, each_keep, each_upsert_any, either, first_mem, Ascending, none_left, more, each_change_first}
use Rattle.model.proofs.Laws.Calls.Kept.{sender_key}
use Rattle.model.specs.Laws.Clerk.Ids.{ids}
use Rattle.model.proofs.Laws.Clerk.Ids.{found_mem, found_id, mem_map, upkept_adds_none}
use Rattle.model.specs.Laws.Calls.Reach.{Reached}
use Rattle.model.proofs.Laws.Calls.Reach.{reached, reached_step, run_append}
use Rattle.model.specs.Laws.Clerk.Neighbours.{runs_upkeep, goes_off, call_time, heard, upkept}
use Rattle.model.proofs.Laws.Clerk.Neighbours.{accepted_peers}
use Rattle.model.specs.Laws.Clerk.Silent.{alive_resets, pong_resets, message_resets, resets, Like, ask_count, asks_held, asked_by, asked, asked_over, resets_in, Unreset, over, goes_on}
use Rattle.wire.specs.declared.Message.{Message}

-- whoever has p's id is like r
abbrev Tracked : NodeId → Peer → Peer → Type 0
Tracked n r q = q.id ≡ n → Like r q

like_self : (p : Peer) → Like p p
like_self p = record { timeouts = refl; measuring = refl; next = refl }

like_pinged : (now : HostTime) (p q : Peer) → Like p q → Like (after_ping now p) (after_ping now q)
unfolding after_ping
like_pinged now p q l = record {
  timeouts = λ i. cond ((l.measuring i && le_z (l.next i).0 now.0) && not (leb 5 (l.timeouts i))) (suc (l.timeouts i)) (l.timeouts i);
  measuring = λ i. cond ((l.measuring i && le_z (l.next i).0 now.0) && leb 5 (l.timeouts i)) false (l.measuring i);
  next = λ i. cond ((l.measuring i && le_z (l.next i).0 now.0) && not (leb 5 (l.timeouts i))) (plus now (pos 50_000)) (l.next i);
}

-- an alive of the same session
like_alive : (from : SocketAddrPlain) (m : AliveMsg) (now : HostTime) (p : Peer) → session_changed m p ≡ false → Like p (after_alive from m now p)
unfolding after_alive
like_alive from m now p e = record { timeouts = cond-false _ _ e; measuring = ap (λ (t : Bool). t || p.measuring) e; next = cond-false _ _ e }

-- a pong of one that is not measured
like_pong : (m : PongMsg) (now : HostTime) (p : Peer) → p.measuring ≡ false → Like p (after_pong m now p)
unfolding after_pong measured still_measuring moved
like_pong m now p e =
    let x = sample_of m now in
    let off : still_measuring m.ping_host_time x (moved m.session_id p) ≡ false = ap (λ (t : Bool). t && ltb (length (samples_with m.ping_host_time x (moved m.session_id p)).offsets) 20) e in
    record { timeouts = cond-false _ _ e; measuring = off ∙ sym e; next = cond-false _ _ off }

-- ---- a message that resets nothing

-- among ascending ids, whoever has p's id is p
pub alone_by_id : (p : Peer) {ps : List Peer} → Ascending peer_key ps → Memᴰ p ps → Each (λ q. q.id ≡ p.id → q ≡ p) ps
alone_by_id p none_left m = elim m [ ]
alone_by_id p (more {x = x} {xs = xs} a as') (mathlib.Core.List.Memᴰ.head e) =
    (λ k. sym e) ▸ each (λ q (l : peer_key x < peer_key q) k. let f : peer_key q ≡ peer_key p = ap (λ n. n.0) k in let g : peer_key p ≡ peer_key x = ap peer_key e in let o : ⊥ = omega arith in absurd o) a
alone_by_id p (more {x = x} {xs = xs} a as') (mathlib.Core.List.Memᴰ.tail m) =
    (λ k. let l : peer_key x < peer_key p = each_mem a m in let f : peer_key x ≡ peer_key p = ap (λ n. n.0) k in let o : ⊥ = omega arith in absurd o) ▸ alone_by_id p as' m

as_it_is : (p : Peer) {ps : List Peer} → Each (λ q. q.id ≡ p.id → q ≡ p) ps → Each (Tracked p.id p) ps
as_it_is p alone = each (λ q f k. subst (Like p) (sym (f k)) (like_self p)) alone

module _ (e : Box) (a : Arrival) (bytes : List ℕ) (p : Peer) (there : Memᴰ p e.peers) (alone : Each (λ q. q.id ≡ p.id → q ≡ p) e.peers) where
  -- an alive of p's id is one of p
  sender_is : (n : NodeId) → (unwrap_or (held_peer n e.peers) (new_peer n a.from a.now)).id ≡ p.id → unwrap_or (held_peer n e.peers) (new_peer n a.from a.now) ≡ p
  unfolding new_peer
  sender_is n k = go (held_peer n e.peers) refl k
    where
      missing : held_peer n e.peers ≡ None → n ≡ p.id → ⊥
      missing f k = clash (sym (found_mem (has_key peer_key n.0) p there (eq-eqb _ _ (ap (λ m. m.0) (sym k)))) ∙ ap found f)

      go : (o : Option Peer) → held_peer n e.peers ≡ o → (unwrap_or o (new_peer n a.from a.now)).id ≡ p.id → unwrap_or o (new_peer n a.from a.now) ≡ p
      go None f k = absurd (missing f k)
      go (Some q) f k = each_mem alone (first_mem _ q e.peers f).0 k

  alive_tracked : (m : AliveMsg) → alive_resets p m ≡ false → Tracked p.id p (after_alive a.from m a.now (unwrap_or (held_peer m.node_id e.peers) (new_peer m.node_id a.from a.now)))
  unfolding after_alive
  alive_tracked m r k =
      let p₀ : Peer = unwrap_or (held_peer m.node_id e.peers) (new_peer m.node_id a.from a.now) in
      let is : p₀ ≡ p = sender_is m.node_id k in
      let same : same_node m.node_id p.id ≡ true = eq-eqb _ _ (sym (sender_key m.node_id a.from a.now e.peers) ∙ ap (λ n. n.0) k) in
      subst (λ (q : Peer). Like p (after_alive a.from m a.now q)) (sym is) (like_alive a.from m a.now p (sym (ap (λ (t : Bool). t && session_changed m p) same) ∙ r))

  owner_tracked : (m : PongMsg) (q : Peer) → first (owns a.from) e.peers ≡ Some q → pong_resets p (Some q) ≡ false → Tracked p.id p q → Tracked p.id p (after_pong m a.now q)
  unfolding after_pong measured moved
  owner_tracked m q f r t k =
      let is : q ≡ p = each_mem alone (first_mem _ q e.peers f).0 k in
      let off : q.measuring ≡ false = sym (ap (λ (t : Bool). t && q.measuring) (eq-eqb q.id.0 p.id.0 (ap (λ n. n.0) k))) ∙ r in
      subst (λ (x' : Peer). Like x' (after_pong m a.now q)) is (like_pong m a.now q off)

  pong_tracked : (m : PongMsg) (o : Option Peer) → first (owns a.from) e.peers ≡ o → pong_resets p o ≡ false
      → Each (Tracked p.id p) (handle_pong_of e a m o).box.peers
  unfolding handle_pong_of unchanged with_peers
  pong_tracked m None f r = as_it_is p alone
  pong_tracked m (Some q) f r =
      each_change_first (owns a.from) (after_pong m a.now) (λ y g t. owner_tracked m y g (ap (pong_resets p) (sym g ∙ f) ∙ r) t) (as_it_is p alone)

  message_tracked : (m : Option Message) → message_resets p e.peers a.from m ≡ false → Each (Tracked p.id p) (handle_message e a bytes m).box.peers
  unfolding handle_message unchanged handle_alive handle_alive_of handle_byebye handle_ping handle_pong with_peers without
  message_tracked None r = as_it_is p alone
  message_tracked (Some (Discovery (Alive node timeline start_stop session mep4))) r = each_upsert_any peer_key _ (alive_tracked _ r) (as_it_is p alone)
  message_tracked (Some (Discovery (ByeBye node))) r = each_keep _ (as_it_is p alone)
  message_tracked (Some (Measurement (Ping time prev))) r = as_it_is p alone
  message_tracked (Some (Measurement (Pong session b2 a2 b1))) r = pong_tracked (pong_msg session b2 a2 b1) _ refl r

-- a call that does not reset it keeps its part in measuring, up to upkeep
call_tracked : (e : Box) (c : Call) (p : Peer) → Memᴰ p e.peers → Each (λ q. q.id ≡ p.id → q ≡ p) e.peers → resets p e c ≡ false → Each (Tracked p.id p) (heard e c)
call_tracked e (packet iface from bytes now buf_size) p m a r = message_tracked e (arrived iface from now) bytes p m a (parse bytes) r
call_tracked e (tick now buf_size) p m a r = as_it_is p a
call_tracked e (commit s now buf_size) p m a r = as_it_is p a
call_tracked e (switch b now buf_size) p m a r = as_it_is p a
call_tracked e (interface_added iface addr) p m a r = as_it_is p a
call_tracked e (interface_removed iface) p m a r = as_it_is p a
call_tracked e (io_error iface error) p m a r = as_it_is p a

-- ---- one call

-- upkeep, and who it leaves
tracked_upkept : (now : HostTime) (p : Peer) {ps : List Peer} → Each (Tracked p.id p) ps → Each (Tracked p.id (after_ping now p)) (upkept now ps)
unfolding after_ping
tracked_upkept now p h = each_keep (recent now) (each_map (after_ping now) (λ q t k. like_pinged now p q (t k)) h)

like_asks : (now : HostTime) (p q : Peer) → Like p q → ask_count now q ≡ ask_count now p
like_asks now p q l = λ i. cond ((l.measuring i && le_z (l.next i).0 now.0) && not (leb 5 (l.timeouts i))) 1 0

-- each ask is counted, and none is made of one that was silent five times
counted_ask : (now : HostTime) (p : Peer) → (after_ping now p).ping_timeouts ≡ ask_count now p + p.ping_timeouts
unfolding after_ping
counted_ask now p = split (asks now p) (λ t. rw t (omega arith)) (λ t. rw t (omega arith))

few_asks : (now : HostTime) (p : Peer) → ask_count now p + p.ping_timeouts ≤ 5 ⊎ (ask_count now p ≡ 0)
few_asks now p = split (asks now p)
    (λ t. inl (let l : p.ping_timeouts < 5 = leb-false 5 p.ping_timeouts (not_true _ (both (ping_due now p) (not (silent p)) t).1) in rw t (omega arith)))
    (λ t. inr (cond-false _ _ t))

node_of_key : {m n : NodeId} → eqb m.0 n.0 ≡ true → m ≡ n
node_of_key e = ap (λ (k : ℕ). record { 0 = k }) (eqb-true _ _ e)

module _ (e : Box) (c : Call) (p : Peer) (asc : Ascending peer_key e.peers) (holds : held_peer p.id e.peers ≡ Some p) (r : resets p e c ≡ false) where
  there_is : Memᴰ p e.peers
  there_is = (first_mem (has_key peer_key p.id.0) p e.peers holds).0

  alone_is : Each (λ q. q.id ≡ p.id → q ≡ p) e.peers
  alone_is = alone_by_id p asc there_is

  heard_tracked : Each (Tracked p.id p) (heard e c)
  heard_tracked = call_tracked e c p there_is alone_is r

  -- what it asks is what p's own state says, or nothing
  asked_is : (asked p.id e c ≡ 0) ⊎ (asked p.id e c ≡ ask_count (call_time c) p)
  asked_is = by_outcome (step e c)
    where
      by_held : (o : Option Peer) → held_peer p.id (heard e c) ≡ o → (asks_held (call_time c) o ≡ 0) ⊎ (asks_held (call_time c) o ≡ ask_count (call_time c) p)
      by_held None f = inl refl
      by_held (Some q) f = let m = first_mem (has_key peer_key p.id.0) q (heard e c) f in inr (like_asks (call_time c) p q (each_mem heard_tracked m.0 (node_of_key m.1)))

      by_outcome : (o : Outcome) → (asked_by p.id e c o ≡ 0) ⊎ (asked_by p.id e c o ≡ ask_count (call_time c) p)
      by_outcome (refused k) = inl refl
      by_outcome (done e' os) = by_cond (λ (n : ℕ). (n ≡ 0) ⊎ (n ≡ ask_count (call_time c) p)) (runs_upkeep e c) (asks_held (call_time c) (held_peer p.id (heard e c))) 0 (λ t. by_held (held_peer p.id (heard e c)) refl) (λ t. inl refl)

  -- whoever has its id after the call has the count that it had, and one more where it was asked
  pub counted_on : (p' : Peer) → held_peer p.id (next e (step e c)).peers ≡ Some p' → p'.ping_timeouts ≡ asked p.id e c + p.ping_timeouts
  unfolding first
  counted_on p' h = by_outcome (step e c) refl h
    where
      -- it is p, where nothing is done
      unchanged_on : held_peer p.id e.peers ≡ Some p' → p'.ping_timeouts ≡ 0 + p.ping_timeouts
      unchanged_on k = let f : p'.ping_timeouts ≡ p.ping_timeouts = ap (λ (q : Peer). q.ping_timeouts) (some_inj p' p (sym k ∙ holds)) in omega arith

      asked_held : (o : Option Peer) → held_peer p.id (heard e c) ≡ o → found o ≡ true → asks_held (call_time c) o ≡ ask_count (call_time c) p
      asked_held None f t = clash (sym t)
      asked_held (Some q) f t = let m = first_mem (has_key peer_key p.id.0) q (heard e c) f in like_asks (call_time c) p q (each_mem heard_tracked m.0 (node_of_key m.1))

      upkept_on : held_peer p.id (upkept (call_time c) (heard e c)) ≡ Some p' → p'.ping_timeouts ≡ asks_held (call_time c) (held_peer p.id (heard e c)) + p.ping_timeouts
      upkept_on k =
          let m = first_mem (has_key peer_key p.id.0) p' (upkept (call_time c) (heard e c)) k in
          let l : Like (after_ping (call_time c) p) p' = each_mem (tracked_upkept (call_time c) p heard_tracked) m.0 (node_of_key m.1) in
          let i : Memᴰ p.id.0 (ids (heard e c)) = upkept_adds_none (call_time c) (heard e c) p.id.0 (subst (λ (j : ℕ). Memᴰ j (ids (upkept (call_time c) (heard e c)))) (eqb-true _ _ m.1) (mem_map peer_key p' m.0)) in
          l.timeouts ∙ counted_ask (call_time c) p ∙ ap (λ (j : ℕ). j + p.ping_timeouts) (sym (asked_held (held_peer p.id (heard e c)) refl (found_id p.id.0 (heard e c) i)))

      by_outcome : (o : Outcome) → step e c ≡ o → held_peer p.id (next e o).peers ≡ Some p' → p'.ping_timeouts ≡ asked_by p.id e c o + p.ping_timeouts
      by_outcome (refused k) s h = unchanged_on h
      by_outcome (done e' os) s h = split (runs_upkeep e c)
          (λ t. let ps : e'.peers ≡ upkept (call_time c) (heard e c) = accepted_peers e c e' os s ∙ cond-true _ _ t in
          upkept_on (ap (held_peer p.id) (sym ps) ∙ h) ∙ ap (λ (b : Bool). cond b (asks_held (call_time c) (held_peer p.id (heard e c))) 0 + p.ping_timeouts) (sym t))
          (λ t. let ps : e'.peers ≡ cond (goes_off e c) [] e.peers = accepted_peers e c e' os s ∙ cond-false _ _ t in
          unchanged_on (split (goes_off e c)
          (λ u. none_some p' (ap (held_peer p.id) (sym (ps ∙ cond-true _ _ u)) ∙ h))
          (λ u. ap (held_peer p.id) (sym (ps ∙ cond-false _ _ u)) ∙ h))
          ∙ ap (λ (b : Bool). cond b (asks_held (call_time c) (held_peer p.id (heard e c))) 0 + p.ping_timeouts) (sym t))

-- ---- any list of calls

-- the id under which one is held is its own
held_id : (n : NodeId) (ps : List Peer) (p : Peer) → held_peer n ps ≡ Some p → p.id ≡ n
held_id n ps p h = node_of_key (first_mem (has_key peer_key n.0) p ps h).1

-- what one call asks is within what the count leaves to five
call_within : (n : NodeId) (e : Box) (c : Call) (p : Peer) → Ascending peer_key e.peers → held_peer n e.peers ≡ Some p → resets p e c ≡ false → (asked n e c + p.ping_timeouts ≤ 5) ⊎ (asked n e c ≡ 0)
call_within n e c p asc h r =
    let is : p.id ≡ n = held_id n e.peers p h in
    subst (λ (m : NodeId). (asked m e c + p.ping_timeouts ≤ 5) ⊎ (asked m e c ≡ 0)) is
    (go (asked_is e c p asc (subst (λ (m : NodeId). held_peer m e.peers ≡ Some p) (sym is) h) r) (few_asks (call_time c) p))
  where
    go : (asked p.id e c ≡ 0) ⊎ (asked p.id e c ≡ ask_count (call_time c) p) → (ask_count (call_time c) p + p.ping_timeouts ≤ 5) ⊎ (ask_count (call_time c) p ≡ 0) → (asked p.id e c + p.ping_timeouts ≤ 5) ⊎ (asked p.id e c ≡ 0)
    go (inl z) w = inr z
    go (inr f) (inl w) = inl (subst (λ (k : ℕ). k + p.ping_timeouts ≤ 5) (sym f) w)
    go (inr f) (inr z) = inr (f ∙ z)

-- and is counted
call_counts : (n : NodeId) (e : Box) (c : Call) (p p' : Peer) → Ascending peer_key e.peers → held_peer n e.peers ≡ Some p → resets p e c ≡ false
    → held_peer n (next e (step e c)).peers ≡ Some p' → p'.ping_timeouts ≡ asked n e c + p.ping_timeouts
call_counts n e c p p' asc h r h' =
    let is : p.id ≡ n = held_id n e.peers p h in
    subst (λ (m : NodeId). p'.ping_timeouts ≡ asked m e c + p.ping_timeouts) is
    (counted_on e c p asc (subst (λ (m : NodeId). held_peer m e.peers ≡ Some p) (sym is) h) r p' (subst (λ (m : NodeId). held_peer m (next e (step e c)).peers ≡ Some p') (sym is) h'))

-- the same of any outcome
within_any : (n : NodeId) (e : Box) (c : Call) (p : Peer) → Ascending peer_key e.peers → held_peer n e.peers ≡ Some p → resets_in p e c (step e c) ≡ false → (asked n e c + p.ping_timeouts ≤ 5) ⊎ (asked n e c ≡ 0)
within_any n e c p asc h r = go (step e c) refl r
  where
    go : (o : Outcome) → step e c ≡ o → resets_in p e c o ≡ false → (asked n e c + p.ping_timeouts ≤ 5) ⊎ (asked n e c ≡ 0)
    go (refused k) s r = inr (ap (asked_by n e c) s)
    go (done e' os) s r = call_within n e c p asc h r

counts_any : (n : NodeId) (e : Box) (c : Call) (p p' : Peer) → Ascending peer_key e.peers → held_peer n e.peers ≡ Some p → resets_in p e c (step e c) ≡ false
    → held_peer n (next e (step e c)).peers ≡ Some p' → p'.ping_timeouts ≡ asked n e c + p.ping_timeouts
counts_any n e c p p' asc h r h' = go (step e c) refl r
  where
    go : (o : Outcome) → step e c ≡ o → resets_in p e c o ≡ false → p'.ping_timeouts ≡ asked n e c + p.ping_timeouts
    go (refused k) s r =
        let z : asked n e c ≡ 0 = ap (asked_by n e c) s in
        let f : p'.ping_timeouts ≡ p.ping_timeouts = ap (λ (q : Peer). q.ping_timeouts) (some_inj p' p (sym h' ∙ ap (λ (o : Outcome). held_peer n (next e o).peers) s ∙ h)) in omega arith
    go (done e' os) s r = call_counts n e c p p' asc h r h'

-- as long as nothing resets it, it is asked at most as often as its count leaves to five
asked_within : (a n : NodeId) (e : Box) → Reached a e → (p : Peer) → held_peer n e.peers ≡ Some p → (cs : List Call) → Unreset n e cs → asked_over n e cs ≤ 5 - p.ping_timeouts
unfolding asked_over
asked_within a n e r p h [] over = omega arith
asked_within a n e r p h (c ∷ []) (goes_on q k u over) =
    let v : resets_in p e c (step e c) ≡ false = subst (λ (x : Peer). resets_in x e c (step e c) ≡ false) (some_inj q p (sym k ∙ h)) u in
    go (within_any n e c p r.ascending_peers h v)
  where
    go : (asked n e c + p.ping_timeouts ≤ 5) ⊎ (asked n e c ≡ 0) → asked n e c + 0 ≤ 5 - p.ping_timeouts
    go (inl l) = omega arith
    go (inr z) = omega arith
asked_within a n e r p h (c ∷ d ∷ cs) (goes_on q k u (goes_on p' h' u' un)) =
    let v : resets_in p e c (step e c) ≡ false = subst (λ (x : Peer). resets_in x e c (step e c) ≡ false) (some_inj q p (sym k ∙ h)) u in
    go (within_any n e c p r.ascending_peers h v) (counts_any n e c p p' r.ascending_peers h v h')
    (asked_within a n (next e (step e c)) (reached_step a e r c) p' h' (d ∷ cs) (goes_on p' h' u' un))
  where
    go : (asked n e c + p.ping_timeouts ≤ 5) ⊎ (asked n e c ≡ 0) → p'.ping_timeouts ≡ asked n e c + p.ping_timeouts
        → asked_over n (next e (step e c)) (d ∷ cs) ≤ 5 - p'.ping_timeouts → asked n e c + asked_over n (next e (step e c)) (d ∷ cs) ≤ 5 - p.ping_timeouts
    go (inl l) f w = omega arith
    go (inr z) f w = omega arith

-- at most five times in all
pub five_asks : (a : NodeId) (cs : List Call) (n : NodeId) (ds : List Call) → Unreset n (run (new a) cs) ds → asked_over n (run (new a) cs) ds ≤ 5
unfolding asked_over
five_asks a cs n [] over = omega arith
five_asks a cs n (d ∷ ds) (goes_on p h u un) =
    let w : asked_over n (run (new a) cs) (d ∷ ds) ≤ 5 - p.ping_timeouts = asked_within a n (run (new a) cs) (reached a cs) p h (d ∷ ds) (goes_on p h u un) in omega arith

-- the count after some calls is what it was and what they asked
counted_over : (a n : NodeId) (e : Box) → Reached a e → (p : Peer) → held_peer n e.peers ≡ Some p → (cs : List Call) → Unreset n e cs
    → (p' : Peer) → held_peer n (run e cs).peers ≡ Some p' → p'.ping_timeouts ≡ asked_over n e cs + p.ping_timeouts
unfolding asked_over run
counted_over a n e r p h [] over p' h' = let f : p'.ping_timeouts ≡ p.ping_timeouts = ap (λ (q : Peer). q.ping_timeouts) (some_inj p' p (sym h' ∙ h)) in omega arith
counted_over a n e r p h (c ∷ []) (goes_on q k u over) p' h' =
    let v : resets_in p e c (step e c) ≡ false = subst (λ (x : Peer). resets_in x e c (step e c) ≡ false) (some_inj q p (sym k ∙ h)) u in
    let w : p'.ping_timeouts ≡ asked n e c + p.ping_timeouts = counts_any n e c p p' r.ascending_peers h v h' in omega arith
counted_over a n e r p h (c ∷ d ∷ cs) (goes_on q k u (goes_on p₁ h₁ u₁ un)) p' h' =
    let v : resets_in p e c (step e c) ≡ false = subst (λ (x : Peer). resets_in x e c (step e c) ≡ false) (some_inj q p (sym k ∙ h)) u in
    let w : p₁.ping_timeouts ≡ asked n e c + p.ping_timeouts = counts_any n e c p p₁ r.ascending_peers h v h₁ in
    let x : p'.ping_timeouts ≡ asked_over n (next e (step e c)) (d ∷ cs) + p₁.ping_timeouts = counted_over a n (next e (step e c)) (reached_step a e r c) p₁ h₁ (d ∷ cs) (goes_on p₁ h₁ u₁ un) p' h' in omega arith

-- ---- the end of measuring

-- what a call that does not reset p makes of its part in measuring
measured_after : (e : Box) (c : Call) (p : Peer) → Ascending peer_key e.peers → held_peer p.id e.peers ≡ Some p → resets p e c ≡ false → (e' : Box) (os : List Output) → step e c ≡ done e' os
    → Each (Tracked p.id (cond (runs_upkeep e c) (after_ping (call_time c) p) p)) e'.peers
measured_after e c p asc h r e' os s = subst (Each (Tracked p.id (cond (runs_upkeep e c) (after_ping (call_time c) p) p))) (sym (accepted_peers e c e' os s)) (split (runs_upkeep e c)
    (λ t. subst (λ (b : Bool). Each (Tracked p.id (cond b (after_ping (call_time c) p) p)) (cond b (upkept (call_time c) (heard e c)) (cond (goes_off e c) [] e.peers))) (sym t)
    (tracked_upkept (call_time c) p (heard_tracked e c p asc h r)))
    (λ t. subst (λ (b : Bool). Each (Tracked p.id (cond b (after_ping (call_time c) p) p)) (cond b (upkept (call_time c) (heard e c)) (cond (goes_off e c) [] e.peers))) (sym t)
    (either (goes_off e c) nil (as_it_is p (alone_is e c p asc h r)))))

-- one that is not measured stays so
unmeasured_pinged : (now : HostTime) (p : Peer) → p.measuring ≡ false → (after_ping now p).measuring ≡ false
unfolding after_ping
unmeasured_pinged now p off = split (ping_due now p && silent p) (λ t. cond-true _ _ t) (λ t. cond-false _ _ t ∙ off)

-- a ping that is due after five unanswered ones
sixth_pinged : (now : HostTime) (p : Peer) → ping_due now p ≡ true → silent p ≡ true → (after_ping now p).measuring ≡ false
unfolding after_ping
sixth_pinged now p due five = cond-true _ _ (ap₂ ◌&&◌ due five)

module _ (a : NodeId) (cs : List Call) (p : Peer) (c : Call) (e' : Box) (os : List Output)
    (h : held_peer p.id (run (new a) cs).peers ≡ Some p) (r : resets p (run (new a) cs) c ≡ false) (s : step (run (new a) cs) c ≡ done e' os) where
  -- the sixth due call ends measuring
  pub sixth_ends : runs_upkeep (run (new a) cs) c ≡ true → ping_due (call_time c) p ≡ true → silent p ≡ true → Each (λ q. q.id ≡ p.id → q.measuring ≡ false) e'.peers
  sixth_ends up due five =
      each (λ q t k. (t k).measuring ∙ ap (λ (x : Peer). x.measuring) (cond-true (after_ping (call_time c) p) p up) ∙ sixth_pinged (call_time c) p due five)
      (measured_after (run (new a) cs) c p (reached a cs).ascending_peers h r e' os s)

  -- and where nothing resets it, it stays ended
  pub stays_ended : p.measuring ≡ false → Each (λ q. q.id ≡ p.id → q.measuring ≡ false) e'.peers
  stays_ended off =
      each (λ q t k. (t k).measuring ∙ by_cond (λ (x : Peer). x.measuring ≡ false) (runs_upkeep (run (new a) cs) c) (after_ping (call_time c) p) p (λ u. unmeasured_pinged (call_time c) p off) (λ u. off))
      (measured_after (run (new a) cs) c p (reached a cs).ascending_peers h r e' os s)

-- asked five times over some calls that do not reset it, it is ended by the next due call
pub ended_after_five : (a : NodeId) (cs : List Call) (n : NodeId) (ds : List Call) → Unreset n (run (new a) cs) ds → asked_over n (run (new a) cs) ds ≡ 5
    → (p : Peer) → held_peer n (run (new a) (cs ++ ds)).peers ≡ Some p → (c : Call) (e' : Box) (os : List Output) → step (run (new a) (cs ++ ds)) c ≡ done e' os
    → resets p (run (new a) (cs ++ ds)) c ≡ false → runs_upkeep (run (new a) (cs ++ ds)) c ≡ true → ping_due (call_time c) p ≡ true → Each (λ q. q.id ≡ n → q.measuring ≡ false) e'.peers
unfolding asked_over
ended_after_five a cs n [] un five p h c e' os s r up due = let o : ⊥ = omega arith in absurd o
ended_after_five a cs n (d ∷ ds) (goes_on q k u un) five p h c e' os s r up due =
    let is : p.id ≡ n = held_id n (run (new a) (cs ++ (d ∷ ds))).peers p h in
    let w : p.ping_timeouts ≡ asked_over n (run (new a) cs) (d ∷ ds) + q.ping_timeouts =
    counted_over a n (run (new a) cs) (reached a cs) q k (d ∷ ds) (goes_on q k u un) p (subst (λ (e : Box). held_peer n e.peers ≡ Some p) (run_append (new a) cs (d ∷ ds)) h) in
    each (λ x f g. f (g ∙ sym is))
    (sixth_ends a (cs ++ (d ∷ ds)) p c e' os (subst (λ (m : NodeId). held_peer m (run (new a) (cs ++ (d ∷ ds))).peers ≡ Some p) (sym is) h) r s up due (le-leb 5 p.ping_timeouts (omega arith)))
