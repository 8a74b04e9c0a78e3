-- Which neighbours a call keeps, and which it drops.
use Rattle.std.specs.Prelude.{ℕ, ◌≡◌, ◌≢◌, ◌⊎◌, Bool, true, ltb, ℤ, pos, ◌-ℤ◌, ◌≤ℤ◌, Option, Some, None}
use Rattle.std.proofs.Math.Path.{refl, sym}
use Rattle.std.proofs.Common.{ap, ◌∙◌, subst}
use Rattle.std.proofs.Math.Logic.{inl, inr}
use Rattle.std.proofs.Math.Bool.{false, not}
use mathlib.Core.List.{List, ◌∷◌, map, Memᴰ}
use borrow.Author.Tests.{eqb-true, eqb-false}
use Rattle.signed.specs.Laws.Signs.{le_z-true}
use Rattle.time.specs.declared.HostTime.{HostTime}
use Rattle.wire.specs.declared.NodeId.{NodeId}
use Rattle.wire.specs.declared.DiscoveryMsg.TheVariants.{Alive, ByeBye}
use Rattle.wire.specs.declared.MeasurementMsg.TheVariants.{Ping, Pong}
use Rattle.wire.specs.declared.Message.TheVariants.{Discovery, Measurement}
use Rattle.wire.specs.Parse.{parse}
use Rattle.wire.specs.Same.{same_node}
use Rattle.lists.specs.Lists.{first, change, insert, has_key, upsert, without}
use Rattle.model.specs.Peers.{Peer, peer_key}
use Rattle.model.specs.Engine.{Box, Output, with_peers}
use Rattle.model.specs.Produce.{after_ping, recent}
use Rattle.model.specs.Packet.{Arrival, after_alive, handle_alive_of, handle_alive, handle_byebye, handle_ping, PongMsg, moved, measured, after_pong, handle_pong_of, handle_pong, unchanged, handle_message, owns}
use Rattle.model.specs.Calls.{Call, packet, tick, commit, switch, interface_added, interface_removed, io_error, done, step}
use Rattle.model.specs.Laws.Calls.Messages.{arrived, pong_msg}
use Rattle.lists.specs.Laws.Bools.{split, by_cond, clash, not_true, cond-true, cond-false}
use Rattle.lists.specs.Laws.Each.{Each, each_kept, each_keep, each_map, by_held, mem_upsert}
use Rattle.model.proofs.Laws.Calls.Kept.{sender_key}
use Rattle.model.specs.Laws.Calls.Course.{Course, packet_ignored, packet_taken, ticked, commit_same, commit_taken, switch_same, went_on, went_off, added, removed, failed, Admitted}
use Rattle.model.proofs.Laws.Calls.Course.{course}
use Rattle.model.specs.Laws.Clerk.Neighbours.{runs_upkeep, goes_off, call_time, heard, upkept}
use Rattle.model.proofs.Laws.Clerk.Neighbours.{accepted_peers}
use Rattle.model.specs.Laws.Clerk.Ids.{ids}
use Rattle.model.proofs.Laws.Clerk.Ids.{mem_keep, mem_map}
use Rattle.model.specs.Laws.Clerk.Times.{SeenLately}
use Rattle.model.proofs.Laws.Clerk.Times.{recent_by, recent_now, six_earlier}
use Rattle.model.specs.Laws.Clerk.Staying.{says_bye, says_alive, StillIn, bids_bye, is_alive_of}
use Rattle.wire.specs.declared.Message.{Message}

-- ---- lists

module _ {A : Type 0} where
  mem_changed : (t : A → Bool) (f : A → A) {x : A} {xs : List A} → Memᴰ x xs → Memᴰ x (change t f xs) ⊎ ((t x ≡ true) × Memᴰ (f x) (change t f xs))
  unfolding change
  mem_changed t f {x} (Memᴰ.head {x = y} {xs = ys} e) =
      by_cond (λ (l : List A). Memᴰ x l ⊎ ((t x ≡ true) × Memᴰ (f x) l)) (t y) (f y ∷ ys) (y ∷ change t f ys)
      (λ u. inr (ap t e ∙ u, Memᴰ.head (ap f e))) (λ u. inl (Memᴰ.head e))
  mem_changed t f {x} (Memᴰ.tail {x = y} {xs = ys} m) =
      by_cond (λ (l : List A). Memᴰ x l ⊎ ((t x ≡ true) × Memᴰ (f x) l)) (t y) (f y ∷ ys) (y ∷ change t f ys)
      (λ u. inl (Memᴰ.tail m)) (λ u. further (mem_changed t f m))
    where
      further : Memᴰ x (change t f ys) ⊎ ((t x ≡ true) × Memᴰ (f x) (change t f ys)) → Memᴰ x (y ∷ change t f ys) ⊎ ((t x ≡ true) × Memᴰ (f x) (y ∷ change t f ys))
      further (inl k) = inl (Memᴰ.tail k)
      further (inr k) = inr (k.0, Memᴰ.tail k.1)

module _ {A : Type 0} (key : A → ℕ) where
  mem_inserted : (x : A) {y : A} {ys : List A} → Memᴰ y ys → Memᴰ y (insert key x ys)
  unfolding insert
  mem_inserted x {y} (Memᴰ.head {x = z} {xs = zs} e) =
      by_cond (Memᴰ y) (ltb (key x) (key z)) (x ∷ (z ∷ zs)) (z ∷ insert key x zs) (λ u. Memᴰ.tail (Memᴰ.head e)) (λ u. Memᴰ.head e)
  mem_inserted x {y} (Memᴰ.tail {x = z} {xs = zs} m) =
      by_cond (Memᴰ y) (ltb (key x) (key z)) (x ∷ (z ∷ zs)) (z ∷ insert key x zs) (λ u. Memᴰ.tail (Memᴰ.tail m)) (λ u. Memᴰ.tail (mem_inserted x m))

  -- one of a list with a `upsert`: it is there, or the new one has its key
  mem_beside_upsert : (x : A) {y : A} (ys : List A) → Memᴰ y ys → Memᴰ y (upsert key x ys) ⊎ (key y ≡ key x)
  mem_beside_upsert x {y} ys m =
      by_held key x ys (λ l. Memᴰ y l ⊎ (key y ≡ key x))
      (λ e. changed (mem_changed (has_key key (key x)) (λ z. x) m))
      (λ e. inl (mem_inserted x m))
    where
      changed : {l : List A} → Memᴰ y l ⊎ ((has_key key (key x) y ≡ true) × Memᴰ x l) → Memᴰ y l ⊎ (key y ≡ key x)
      changed (inl k) = inl k
      changed (inr k) = inr (eqb-true _ _ k.0)

as_it_was : (now : HostTime) (p : Peer) {ps : List Peer} → Memᴰ p ps → StillIn now false p ps
as_it_was now p m = record { peer = p; there = m; id = refl; seen = inl (refl, refl) }

module _ (e : Box) (a : Arrival) (bytes : List ℕ) (p : Peer) (held : Memᴰ p e.peers) where
  alive_keeps : (x : Peer) → x.last_seen ≡ a.now → (announced : Bool) → (announced ≡ true → peer_key p ≡ peer_key x) → StillIn a.now announced p (upsert peer_key x e.peers)
  alive_keeps x seen announced same = split announced (λ t. replaced (same t)) (λ t. beside t (mem_beside_upsert peer_key x e.peers held))
    where
      replaced : peer_key p ≡ peer_key x → StillIn a.now announced p (upsert peer_key x e.peers)
      replaced k = record { peer = x; there = mem_upsert peer_key x e.peers; id = sym (ap (λ (n : ℕ). record { 0 = n }) k); seen = inr seen }

      beside : announced ≡ false → Memᴰ p (upsert peer_key x e.peers) ⊎ (peer_key p ≡ peer_key x) → StillIn a.now announced p (upsert peer_key x e.peers)
      beside t (inl m) = record { peer = p; there = m; id = refl; seen = inl (t, refl) }
      beside t (inr k) = replaced k

  pong_keeps : (m : PongMsg) (o : Option Peer) → StillIn a.now false p (handle_pong_of e a m o).box.peers
  unfolding handle_pong_of unchanged with_peers after_pong measured moved
  pong_keeps m None = as_it_was a.now p held
  pong_keeps m (Some x) = go (mem_changed (owns a.from) (after_pong m a.now) held)
    where
      go : {l : List Peer} → Memᴰ p l ⊎ ((owns a.from p ≡ true) × Memᴰ (after_pong m a.now p) l) → StillIn a.now false p l
      go (inl k) = as_it_was a.now p k
      go (inr k) = record { peer = after_pong m a.now p; there = k.1; id = refl; seen = inl (refl, refl) }

  pub message_keeps : (m : Option Message) → says_bye p.id m ≡ false → StillIn a.now (says_alive p.id m) p (handle_message e a bytes m).box.peers
  unfolding handle_message unchanged handle_alive handle_alive_of handle_byebye handle_ping handle_pong with_peers without after_alive
  message_keeps None b = as_it_was a.now p held
  message_keeps (Some (Discovery (Alive node timeline start_stop session mep4))) b =
      alive_keeps _ refl (same_node p.id node) (λ t. eqb-true _ _ t ∙ sym (sender_key node a.from a.now e.peers))
  message_keeps (Some (Discovery (ByeBye node))) b = as_it_was a.now p (mem_keep _ p held (ap not b))
  message_keeps (Some (Measurement (Ping time prev))) b = as_it_was a.now p held
  message_keeps (Some (Measurement (Pong session b2 a2 b1))) b = pong_keeps (pong_msg session b2 a2 b1) (first (owns a.from) e.peers)

-- a bye leaves none of its node
bye_drops : (e : Box) (a : Arrival) (bytes : List ℕ) (n : NodeId) (m : Option Message) → says_bye n m ≡ true
    → Each (λ q. q.id ≢ n) (handle_message e a bytes m).box.peers
unfolding handle_message handle_byebye with_peers without
bye_drops e a bytes n None b = clash (sym b)
bye_drops e a bytes n (Some (Discovery (Alive node timeline start_stop session mep4))) b = clash (sym b)
bye_drops e a bytes n (Some (Discovery (ByeBye node))) b =
    each_kept (λ q. not (has_key peer_key node.0 q)) e.peers (λ q t k. eqb-false _ _ (not_true _ t) (ap (λ (i : NodeId). i.0) k ∙ eqb-true _ _ b))
bye_drops e a bytes n (Some (Measurement m)) b = clash (sym b)

heard_keeps : (e : Box) (c : Call) (p : Peer) → Memᴰ p e.peers → bids_bye p.id c ≡ false → StillIn (call_time c) (is_alive_of p.id c) p (heard e c)
heard_keeps e (packet iface from bytes now buf_size) p m b = message_keeps e (arrived iface from now) bytes p m (parse bytes) b
heard_keeps e (tick now buf_size) p m b = as_it_was now p m
heard_keeps e (commit s now buf_size) p m b = as_it_was now p m
heard_keeps e (switch t now buf_size) p m b = as_it_was now p m
heard_keeps e (interface_added iface addr) p m b = as_it_was _ p m
heard_keeps e (interface_removed iface) p m b = as_it_was _ p m
heard_keeps e (io_error iface error) p m b = as_it_was _ p m

-- a call with upkeep has a time that is accepted
upkeep_time : (e e' : Box) (os : List Output) (c : Call) → Course e e' os c → runs_upkeep e c ≡ true → (buf_size : ℕ) × Admitted (call_time c) buf_size
upkeep_time e e' os c (packet_ignored {buf_size = buf_size} a t i) r = (buf_size, a)
upkeep_time e e' os c (packet_taken {buf_size = buf_size} a l on own full k) r = (buf_size, a)
upkeep_time e e' os c (ticked {buf_size = buf_size} a k) r = (buf_size, a)
upkeep_time e e' os c (commit_same {buf_size = buf_size} a t i) r = (buf_size, a)
upkeep_time e e' os c (commit_taken {buf_size = buf_size} a t k) r = (buf_size, a)
upkeep_time e e' os c (switch_same {buf_size = buf_size} a t i) r = (buf_size, a)
upkeep_time e e' os c (went_on {buf_size = buf_size} a t k) r = (buf_size, a)
upkeep_time e e' os c (went_off {buf_size = buf_size} a t h) r = (buf_size, a)
upkeep_time e e' os c (added f g) r = clash (sym r)
upkeep_time e e' os c (removed f g) r = clash (sym r)
upkeep_time e e' os c (failed f g) r = clash (sym r)

-- after a call with upkeep every neighbour held was seen at most 6,000,000 before
pub lately : (e : Box) (c : Call) (e' : Box) (os : List Output) → step e c ≡ done e' os → runs_upkeep e c ≡ true → Each (SeenLately (call_time c)) e'.peers
lately e c e' os h r =
    let (buf_size, a) = upkeep_time e e' os c (course e c e' os h) r in
    let after : e'.peers ≡ upkept (call_time c) (heard e c) = accepted_peers e c e' os h ∙ cond-true _ _ r in
    subst (Each (SeenLately (call_time c))) (sym after)
    (each_kept (recent (call_time c)) (map (after_ping (call_time c)) (heard e c)) (λ p t. subst (λ (z : ℤ). z ≤ℤ p.last_seen.0) (six_earlier a) (le_z-true t)))

heard_drops : (e : Box) (c : Call) (n : NodeId) → bids_bye n c ≡ true → Each (λ q. q.id ≢ n) (heard e c)
heard_drops e (packet iface from bytes now buf_size) n b = bye_drops e (arrived iface from now) bytes n (parse bytes) b
heard_drops e (tick now buf_size) n b = clash (sym b)
heard_drops e (commit s now buf_size) n b = clash (sym b)
heard_drops e (switch t now buf_size) n b = clash (sym b)
heard_drops e (interface_added iface addr) n b = clash (sym b)
heard_drops e (interface_removed iface) n b = clash (sym b)
heard_drops e (io_error iface error) n b = clash (sym b)

-- after a bye with upkeep none of its node is held
pub goes : (e : Box) (c : Call) (e' : Box) (os : List Output) → step e c ≡ done e' os → (n : NodeId) → bids_bye n c ≡ true → runs_upkeep e c ≡ true → Each (λ q. q.id ≢ n) e'.peers
unfolding after_ping
goes e c e' os h n b r = subst (Each (λ q. q.id ≢ n)) (sym (accepted_peers e c e' os h ∙ cond-true _ _ r))
    (each_keep (recent (call_time c)) (each_map (after_ping (call_time c)) (λ p k. k) (heard_drops e c n b)))

-- a neighbour stays through a call that neither switches off nor is a bye of it, and whose upkeep finds it announced or seen at most 6,000,000 before
pub stays : (e : Box) (c : Call) (e' : Box) (os : List Output) → step e c ≡ done e' os → (p : Peer) → Memᴰ p e.peers → goes_off e c ≡ false → bids_bye p.id c ≡ false
    → (runs_upkeep e c ≡ true → is_alive_of p.id c ≡ false → SeenLately (call_time c) p) → Memᴰ p.id.0 (ids e'.peers)
unfolding after_ping
stays e c e' os h p m off bye seen = subst (λ (ps : List Peer). Memᴰ p.id.0 (ids ps)) (sym (accepted_peers e c e' os h)) (split (runs_upkeep e c)
    (λ r. subst (λ (ps : List Peer). Memᴰ p.id.0 (ids ps)) (sym (cond-true _ _ r)) (kept r (heard_keeps e c p m bye)))
    (λ r. subst (λ (ps : List Peer). Memᴰ p.id.0 (ids ps)) (sym (cond-false _ _ r ∙ cond-false _ _ off)) (mem_map peer_key p m)))
  where
    late : (r : runs_upkeep e c ≡ true) (q : Peer) → ((is_alive_of p.id c ≡ false) × (q.last_seen ≡ p.last_seen)) ⊎ (q.last_seen ≡ call_time c) → recent (call_time c) q ≡ true
    late r q (inl f) = let (buf_size, a) = upkeep_time e e' os c (course e c e' os h) r in recent_by a q (subst (λ (t : HostTime). ((call_time c).0 -ℤ pos 6_000_000) ≤ℤ t.0) (sym f.1) (seen r f.0))
    late r q (inr f) = let (buf_size, a) = upkeep_time e e' os c (course e c e' os h) r in recent_now a q f

    kept : (r : runs_upkeep e c ≡ true) → StillIn (call_time c) (is_alive_of p.id c) p (heard e c) → Memᴰ p.id.0 (ids (upkept (call_time c) (heard e c)))
    kept r s =
        let q : Peer = after_ping (call_time c) s.peer in
        subst (λ (n : NodeId). Memᴰ n.0 (ids (upkept (call_time c) (heard e c)))) s.id
        (mem_map peer_key q (mem_keep (recent (call_time c)) q (mem_map (after_ping (call_time c)) s.peer s.there) (late r s.peer s.seen)))
