-- A pong that comes twice is one sample.
use Rattle.std.specs.Prelude.{ℕ, ◌<◌, ◌≤◌, ◌≡◌, ◌⊎◌, Bool, not, take, Option, Some, None}
use native.Mathlib.Omega.{arith}
use Rattle.std.proofs.Math.Path.{refl, sym, ap, subst}
use Rattle.std.proofs.Common.{ap₂, ◌∙◌, inl, inr}
use Rattle.std.proofs.Math.Bool.{true, false, ◌&&◌, cond}
use mathlib.Core.List.{List, [], ◌∷◌, ◌++◌, map, Memᴰ}
use Rattle.std.proofs.Math.Dec.{ltb}
use Rattle.std.proofs.Math.ListN.{length, length-take, length-append}
use Rattle.std.proofs.Math.Seq.{take_all}
use borrow.Author.Tests.{eqb-true, ltb-true, le-ltb}
use Rattle.signed.specs.Laws.Signs.{le_le_z, eq_z_refl}
use Rattle.signed.specs.Laws.Tests.{both}
use Rattle.time.specs.declared.HostTime.{HostTime}
use Rattle.time.specs.Same.{same_time}
use Rattle.wire.specs.declared.SocketAddrPlain.{SocketAddrPlain}
use Rattle.wire.specs.Parse.{parse}
use Rattle.wire.specs.Same.{same_maybe_node}
use Rattle.lists.specs.Lists.{found, holds, first, keep, change, has_key}
use Rattle.model.specs.Peers.{Samples, Peer, peer_key, no_samples, sampled}
use Rattle.model.specs.Engine.{Box, Output, with_peers}
use Rattle.model.specs.Produce.{ping_due, silent, after_ping, recent}
use Rattle.model.specs.Packet.{PongMsg, sample_of, owns, moves, moved, samples_with, still_measuring, measured, after_pong, handle_pong_of, handle_pong, handle_message, held_peer}
use Rattle.model.specs.Calls.{packet, Outcome, refused, done, timely, admit, take_message, our_own, hears, sampled_before, refusal_by, read_refusal, unless_refused, handle_read, handle_packet, step, next}
use Rattle.model.specs.Laws.Calls.Messages.{arrived, pong_said}
use Rattle.lists.specs.Laws.Bools.{split, by_cond, clash, some_inj, none_some, cond-true, cond-false}
use Rattle.model.specs.Laws.Tools.Tests.{same_maybe_node_refl}
use Rattle.model.specs.Laws.Tools.Outcomes.{refused_done}
use Rattle.lists.specs.Laws.Each.{Each, ◌▸◌, each, each_mem, each_map, each_keep, each_kept, first_mem, mem_right, Ascending, none_left, more, ascending_change, ascending_keep, ascending_map}
use Rattle.model.specs.Laws.Clerk.Neighbours.{upkept}
use Rattle.model.proofs.Laws.Clerk.Ids.{found_mem}
use Rattle.model.specs.Laws.Clerk.Twice.{Taken}
use Rattle.model.proofs.Laws.Clerk.Twice.{packet_course}
use Rattle.wire.specs.declared.NodeId.{NodeId}
use Rattle.wire.specs.declared.Message.{Message}

-- ---- the first of a list that is changed, mapped or thinned out

module _ {A : Type 0} (t : A → Bool) where
  first_change : (f : A → A) (x : A) (xs : List A) → first t xs ≡ Some x → t (f x) ≡ true → first t (change t f xs) ≡ Some (f x)
  unfolding first change
  first_change f x [] h k = none_some x h
  first_change f x (y ∷ ys) h k = split (t y)
      (λ u. let e : y ≡ x = some_inj y x (sym (cond-true _ _ u) ∙ h) in
      ap (first t) (cond-true (f y ∷ ys) (y ∷ change t f ys) u) ∙ cond-true _ _ (ap (λ (z : A). t (f z)) e ∙ k) ∙ ap (λ (z : A). Some (f z)) e)
      (λ u. ap (first t) (cond-false (f y ∷ ys) (y ∷ change t f ys) u) ∙ cond-false _ _ u ∙ first_change f x ys (sym (cond-false _ _ u) ∙ h) k)

  first_map : (g : A → A) → ((x : A) → t (g x) ≡ t x) → (x : A) (xs : List A) → first t xs ≡ Some x → first t (map g xs) ≡ Some (g x)
  unfolding first
  first_map g e x [] h = none_some x h
  first_map g e x (y ∷ ys) h = split (t y)
      (λ u. cond-true _ _ (e y ∙ u) ∙ ap (λ (z : A). Some (g z)) (some_inj y x (sym (cond-true _ _ u) ∙ h)))
      (λ u. cond-false _ _ (e y ∙ u) ∙ first_map g e x ys (sym (cond-false _ _ u) ∙ h))

  first_keep : (k : A → Bool) (x : A) (xs : List A) → first t xs ≡ Some x → k x ≡ true → first t (keep k xs) ≡ Some x
  unfolding first keep
  first_keep k x [] h g = none_some x h
  first_keep k x (y ∷ ys) h g = split (t y)
      (λ u. let e : y ≡ x = some_inj y x (sym (cond-true _ _ u) ∙ h) in
      ap (first t) (cond-true (y ∷ keep k ys) (keep k ys) (ap k e ∙ g)) ∙ cond-true _ _ u ∙ ap Some e)
      (λ u. let r : first t (keep k ys) ≡ Some x = first_keep k x ys (sym (cond-false _ _ u) ∙ h) g in
      by_cond (λ (l : List A). first t l ≡ Some x) (k y) (y ∷ keep k ys) (keep k ys) (λ v. cond-false _ _ u ∙ r) (λ v. r))

  -- among ascending keys, the one with the changed one's key is the changed one
  changed_alone : (key : A → ℕ) (f : A → A) (x : A) → {xs : List A} → Ascending key xs → first t xs ≡ Some x → Each (λ y. key y ≡ key x → y ≡ f x) (change t f xs)
  unfolding first change
  changed_alone key f x none_left h = none_some x h
  changed_alone key f x (more {x = y} {xs = ys} a as') h = split (t y)
      (λ u. let e : y ≡ x = some_inj y x (sym (cond-true _ _ u) ∙ h) in
      subst (Each (λ z. key z ≡ key x → z ≡ f x)) (sym (cond-true (f y ∷ ys) (y ∷ change t f ys) u))
      ((λ k. ap f e) ▸ each (λ z (l : key y < key z) k. let g : key y ≡ key x = ap key e in let o : ⊥ = omega arith in absurd o) a))
      (λ u. let r : first t ys ≡ Some x = sym (cond-false _ _ u) ∙ h in
      subst (Each (λ z. key z ≡ key x → z ≡ f x)) (sym (cond-false (f y ∷ ys) (y ∷ change t f ys) u))
      ((λ k. let l : key y < key x = each_mem a (first_mem t x ys r).0 in let o : ⊥ = omega arith in absurd o) ▸ changed_alone key f x as' r))

-- ---- the owner after its pong, and upkeep

-- it hangs on the held session alone
moves_by : (session : Option NodeId) (p q : Peer) → p.session_id ≡ q.session_id → moves session p ≡ moves session q
moves_by None p q e = refl
moves_by (Some s) p q e = ap (λ (o : Option NodeId). not (same_maybe_node o (Some s))) e

-- the session that was given is the one that is held then
moved_once : (session : Option NodeId) (p : Peer) → moves session (moved session p) ≡ false
unfolding moved
moved_once None p = refl
moved_once (Some s) p = split (moves (Some s) p)
    (λ t. ap (λ (o : Option NodeId). not (same_maybe_node o (Some s))) (cond-true (Some s) p.session_id t) ∙ ap not (same_maybe_node_refl (Some s)))
    (λ t. ap (λ (o : Option NodeId). not (same_maybe_node o (Some s))) (cond-false (Some s) p.session_id t) ∙ t)

module _ (m : PongMsg) (now : HostTime) (p : Peer) where
  -- what the session that the pong names leaves of the samples
  abbrev left : Samples
  left = (moved m.session_id p).samples

  abbrev after_both : Peer
  after_both = after_ping now (after_pong m now p)

  both_moved : moves m.session_id after_both ≡ false
  unfolding after_ping after_pong measured
  both_moved = moves_by m.session_id after_both (moved m.session_id p) refl ∙ moved_once m.session_id p

  -- it was measured before
  was_measured : after_both.measuring ≡ true → (p.measuring ≡ true) × (ltb (length (samples_with m.ping_host_time (sample_of m now) (moved m.session_id p)).offsets) 20 ≡ true)
  unfolding after_ping after_pong measured still_measuring moved
  was_measured h = both p.measuring _ (by_cond (λ (b : Bool). b ≡ true → still_measuring m.ping_host_time (sample_of m now) (moved m.session_id p) ≡ true)
      (ping_due now (after_pong m now p) && silent (after_pong m now p)) false (after_pong m now p).measuring (λ t u. clash (sym u)) (λ t u. u) h)

  -- so it has room for one more, and its pong's time is the last of its ping times
  both_times : length p.samples.ping_times ≡ length p.samples.offsets → after_both.measuring ≡ true → after_both.samples.ping_times ≡ left.ping_times ++ (m.ping_host_time ∷ [])
  unfolding after_ping after_pong measured samples_with moved sampled
  both_times same h =
      let (on, few) = was_measured h in
      let l : length (take 20 (left.offsets ++ (sample_of m now ∷ []))) < 20 = ltb-true _ _ (sym (ap (λ (b : Bool). ltb (length (cond b (sampled m.ping_host_time (sample_of m now) left) left).offsets) 20) on) ∙ few) in
      let alike : length left.ping_times ≡ length left.offsets = by_cond (λ (s : Samples). length s.ping_times ≡ length s.offsets) (moves m.session_id p) no_samples p.samples (λ t. refl) (λ t. same) in
      ap (λ (b : Bool). (cond b (sampled m.ping_host_time (sample_of m now) left) left).ping_times) on
      ∙ take_all 20 (left.ping_times ++ (m.ping_host_time ∷ []))
      (omega (arith, l, alike, length-take 20 (left.offsets ++ (sample_of m now ∷ [])), length-append left.offsets (sample_of m now ∷ []), length-append left.ping_times (m.ping_host_time ∷ [])))

  -- measured still it has a sample that answers the pong's ping
  both_sampled : length p.samples.ping_times ≡ length p.samples.offsets → after_both.measuring ≡ true → sampled_before m.session_id m.ping_host_time after_both ≡ true
  both_sampled same h =
      let ts : List HostTime = left.ping_times ++ (m.ping_host_time ∷ []) in
      let there : found (first (same_time m.ping_host_time) ts) ≡ true = found_mem (same_time m.ping_host_time) m.ping_host_time (mem_right left.ping_times (Memᴰ.head refl)) (eq_z_refl m.ping_host_time.0) in
      ap₂ (λ (a b : Bool). a && not b && found (first (same_time m.ping_host_time) after_both.samples.ping_times)) h both_moved
      ∙ ap (λ (l : List HostTime). found (first (same_time m.ping_host_time) l)) (both_times same h) ∙ there

  -- measured no more, another such pong leaves its samples
  no_more : after_both.measuring ≡ false → (now' : HostTime) → (after_pong m now' after_both).samples ≡ after_both.samples
  unfolding after_pong measured samples_with moved
  no_more off now' = cond-false _ _ off ∙ cond-false _ _ both_moved

-- ---- two calls

module _ (from : SocketAddrPlain) (bytes : List ℕ) (m : PongMsg) (says : parse bytes ≡ pong_said m) where
  heard_pong : (e : Box) (iface : ℕ) (now : HostTime) (p : Peer) → first (owns from) e.peers ≡ Some p
      → (handle_message e (arrived iface from now) bytes (parse bytes)).box.peers ≡ change (owns from) (after_pong m now) e.peers
  unfolding handle_message handle_pong handle_pong_of with_peers
  heard_pong e iface now p f =
      ap (λ (x : Option Message). (handle_message e (arrived iface from now) bytes x).box.peers) says
      ∙ ap (λ (o : Option Peer). (handle_pong_of e (arrived iface from now) m o).box.peers) f

  -- a pong is never our own alive
  hears_pong : (e : Box) → e.enabled ≡ true → hears e (parse bytes) ≡ true
  hears_pong e on = ap₂ (λ (b : Bool) (x : Option Message). b && not (our_own e.node_id x)) on says

  one_taken : (e : Box) (iface : ℕ) (now : HostTime) (buf_size : ℕ) (e' : Box) (os : List Output) → e.enabled ≡ true → step e (packet iface from bytes now buf_size) ≡ done e' os → Taken e iface from bytes now buf_size e'
  one_taken e iface now buf_size e' os on h = go (packet_course e iface from bytes now buf_size e' os h)
    where
      go : ((hears e (parse bytes) ≡ false) × (e' ≡ e)) ⊎ Taken e iface from bytes now buf_size e' → Taken e iface from bytes now buf_size e'
      go (inl i) = clash (sym (hears_pong e on) ∙ i.0)
      go (inr t) = t

  module _ (e : Box) (iface : ℕ) (now : HostTime) (buf_size : ℕ) (e₁ : Box) (p : Peer) (owner : first (owns from) e.peers ≡ Some p) (t : Taken e iface from bytes now buf_size e₁) where
    abbrev after_first : Peer
    after_first = after_both m now p

    peers_once : e₁.peers ≡ upkept now (change (owns from) (after_pong m now) e.peers)
    peers_once = t.peers ∙ ap (upkept now) (heard_pong e iface now p owner)

    -- whoever is held then was seen lately
    recent_all : Each (λ q. recent now q ≡ true) e₁.peers
    recent_all = subst (Each (λ q. recent now q ≡ true)) (sym peers_once) (each_kept (recent now) _ (λ q r. r))

    -- it is the pong's owner still, where it was
    owner_still : recent now after_first ≡ true → first (owns from) e₁.peers ≡ Some after_first
    unfolding after_pong measured moved after_ping
    owner_still seen =
        ap (first (owns from)) peers_once
        ∙ first_keep (owns from) (recent now) after_first _
        (first_map (owns from) (after_ping now) (λ q. refl) (after_pong m now p) _ (first_change (owns from) (after_pong m now) p e.peers owner (first_mem (owns from) p e.peers owner).1))
        seen

    -- those with its id are the owner as it is after the call
    alone_once : Ascending peer_key e.peers → Each (λ q. peer_key q ≡ peer_key p → q ≡ after_first) e₁.peers
    unfolding after_ping
    alone_once asc =
        subst (Each (λ q. peer_key q ≡ peer_key p → q ≡ after_first)) (sym peers_once)
        (each_keep (recent now) (each_map (after_ping now) (λ q f k. ap (after_ping now) (f k)) (changed_alone (owns from) peer_key (after_pong m now) p asc owner)))

    ascends : Ascending peer_key e.peers → Ascending peer_key e₁.peers
    unfolding after_pong measured moved after_ping
    ascends asc =
        subst (Ascending peer_key) (sym peers_once)
        (ascending_keep peer_key (recent now) (ascending_map peer_key (after_ping now) (λ q. refl) (ascending_change peer_key (owns from) (after_pong m now) (λ q u. refl) asc)))

  -- ---- the second of them

  -- refused, where the owner has a sample that answers its ping
  refuses : (e : Box) → e.enabled ≡ true → length bytes ≤ 512 → (p : Peer) → first (owns from) e.peers ≡ Some p → sampled_before m.session_id m.ping_host_time p ≡ true
      → (iface : ℕ) (now : HostTime) (buf_size : ℕ) → timely now ≡ true → 4096 ≤ buf_size → step e (packet iface from bytes now buf_size) ≡ refused 11
  unfolding step admit handle_packet handle_read refusal_by
  refuses e on short p owner before iface now buf_size t long =
      cond-true _ _ t ∙ cond-false _ _ (le-ltb buf_size 4096 long) ∙ cond-false _ _ (le-ltb 512 (length bytes) short) ∙ cond-true _ _ (hears_pong e on)
      ∙ ap (λ (n : ℕ). unless_refused n (take_message e (arrived iface from now) bytes (parse bytes)))
      (ap (read_refusal e from) says ∙ ap (λ (o : Option Peer). cond (holds (sampled_before m.session_id m.ping_host_time) o) 11 0) owner ∙ cond-true _ _ before)

  -- of a box that calls lead to
  module _ (e : Box) (asc : Ascending peer_key e.peers) (alone : e.enabled ≡ false → e.peers ≡ []) (paired : Each (λ q. length q.samples.ping_times ≡ length q.samples.offsets) e.peers)
      (p : Peer) (owner : first (owns from) e.peers ≡ Some p) (iface : ℕ) (now : HostTime) (buf_size : ℕ) (e₁ : Box) (os₁ : List Output) (h₁ : step e (packet iface from bytes now buf_size) ≡ done e₁ os₁) where
    is_on : e.enabled ≡ true
    unfolding first
    is_on = split e.enabled (λ t. t) (λ f. none_some p (ap (first (owns from)) (sym (alone f)) ∙ owner))

    once : Taken e iface from bytes now buf_size e₁
    once = one_taken e iface now buf_size e₁ os₁ is_on h₁

    -- the owner as it is then
    abbrev then_p : Peer
    then_p = after_both m now p

    is_then : (q : Peer) → Memᴰ q e₁.peers → q.id ≡ p.id → q ≡ then_p
    is_then q there k = each_mem (alone_once e iface now buf_size e₁ p owner once asc) there (ap (λ n. n.0) k)

    owner_then : (q : Peer) → Memᴰ q e₁.peers → q.id ≡ p.id → first (owns from) e₁.peers ≡ Some then_p
    owner_then q there k =
        owner_still e iface now buf_size e₁ p owner once
        (subst (λ (x : Peer). recent now x ≡ true) (is_then q there k) (each_mem (recent_all e iface now buf_size e₁ p owner once) there))

    then_refuses : first (owns from) e₁.peers ≡ Some then_p → then_p.measuring ≡ true → (iface' : ℕ) (now' : HostTime) (buf_size' : ℕ) → timely now' ≡ true → 4096 ≤ buf_size'
        → step e₁ (packet iface' from bytes now' buf_size') ≡ refused 11
    then_refuses owner₁ on = refuses e₁ (once.enabled ∙ is_on) once.short then_p owner₁ (both_sampled m now p (each_mem paired (first_mem (owns from) p e.peers owner).0) on)

    pub again_refused : (q : Peer) → held_peer p.id e₁.peers ≡ Some q → q.measuring ≡ true → (iface' : ℕ) (now' : HostTime) (buf_size' : ℕ) → timely now' ≡ true → 4096 ≤ buf_size'
        → step e₁ (packet iface' from bytes now' buf_size') ≡ refused 11
    again_refused q held on =
        let there = first_mem (has_key peer_key p.id.0) q e₁.peers held in
        let k : q.id ≡ p.id = ap (λ (n : ℕ). record { 0 = n }) (eqb-true _ _ there.1) in
        then_refuses (owner_then q there.0 k) (subst (λ (x : Peer). x.measuring ≡ true) (is_then q there.0 k) on)

    module _ (iface' : ℕ) (now' : HostTime) (buf_size' : ℕ) where
      -- taken, it finds the owner measured no more
      taken_again : (e₂ : Box) (os₂ : List Output) → step e₁ (packet iface' from bytes now' buf_size') ≡ done e₂ os₂ → first (owns from) e₁.peers ≡ Some then_p
          → Taken e₁ iface' from bytes now' buf_size' e₂ → (r : Peer) → Memᴰ r e₂.peers → r.id ≡ p.id → r.samples ≡ then_p.samples
      unfolding after_ping after_pong measured moved
      taken_again e₂ os₂ h owner₁ t r there k =
          split then_p.measuring
          (λ on. refused_done 11 e₂ os₂ (sym (then_refuses owner₁ on iface' now' buf_size' (ap₂ ◌&&◌ (le_le_z _ _ t.admitted.from) (le_le_z _ _ t.admitted.upto)) t.admitted.long) ∙ h))
          (λ off. ap (λ (x : Peer). x.samples) (each_mem (alone_once e₁ iface' now' buf_size' e₂ then_p owner₁ t (ascends e iface now buf_size e₁ p owner once asc)) there (ap (λ n. n.0) k)) ∙ no_more m now p off now')

      pub samples_kept : (q r : Peer) → Memᴰ q e₁.peers → Memᴰ r (next e₁ (step e₁ (packet iface' from bytes now' buf_size'))).peers → q.id ≡ p.id → r.id ≡ p.id → r.samples ≡ q.samples
      samples_kept q r held there k l = by_outcome (step e₁ (packet iface' from bytes now' buf_size')) refl there ∙ sym (ap (λ (x : Peer). x.samples) (is_then q held k))
        where
          by_outcome : (o : Outcome) → step e₁ (packet iface' from bytes now' buf_size') ≡ o → Memᴰ r (next e₁ o).peers → r.samples ≡ then_p.samples
          by_outcome (refused n) h there = ap (λ (x : Peer). x.samples) (is_then r there l)
          by_outcome (done e₂ os₂) h there = go (packet_course e₁ iface' from bytes now' buf_size' e₂ os₂ h)
            where
              go : ((hears e₁ (parse bytes) ≡ false) × (e₂ ≡ e₁)) ⊎ Taken e₁ iface' from bytes now' buf_size' e₂ → r.samples ≡ then_p.samples
              go (inl i) = ap (λ (x : Peer). x.samples) (is_then r (subst (λ (b : Box). Memᴰ r b.peers) i.1 there) l)
              go (inr t) = taken_again e₂ os₂ h (owner_then q held k) t r there l
