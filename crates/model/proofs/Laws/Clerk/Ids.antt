-- The ids of the neighbours that a box holds: what adds none, and an alive that is taken twice.
use Rattle.std.specs.Prelude.{ℕ, ◌≡◌, Bool, true, cond, Option, Some, None, unwrap_or}
use Rattle.std.proofs.Math.Path.{refl, sym, ap, subst}
use Rattle.std.proofs.Common.{◌∙◌}
use mathlib.Core.List.{List, [], ◌∷◌, map, Memᴰ}
use borrow.Author.Tests.{eqb-true, eq-eqb}
use Rattle.time.specs.declared.HostTime.{HostTime}
use Rattle.wire.specs.Parse.{parse}
use Rattle.lists.specs.Lists.{found, first, keep, change, has_key, upsert}
use Rattle.model.specs.Peers.{Peer, peer_key, new_peer}
use Rattle.model.specs.Engine.{Box, with_peers}
use Rattle.model.specs.Produce.{after_ping, recent}
use Rattle.model.specs.Packet.{Arrival, AliveMsg, after_alive, handle_alive_of, handle_alive, handle_message, held_peer}
use Rattle.model.specs.Laws.Calls.Messages.{alive_said}
use Rattle.lists.specs.Laws.Bools.{by_cond, cond-true}
use Rattle.lists.specs.Laws.Each.{Each, nil, each_map, first_mem, mem_upsert, ◌▸◌}
use Rattle.model.specs.Laws.Clerk.Neighbours.{upkept}
use Rattle.model.specs.Laws.Clerk.Ids.{ids}
use Rattle.wire.specs.declared.Message.{Message}

-- ---- lists

mem_under : {k : ℕ} (x : ℕ) {ks ls : List ℕ} → (Memᴰ k ks → Memᴰ k ls) → Memᴰ k (x ∷ ks) → Memᴰ k (x ∷ ls)
mem_under x f (Memᴰ.head e) = Memᴰ.head e
mem_under x f (Memᴰ.tail m) = Memᴰ.tail (f m)

module _ {A : Type 0} (key : A → ℕ) where
  keys_change : (t : A → Bool) (f : A → A) → ((x : A) → t x ≡ true → key (f x) ≡ key x) → (xs : List A) → map key (change t f xs) ≡ map key xs
  unfolding change
  keys_change t f h [] = refl
  keys_change t f h (x ∷ xs) =
      by_cond (λ (l : List A). map key l ≡ key x ∷ map key xs) (t x) (f x ∷ xs) (x ∷ change t f xs)
      (λ e. ap (λ (k : ℕ). k ∷ map key xs) (h x e)) (λ e. ap (λ (ks : List ℕ). key x ∷ ks) (keys_change t f h xs))

  pub keys_upsert_held : (x : A) (ys : List A) → found (first (has_key key (key x)) ys) ≡ true → map key (upsert key x ys) ≡ map key ys
  unfolding upsert
  keys_upsert_held x ys e = ap (map key) (cond-true _ _ e) ∙ keys_change (has_key key (key x)) (λ y. x) (λ y t. sym (eqb-true _ _ t)) ys

  pub keys_keep : (t : A → Bool) (xs : List A) (k : ℕ) → Memᴰ k (map key (keep t xs)) → Memᴰ k (map key xs)
  unfolding keep
  keys_keep t [] k m = m
  keys_keep t (x ∷ xs) k m =
      (by_cond (λ (l : List A). Memᴰ k (map key l) → Memᴰ k (key x ∷ map key xs)) (t x) (x ∷ keep t xs) (keep t xs)
      (λ e m. mem_under (key x) (keys_keep t xs k) m)
      (λ e m. Memᴰ.tail (keys_keep t xs k m))) m

module _ {A : Type 0} where
  -- one that passes the test is found, itself or one before it
  pub found_mem : (t : A → Bool) (x : A) {xs : List A} → Memᴰ x xs → t x ≡ true → found (first t xs) ≡ true
  unfolding first
  found_mem t x (Memᴰ.head {x = y} {xs = ys} f) e = ap (λ (b : Bool). found (cond b (Some y) (first t ys))) (ap t (sym f) ∙ e)
  found_mem t x (Memᴰ.tail {x = y} {xs = ys} m) e =
      by_cond (λ (o : Option A). found o ≡ true) (t y) (Some y) (first t ys) (λ u. refl) (λ u. found_mem t x m e)

  pub mem_keep : (t : A → Bool) (x : A) {xs : List A} → Memᴰ x xs → t x ≡ true → Memᴰ x (keep t xs)
  unfolding keep
  mem_keep t x (Memᴰ.head {x = y} {xs = ys} f) e = subst (Memᴰ x) (sym (cond-true (y ∷ keep t ys) (keep t ys) (ap t (sym f) ∙ e))) (Memᴰ.head f)
  mem_keep t x (Memᴰ.tail {x = y} {xs = ys} m) e =
      by_cond (Memᴰ x) (t y) (y ∷ keep t ys) (keep t ys) (λ u. Memᴰ.tail (mem_keep t x m e)) (λ u. mem_keep t x m e)

  pub mem_map : {B : Type 0} (f : A → B) (x : A) {xs : List A} → Memᴰ x xs → Memᴰ (f x) (map f xs)
  mem_map f x (Memᴰ.head e) = Memᴰ.head (ap f e)
  mem_map f x (Memᴰ.tail m) = Memᴰ.tail (mem_map f x m)

  pub keep_all : (t : A → Bool) {xs : List A} → Each (λ x. t x ≡ true) xs → keep t xs ≡ xs
  unfolding keep
  keep_all t nil = refl
  keep_all t (◌▸◌ {x = x} {xs = xs} e h) = cond-true (x ∷ keep t xs) (keep t xs) e ∙ ap (λ (l : List A). x ∷ l) (keep_all t h)

-- one whose id is held is found
pub found_id : (k : ℕ) (ps : List Peer) → Memᴰ k (ids ps) → found (first (has_key peer_key k) ps) ≡ true
unfolding first
found_id k [] m = elim m [ ]
found_id k (q ∷ qs) (Memᴰ.head f) = ap (λ (b : Bool). found (cond b (Some q) (first (has_key peer_key k) qs))) (eq-eqb _ _ (sym f))
found_id k (q ∷ qs) (Memᴰ.tail m) = by_cond (λ (o : Option Peer). found o ≡ true) (has_key peer_key k q) (Some q) (first (has_key peer_key k) qs) (λ t. refl) (λ t. found_id k qs m)

-- ---- upkeep adds none

ids_pinged : (now : HostTime) (ps : List Peer) → ids (map (after_ping now) ps) ≡ ids ps
unfolding after_ping
ids_pinged now [] = refl
ids_pinged now (p ∷ ps) = ap (λ (ks : List ℕ). peer_key p ∷ ks) (ids_pinged now ps)

pub upkept_adds_none : (now : HostTime) (ps : List Peer) (k : ℕ) → Memᴰ k (ids (upkept now ps)) → Memᴰ k (ids ps)
upkept_adds_none now ps k m = subst (Memᴰ k) (ids_pinged now ps) (keys_keep peer_key (recent now) (map (after_ping now) ps) k m)

-- where all were seen of late it drops none
pub upkept_all : (now : HostTime) (ps : List Peer) → Each (λ p. recent now p ≡ true) ps → ids (upkept now ps) ≡ ids ps
unfolding after_ping
upkept_all now ps h = ap ids (keep_all (recent now) (each_map (after_ping now) (λ p e. e) h)) ∙ ids_pinged now ps

-- ---- an alive

module _ (e : Box) (a : Arrival) (bytes : List ℕ) (m : AliveMsg) (says : parse bytes ≡ alive_said m) where
  -- the one that it is taken for: held, or new
  abbrev pub announced : Peer
  announced = after_alive a.from m a.now (unwrap_or (held_peer m.node_id e.peers) (new_peer m.node_id a.from a.now))

  pub heard_alive : (handle_message e a bytes (parse bytes)).box.peers ≡ upsert peer_key announced e.peers
  unfolding handle_message handle_alive handle_alive_of with_peers
  heard_alive = ap (λ (x : Option Message). (handle_message e a bytes x).box.peers) says

  pub announced_key : peer_key announced ≡ m.node_id.0
  unfolding after_alive new_peer
  announced_key = go (held_peer m.node_id e.peers) refl
    where
      go : (o : Option Peer) → held_peer m.node_id e.peers ≡ o → (unwrap_or o (new_peer m.node_id a.from a.now)).id.0 ≡ m.node_id.0
      go None f = refl
      go (Some p) f = eqb-true _ _ (first_mem (has_key peer_key m.node_id.0) p e.peers f).1

  -- one that is held adds no id
  pub heard_held : found (held_peer m.node_id e.peers) ≡ true → ids (handle_message e a bytes (parse bytes)).box.peers ≡ ids e.peers
  heard_held h =
      ap ids heard_alive
      ∙ keys_upsert_held peer_key announced e.peers (ap (λ (k : ℕ). found (first (has_key peer_key k) e.peers)) announced_key ∙ h)

  -- it is there then
  pub heard_there : Memᴰ announced (handle_message e a bytes (parse bytes)).box.peers
  heard_there = subst (Memᴰ announced) (sym heard_alive) (mem_upsert peer_key announced e.peers)
