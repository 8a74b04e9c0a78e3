-- The best of a list, and what is known in a session, taken neighbour by neighbour.
use Rattle.std.specs.Prelude.{ℕ, ◌≡◌, ◌≢◌, ◌⊎◌, Bool, true, false, cond, not, ℤ, ◌<ℤ◌, Some}
use Rattle.std.proofs.Math.Path.{refl, ap, subst}
use Rattle.std.proofs.Common.{sym, ◌∙◌, inl, inr, ne_eqb}
use mathlib.Core.List.{List, [], ◌∷◌, ◌++◌, flat_map, Memᴰ}
use Rattle.std.specs.Int.Signed.{le_z, clash_ℤ}
use Rattle.signed.specs.Laws.Signs.{le_z-true, le_z-false}
use Rattle.signed.specs.Laws.Order.{<ℤ-≤ℤ}
use Rattle.wire.specs.declared.NodeId.{NodeId}
use Rattle.lists.specs.Lists.{keep, has_key, without, best_from, best}
use Rattle.model.specs.Peers.{Peer, in_session, peers_in}
use Rattle.lists.specs.Laws.Bools.{split, by_cond, clash, cond-true}
use Rattle.model.specs.Laws.Tools.Parts.{told_in, known_in}
use Rattle.lists.specs.Laws.Each.{Each, nil, ◌▸◌, head, tail, each_append, each_left, each_right, mem_left, mem_right}

-- ---- the best

module _ {A : Type 0} (value : A → ℤ) (L : A) where
  -- x is L, or its value is below L's
  abbrev pub Under : A → Type 0
  Under x = (x ≡ L) ⊎ (value x <ℤ value L)

  -- of b and of one more
  abbrev better : A → A → A
  better b x = cond (le_z (value x) (value b)) b x

  better_under : (b x : A) → Under b → Under x → Under (better b x)
  better_under b x u v = by_cond Under (le_z (value x) (value b)) b x (λ t. u) (λ t. v)

  better_stays : (x : A) → Under x → better L x ≡ L
  better_stays x u = by_cond (λ (r : A). r ≡ L) (le_z (value x) (value L)) L x (λ t. refl) (λ t. go t u)
    where
      go : le_z (value x) (value L) ≡ false → Under x → x ≡ L
      go t (inl e) = e
      go t (inr k) = clash_ℤ (le_z-false t) (<ℤ-≤ℤ _ _ k)

  better_wins : (b : A) → Under b → better b L ≡ L
  better_wins b u = by_cond (λ (r : A). r ≡ L) (le_z (value L) (value b)) b L (λ t. go t u) (λ t. refl)
    where
      go : le_z (value L) (value b) ≡ true → Under b → b ≡ L
      go t (inl e) = e
      go t (inr k) = clash_ℤ k (le_z-true t)

  from_stays : {xs : List A} → Each Under xs → best_from value L xs ≡ L
  unfolding best_from
  from_stays nil = refl
  from_stays (◌▸◌ {x = x} {xs = xs} u h) = ap (λ (y : A). best_from value y xs) (better_stays x u) ∙ from_stays h

  -- L is among them
  from_wins : (b : A) → Under b → {xs : List A} → Each Under xs → Memᴰ L xs → best_from value b xs ≡ L
  unfolding best_from
  from_wins b u nil m = elim m [ ]
  from_wins b u (◌▸◌ {x = x} {xs = xs} v h) (Memᴰ.head e) =
      subst (λ (y : A). best_from value (better b y) xs ≡ L) e (ap (λ (y : A). best_from value y xs) (better_wins b u) ∙ from_stays h)
  from_wins b u (◌▸◌ {x = x} v h) (Memᴰ.tail m) = from_wins (better b x) (better_under b x u v) h m

  pub best_stays : {xs : List A} → Each Under xs → best value (Some L) xs ≡ Some L
  unfolding best
  best_stays h = ap Some (from_stays h)

  pub best_wins : (b : A) → Under b → {xs : List A} → Each Under xs → Memᴰ L xs → best value (Some b) xs ≡ Some L
  unfolding best
  best_wins b u h m = ap Some (from_wins b u h m)

-- ---- all but one key

-- what holds of those that are left holds of each with another key
pub each_without : {A : Type 0} {P : A → Type 0} (key : A → ℕ) (k : ℕ) (xs : List A) → Each P (without key k xs) → Each (λ x. key x ≢ k → P x) xs
unfolding without keep
each_without key k [] h = nil
each_without {A} {P} key k (x ∷ xs) h = split (has_key key k x)
    (λ e. (λ d. clash (sym e ∙ ne_eqb (key x) k d)) ▸ each_without key k xs (subst (Each P) (by e) h))
    (λ e. let h' = subst (Each P) (by e) h in (λ d. head h') ▸ each_without key k xs (tail h'))
  where
    by : {t : Bool} → has_key key k x ≡ t → without key k (x ∷ xs) ≡ cond (not t) (x ∷ without key k xs) (without key k xs)
    by e = ap (λ (t : Bool). cond (not t) (x ∷ without key k xs) (without key k xs)) e

-- ---- what is known in a session, neighbour by neighbour

known_cons : {A : Type 0} (told : Peer → List A) (s : NodeId) (p : Peer) (ps : List Peer) → known_in told s (p ∷ ps) ≡ told_in told s p ++ known_in told s ps
unfolding peers_in keep flat_map
known_cons told s p ps = split (in_session s p) (λ e. rw e) (λ e. rw e)

module _ {A : Type 0} {P : A → Type 0} (told : Peer → List A) (s : NodeId) where
  pub each_told : (ps : List Peer) → Each P (known_in told s ps) → Each (λ p. Each P (told_in told s p)) ps
  each_told [] h = nil
  each_told (p ∷ ps) h = let k = subst (Each P) (known_cons told s p ps) h in each_left (told_in told s p) _ k ▸ each_told ps (each_right (told_in told s p) _ k)

  pub each_known : {ps : List Peer} → Each (λ p. Each P (told_in told s p)) ps → Each P (known_in told s ps)
  unfolding peers_in keep flat_map
  each_known nil = nil
  each_known (◌▸◌ {x = p} {xs = ps} k h) = subst (Each P) (sym (known_cons told s p ps)) (each_append k (each_known h))

  -- of a neighbour that tells just L
  pub each_told_is : (p : Peer) (L : A) → told p ≡ L ∷ [] → P L → Each P (told_in told s p)
  each_told_is p L e h = by_cond (Each P) (in_session s p) (told p) [] (λ t. subst (Each P) (sym e) (h ▸ nil)) (λ t. nil)

pub mem_known : {A : Type 0} (told : Peer → List A) (s : NodeId) (p : Peer) (L : A) → in_session s p ≡ true → told p ≡ L ∷ [] → (ps : List Peer) → Memᴰ p ps → Memᴰ L (known_in told s ps)
mem_known told s p L t e [] m = elim m [ ]
mem_known told s p L t e (q ∷ ps) (Memᴰ.head f) =
    let l : told_in told s q ≡ L ∷ [] = ap (told_in told s) (sym f) ∙ cond-true _ _ t ∙ e in
    subst (Memᴰ L) (sym (known_cons told s q ps)) (mem_left _ (subst (Memᴰ L) (sym l) (Memᴰ.head refl)))
mem_known told s p L t e (q ∷ ps) (Memᴰ.tail m) = subst (Memᴰ L) (sym (known_cons told s q ps)) (mem_right (told_in told s q) (mem_known told s p L t e ps m))
