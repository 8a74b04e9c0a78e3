-- A walk over the neighbours takes them one by one.
use Rattle.std.specs.Prelude.{ℕ, ◌≡◌, Bool, not, cond, leb, ltb, ℤ, pos, negsuc}
use Rattle.std.proofs.Common.{arith, ◌∙◌, leb-true, leb-false, ltb-true, ltb-false}
use Rattle.std.proofs.Math.Path.{refl, ap}
use Rattle.std.proofs.Math.Bool.{true, false}
use mathlib.Core.List.{List, [], ◌∷◌, ◌++◌, map, flat_map}
use Rattle.std.specs.Int.Signed.{lt_z, le_z}
use Rattle.wire.specs.declared.NodeId.{NodeId}
use Rattle.lists.specs.Lists.{keep, best_from}
use Rattle.model.specs.Peers.{Peer, in_session, timeline_list, start_stop_list, peers_in, timelines_in, start_stops_in, origin_of, moment_of}
use Rattle.commit.specs.declared.known.Largest.{Largest}
use Rattle.commit.specs.Inner.Known.{larger, greatest, largest_known, if_held, known_with}

-- ---- one number is at most another where that is not below it

not_below : (a b : ℕ) (t u : Bool) → leb a b ≡ t → ltb b a ≡ u → t ≡ not u
not_below a b true false e f = refl
not_below a b false true e f = refl
not_below a b true true e f = let h = leb-true a b e in let k = ltb-true b a f in absurd (omega arith)
not_below a b false false e f = let h = leb-false a b e in let k = ltb-false b a f in absurd (omega arith)

at_most : (a b : ℤ) → le_z a b ≡ not (lt_z b a)
at_most (pos a) (pos b) = not_below a b (leb a b) (ltb b a) refl refl
at_most (pos a) (negsuc b) = refl
at_most (negsuc a) (pos b) = refl
at_most (negsuc a) (negsuc b) = not_below b a (leb b a) (ltb a b) refl refl

-- ---- the largest of lists

module _ {A : Type 0} (value : A → ℤ) where
  greatest_append : (a : ℤ) (xs ys : List A) → greatest a (map value (xs ++ ys)) ≡ greatest (greatest a (map value xs)) (map value ys)
  unfolding greatest
  greatest_append a [] ys = refl
  greatest_append a (x ∷ xs) ys = greatest_append (larger a (value x)) xs ys

  -- the value of the best is the largest
  chosen : (t : Bool) (b x : A) → value (cond (not t) b x) ≡ cond t (value x) (value b)
  chosen true b x = refl
  chosen false b x = refl

  pub best_is_greatest : (b : A) (xs : List A) → value (best_from value b xs) ≡ greatest (value b) (map value xs)
  unfolding best_from greatest
  best_is_greatest b [] = refl
  best_is_greatest b (x ∷ xs) =
      let larger_is = ap (λ (t : Bool). value (cond t b x)) (at_most (value x) (value b)) ∙ chosen (lt_z (value b) (value x)) b x in
      best_is_greatest (cond (le_z (value x) (value b)) b x) xs ∙ ap (λ (n : ℤ). greatest n (map value xs)) larger_is

-- what is known of a neighbour stands in front, where it is held under the session
module _ {A : Type 0} (known : Peer → List A) (p : Peer) (ps : List Peer) where
  split : (b : Bool) → flat_map known (cond b (p ∷ ps) ps) ≡ if_held b (known p) ++ flat_map known ps
  unfolding flat_map
  split true = refl
  split false = refl

module _ {A : Type 0} (value : A → ℤ) (known : Peer → List A) (s : NodeId) (a : ℤ) (p : Peer) (ps : List Peer) where
  one_more : greatest a (map value (flat_map known (peers_in s (p ∷ ps)))) ≡ greatest (greatest a (map value (if_held (in_session s p) (known p)))) (map value (flat_map known (peers_in s ps)))
  unfolding peers_in keep
  one_more =
      ap (λ (l : List A). greatest a (map value l)) (split known p (keep (in_session s) ps) (in_session s p))
      ∙ greatest_append value a (if_held (in_session s p) (known p)) (flat_map known (keep (in_session s) ps))

pub largest_known_none : (s : NodeId) (k : Largest) → largest_known s k [] ≡ k
unfolding largest_known timelines_in start_stops_in peers_in keep flat_map greatest
largest_known_none s k = refl

pub largest_known_cons : (s : NodeId) (k : Largest) (p : Peer) (ps : List Peer)
    → largest_known s k (p ∷ ps) ≡ largest_known s (known_with s p.session_id p.timeline_ghost p.start_stop_ghost k) ps
unfolding largest_known known_with timelines_in start_stops_in
largest_known_cons s k p ps =
    let l = one_more origin_of (λ q. timeline_list q.timeline_ghost) s k.beat_origin.0 p ps in
    let t = one_more moment_of (λ q. start_stop_list q.start_stop_ghost) s k.time.0 p ps in
    rw (l, t)
