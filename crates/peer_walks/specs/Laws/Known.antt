-- A walk over the neighbours takes them one by one.
use Rattle.std.specs.Prelude.{◌≡◌, Bool, cond, ℤ, Option}
use Rattle.std.proofs.Math.Path.{refl, ap}
use Rattle.std.proofs.Common.{ap₂, ◌∙◌}
use Rattle.std.proofs.Math.Bool.{true, false}
use mathlib.Core.List.{List, [], ◌∷◌, ◌++◌, flat_map}
use Rattle.lists.specs.Lists.{keep, best}
use Rattle.lists.specs.Laws.Best.{best_append, best_nil}
use Rattle.timeline.specs.declared.Timeline.{Timeline}
use Rattle.timeline.specs.declared.StartStopState.{StartStopState}
use Rattle.wire.specs.declared.NodeId.{NodeId}
use Rattle.wire.specs.Same.{is_node}
use Rattle.model.specs.Peers.{Peer, in_session, timeline_list, start_stop_list, peers_in, timelines_in, start_stops_in, origin_of, moment_of}
use Rattle.peer_walks.specs.Inner.Known.{Known, best_known, if_held, known_with}

abbrev known : Option Timeline → Option StartStopState → Known
known l s = record { line = l; start_stop = s }

-- what is known of a neighbour stands in front, where it is held under the session
module _ {A : Type 0} (told : Peer → List A) (p : Peer) (ps : List Peer) where
  split : (b : Bool) → flat_map told (cond b (p ∷ ps) ps) ≡ if_held b (told p) ++ flat_map told ps
  unfolding flat_map
  split true = refl
  split false = refl

module _ {A : Type 0} (value : A → ℤ) (told : Peer → List A) (s : NodeId) (b : Option A) (p : Peer) (ps : List Peer) where
  one_more : best value b (flat_map told (peers_in s (p ∷ ps))) ≡ best value (best value b (if_held (in_session s p) (told p))) (flat_map told (peers_in s ps))
  unfolding peers_in keep
  one_more = ap (best value b) (split told p (keep (in_session s) ps) (in_session s p)) ∙ best_append value b (if_held (in_session s p) (told p)) (flat_map told (keep (in_session s) ps))

-- one that is not held under the session is passed over
pub passed_over : (s : NodeId) (theirs : Option NodeId) (l : Option Timeline) (ss : Option StartStopState) (k : Known) → is_node s theirs ≡ false → known_with s theirs l ss k ≡ k
unfolding known_with
passed_over s theirs l ss k e = rw e (ap₂ known (best_nil origin_of k.line) (best_nil moment_of k.start_stop))

pub best_known_none : (s : NodeId) (k : Known) → best_known s k [] ≡ k
unfolding best_known timelines_in start_stops_in peers_in keep flat_map
best_known_none s k = ap₂ known (best_nil origin_of k.line) (best_nil moment_of k.start_stop)

pub best_known_cons : (s : NodeId) (k : Known) (p : Peer) (ps : List Peer)
    → best_known s k (p ∷ ps) ≡ best_known s (known_with s p.session_id p.timeline_ghost p.start_stop_ghost k) ps
unfolding best_known known_with timelines_in start_stops_in
best_known_cons s k p ps =
    let l = one_more origin_of (λ q. timeline_list q.timeline_ghost) s k.line p ps in
    let t = one_more moment_of (λ q. start_stop_list q.start_stop_ghost) s k.start_stop p ps in
    rw (l, t)
