-- What the private functions find among the neighbours, as the definition reads it: of what is known the largest numbers alone.
use Rattle.std.specs.Prelude.{Bool, true, false, cond, List, [], ◌∷◌, map, ℤ, Option}
use Rattle.std.specs.Int.Signed.{lt_z}
use Rattle.timeline.specs.declared.Timeline.{Timeline}
use Rattle.timeline.specs.declared.StartStopState.{StartStopState}
use Rattle.timeline.specs.declared.SessionState.{SessionState}
use Rattle.wire.specs.declared.NodeId.{NodeId}
use Rattle.wire.specs.Same.{is_node}
use Rattle.model.specs.Sums.{plus}
use Rattle.model.specs.Peers.{Peer, timeline_list, start_stop_list, timelines_in, start_stops_in, origin_of, moment_of}
use Rattle.commit.specs.declared.known.Largest.{Largest}

-- the larger of two, and the largest of a and of a list
abbrev pub larger : ℤ → ℤ → ℤ
larger a b = cond (lt_z a b) b a

unfoldable pub greatest : ℤ → List ℤ → ℤ
greatest a [] = a
greatest a (b ∷ bs) = greatest (larger a b) bs

-- our own, at the session's offset
unfoldable pub own_largest : SessionState → ℤ → Largest
own_largest state offset = record { beat_origin = state.timeline.beat_origin; time = plus state.start_stop.time offset }

-- the largest of these and of what is known in a list
abbrev pub raised : Largest → List Timeline → List StartStopState → Largest
raised k ls ss = record {
  beat_origin = record { 0 = greatest k.beat_origin.0 (map origin_of ls) };
  time = record { 0 = greatest k.time.0 (map moment_of ss) };
}

-- the largest after a list of neighbours
unfoldable pub largest_known : NodeId → Largest → List Peer → Largest
largest_known s k ps = raised k (timelines_in s ps) (start_stops_in s ps)

abbrev pub if_held : {A : Type 0} → Bool → List A → List A
if_held true l = l
if_held false l = []

-- the largest after one neighbour of this session, this line and this start-stop state
unfoldable pub known_with : NodeId → Option NodeId → Option Timeline → Option StartStopState → Largest → Largest
known_with s theirs l ss k = raised k (if_held (is_node s theirs) (timeline_list l)) (if_held (is_node s theirs) (start_stop_list ss))
