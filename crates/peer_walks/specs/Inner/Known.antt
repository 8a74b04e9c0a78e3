-- What is known of a session's state, in shared time.
use Rattle.std.specs.Prelude.{◌≡◌, ℤ, Bool, true, false, List, [], ◌∷◌, Option, Some, None}
use Rattle.lists.specs.Lists.{best}
use Rattle.timeline.specs.declared.Timeline.{Timeline}
use Rattle.timeline.specs.declared.StartStopState.{StartStopState}
use Rattle.wire.specs.declared.NodeId.{NodeId}
use Rattle.wire.specs.Same.{is_node}
use Rattle.model.specs.Peers.{Peer, timeline_list, start_stop_list, timelines_in, start_stops_in, origin_of, moment_of}
use Rattle.peer_walks.specs.declared.known.SharedState.{SharedState}

pub record Known : Type 0 where
  pub line : Option Timeline
  pub start_stop : Option StartStopState

abbrev pub line_option : Option Timeline → Option Timeline
line_option l = l

abbrev pub start_stop_option : Option StartStopState → Option StartStopState
start_stop_option s = s

unfoldable pub shared : SharedState → Known
shared k = record { line = line_option k.timeline; start_stop = start_stop_option k.start_stop }

-- the best after a list of neighbours, of which only those held under the session count
unfoldable pub best_known : NodeId → Known → List Peer → Known
best_known s k ps = record {
  line = best origin_of k.line (timelines_in s ps);
  start_stop = best moment_of k.start_stop (start_stops_in s ps);
}

-- ---- for the private functions

-- each call of a closure gives the value
abbrev pub KeyIs : {A : Type 0} → (A → ℤ → Type 0) → (A → ℤ) → Type 0
KeyIs {A} post value = (x : A) (r : ℤ) → post x r → r ≡ value x

abbrev pub option_list : {A : Type 0} → Option A → List A
option_list None = []
option_list (Some x) = x ∷ []

abbrev pub if_held : {A : Type 0} → Bool → List A → List A
if_held true l = l
if_held false l = []

-- the best after one neighbour of this session, this line and this start-stop state
unfoldable pub known_with : NodeId → Option NodeId → Option Timeline → Option StartStopState → Known → Known
known_with s theirs l ss k = record {
  line = best origin_of k.line (if_held (is_node s theirs) (timeline_list l));
  start_stop = best moment_of k.start_stop (if_held (is_node s theirs) (start_stop_list ss));
}
