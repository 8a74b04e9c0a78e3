-- A neighbour stored in its rows: what it has not is stored as zeros.
use Rattle.std.specs.Prelude.{ℕ, suc, ◌+◌, Bool, true, false, List, [], ◌∷◌, ◌++◌, ℤ, pos, set, Option, Some, None}
use Rattle.timeline.specs.declared.Timeline.{Timeline}
use Rattle.timeline.specs.declared.StartStopState.{StartStopState}
use Rattle.wire.specs.declared.NodeId.{NodeId}
use Rattle.peer.specs.declared.peer_state.PeerState.{PeerState}

-- vs in the places from `at + k` on
unfoldable pub fill : {A : Type 0} → List A → ℕ → ℕ → List A → List A
fill l at k [] = l
fill l at k (v ∷ vs) = fill (set l (at + k) v) at (suc k) vs

abbrev pub flag : Bool → ℕ
flag true = 1
flag false = 0

abbrev pub has_node : Option NodeId → Bool
has_node None = false
has_node (Some n) = true

abbrev pub node_or_zero : Option NodeId → NodeId
node_or_zero None = record { 0 = 0 }
node_or_zero (Some n) = n

abbrev pub has_line : Option Timeline → Bool
has_line None = false
has_line (Some t) = true

abbrev pub line_or_zero : Option Timeline → Timeline
line_or_zero None = record { tempo = record { 0 = pos 0 }; beat_origin = record { 0 = pos 0 }; time_origin = record { 0 = pos 0 } }
line_or_zero (Some t) = t

abbrev pub has_start : Option StartStopState → Bool
has_start None = false
has_start (Some s) = true

abbrev pub start_or_zero : Option StartStopState → StartStopState
start_or_zero None = record { is_playing = false; beat = record { 0 = pos 0 }; time = record { 0 = pos 0 } }
start_or_zero (Some s) = s

-- the row of words but for how many samples, and the row of numbers but for the samples
unfoldable pub values_of : PeerState → List ℕ
values_of p = p.id.0 ∷ (node_or_zero p.session_id).0 ∷ p.addr.ip ∷ p.addr.port ∷ p.ping_timeouts ∷ []

unfoldable pub flags_of : PeerState → List ℕ
flags_of p =
    flag (has_node p.session_id)
    ∷ flag (has_line p.timeline_ghost)
    ∷ flag (has_start p.start_stop_ghost)
    ∷ flag (start_or_zero p.start_stop_ghost).is_playing
    ∷ flag p.measuring
    ∷ []

abbrev pub words_of : PeerState → List ℕ
words_of p = values_of p ++ flags_of p

unfoldable pub numbers_of : PeerState → List ℤ
numbers_of p =
    p.last_seen.0
    ∷ p.next_ping_time.0
    ∷ (line_or_zero p.timeline_ghost).tempo.0
    ∷ (line_or_zero p.timeline_ghost).beat_origin.0
    ∷ (line_or_zero p.timeline_ghost).time_origin.0
    ∷ (start_or_zero p.start_stop_ghost).beat.0
    ∷ (start_or_zero p.start_stop_ghost).time.0
    ∷ []
