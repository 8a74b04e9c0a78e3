-- The neighbours that the rows of two tables stand for. Every number has a meaning: a flag is set where it is not 0, a row has at most 20 samples, and of
-- an address, a port and a count of pings the remainder counts.
use Rattle.std.specs.Prelude.{ℕ, zero, suc, ◌*◌, ◌+◌, ◌%◌, min, Bool, not, cond, List, [], ◌∷◌, eqb, ℤ, pos, get_or, Option, Some, None}
use Rattle.wire.specs.declared.SocketAddrPlain.{SocketAddrPlain}
use Rattle.model.specs.Peers.{Samples, Peer}
use Rattle.peer.specs.declared.peer_state.PeerState.{PeerState}
use Rattle.peer.specs.Held.{peer}
use Rattle.peer_table.specs.Places.{wide, word_places, number_places}
use Rattle.timeline.specs.declared.Timeline.{Timeline}
use Rattle.wire.specs.declared.NodeId.{NodeId}
use Rattle.timeline.specs.declared.StartStopState.{StartStopState}

-- f i, f (i + 1), .., k of them
unfoldable pub upto : {A : Type 0} → (ℕ → A) → ℕ → ℕ → List A
upto f i zero = []
upto f i (suc k) = f i ∷ upto f (suc i) k

-- ---- a row: w has the word and n the number of each of its places

abbrev pub is_set : ℕ → Bool
is_set x = not (eqb x 0)

module _ (w : ℕ → ℕ) where
  abbrev session_in : Option NodeId
  session_in = cond (is_set (w word_places.has_session)) (Some (record { 0 = w word_places.session })) None

  abbrev addr_in : SocketAddrPlain
  addr_in = record { ip = w word_places.ip % 4_294_967_296; port = w word_places.port % 65_536 }

module _ (w : ℕ → ℕ) (n : ℕ → ℤ) where
  abbrev line_in : Option Timeline
  line_in =
      cond (is_set (w word_places.has_line))
      (Some (record { tempo = record { 0 = n number_places.tempo }; beat_origin = record { 0 = n number_places.beat }; time_origin = record { 0 = n number_places.origin } }))
      None

  abbrev start_stop_in : Option StartStopState
  start_stop_in =
      cond (is_set (w word_places.has_start))
      (Some (record { is_playing = is_set (w word_places.playing); beat = record { 0 = n number_places.start_beat }; time = record { 0 = n number_places.start_time } }))
      None

  -- without its samples
  unfoldable pub neighbour_in : PeerState
  neighbour_in = record {
    id = record { 0 = w word_places.id };
    session_id = session_in w;
    timeline_ghost = line_in;
    start_stop_ghost = start_stop_in;
    last_seen = record { 0 = n number_places.seen };
    addr = addr_in w;
    next_ping_time = record { 0 = n number_places.ping };
    ping_timeouts = w word_places.timeouts % 4_294_967_296;
    measuring = is_set (w word_places.measuring);
  }

  unfoldable pub samples_in : Samples
  samples_in =
      let kept = min (w word_places.count) 20 in
      record { offsets = upto n number_places.samples kept; ping_times = upto (λ k. record { 0 = n k }) number_places.ping_times kept }

-- ---- the tables

-- place k of row i, 0 past the end
abbrev pub word : List ℕ → ℕ → ℕ → ℕ
word w i k = get_or w (i * wide.words + k) 0

abbrev pub number : List ℤ → ℕ → ℕ → ℤ
number l i k = get_or l (i * wide.numbers + k) (pos 0)

-- row i
unfoldable pub peer_at : List ℕ → List ℤ → ℕ → Peer
peer_at w l i = peer (neighbour_in (word w i) (number l i)) (samples_in (word w i) (number l i))

-- the neighbours that are held: the first n rows, and all 16 where n is over 16
unfoldable pub peers_of : ℕ → List ℕ → List ℤ → List Peer
peers_of n w l = upto (peer_at w l) 0 (min n 16)
