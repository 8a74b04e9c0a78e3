-- A neighbour stored in its row is read there again, with the samples that the row had.
use Rattle.std.specs.Prelude.{ℕ, ◌*◌, ◌<◌, ◌≤◌, ◌≡◌, refl, Bool, true, false, cond, List, ℤ, pos, length, Option, Some, None}
use Rattle.std.proofs.Common.{mod-eq_of_lt, arith, ap, ◌∙◌}
use Rattle.std.proofs.Math.Path.{ap₂}
use Rattle.std.proofs.Math.ListN.{get_or}
use Rattle.peer_table.specs.Places.{wide, long, word_places, number_places}
use Rattle.peer.specs.declared.peer_state.PeerState.{PeerState}
use Rattle.peer.specs.Held.{peer}
use Rattle.peer_table.specs.Rows.{is_set, word, number, neighbour_in, peer_at}
use Rattle.peer_table.specs.Inner.Changed.{Changed}
use Rattle.peer_table.specs.Inner.Stored.{fill, flag, has_node, node_or_zero, has_line, line_or_zero, has_start, start_or_zero, values_of, flags_of, words_of, numbers_of}
use Rattle.peer_table.specs.Laws.Fill.{filled, not_filled}
use Rattle.peer_table.specs.Laws.Row.{neighbour_alike, samples_alike, same_peer}
use Rattle.timeline.specs.declared.Timeline.{Timeline}
use Rattle.wire.specs.declared.NodeId.{NodeId}
use Rattle.timeline.specs.declared.StartStopState.{StartStopState}

flag_reads : (b : Bool) → is_set (flag b) ≡ b
flag_reads true = refl
flag_reads false = refl

node_reads : (m : Option NodeId) → cond (is_set (flag (has_node m))) (Some (record { 0 = (node_or_zero m).0 })) None ≡ m
node_reads None = refl
node_reads (Some n) = refl

line_reads : (m : Option Timeline) → cond (is_set (flag (has_line m))) (Some (line_or_zero m)) None ≡ m
line_reads None = refl
line_reads (Some t) = refl

start_reads : (m : Option StartStopState) → cond (is_set (flag (has_start m))) (Some (record { is_playing = is_set (flag (start_or_zero m).is_playing); beat = (start_or_zero m).beat; time = (start_or_zero m).time })) None ≡ m
start_reads None = refl
start_reads (Some s) = ap (λ (b : Bool). Some (record { is_playing = b; beat = s.beat; time = s.time })) (flag_reads s.is_playing)

-- the numbers of the source's types
pub record Narrow (p : PeerState) : Type 0 where
  pub ip : p.addr.ip < 4_294_967_296
  pub port : p.addr.port < 65_536
  pub pings : p.ping_timeouts < 4_294_967_296

pub read_back : (p : PeerState) → Narrow p → neighbour_in (λ k. get_or (words_of p) k 0) (λ k. get_or (numbers_of p) k (pos 0)) ≡ p
unfolding neighbour_in values_of flags_of numbers_of
read_back p s =
    rw (node_reads p.session_id, line_reads p.timeline_ghost, start_reads p.start_stop_ghost, flag_reads p.measuring, mod-eq_of_lt s.ip, mod-eq_of_lt s.port, mod-eq_of_lt s.pings)

module _ (w : List ℕ) (l : List ℤ) (i : ℕ) (p : PeerState) (s : Narrow p) (nw : length w ≡ long.words) (nl : length l ≡ long.numbers) where
  abbrev stored_words : List ℕ
  stored_words = fill w (i * wide.words) 0 (words_of p)

  abbrev stored_numbers : List ℤ
  stored_numbers = fill l (i * wide.numbers) 0 (numbers_of p)

  kept_word : (m k : ℕ) → k < wide.words → (m ≡ i → word_places.count ≡ k) → word stored_words m k ≡ word w m k
  unfolding values_of flags_of
  kept_word m k b out = not_filled wide.words i w (words_of p) 0 (omega arith) m k b (λ e. omega (arith, out e))

  kept_number : (m k : ℕ) → k < wide.numbers → (m ≡ i → number_places.samples ≤ k) → number stored_numbers m k ≡ number l m k
  unfolding numbers_of
  kept_number m k b out = not_filled wide.numbers i l (numbers_of p) (pos 0) (omega arith) m k b (λ e. omega (arith, out e))

  stored_here : i < 16 → peer_at stored_words stored_numbers i ≡ peer p (peer_at w l i).samples
  unfolding peer_at peer values_of flags_of numbers_of
  stored_here h =
      let row = word stored_words i in
      let numbers = number stored_numbers i in
      ap₂ peer
      (neighbour_alike (λ k. get_or (words_of p) k 0) row (λ k. get_or (numbers_of p) k (pos 0)) numbers (λ k b. filled wide.words i w (words_of p) 0 (omega arith) h nw k b) (λ k b. filled wide.numbers i l (numbers_of p) (pos 0) (omega arith) h nl k b)
      ∙ read_back p s)
      (samples_alike (word w i) row (number l i) numbers (kept_word i word_places.count (omega arith) (λ _. refl)) (λ k a b. kept_number i k b (λ _. a)))

  pub stored_changes : Changed w stored_words l stored_numbers i (peer p (peer_at w l i).samples)
  stored_changes = record {
    here = stored_here;
    others = λ m ne. same_peer w stored_words l stored_numbers m m (λ k b. kept_word m k b (λ e. absurd (ne e))) (λ k b. kept_number m k b (λ e. absurd (ne e)));
  }
