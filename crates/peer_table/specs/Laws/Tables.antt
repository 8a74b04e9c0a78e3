-- Tables that hold given neighbours. A row holds at most 20 samples, as many ping times, and of an address and of the pings numbers of the source's types;
-- whatever is so can be held.
use Prim.Native.Nat.{ℕ, zero, suc, ◌+◌, ◌*◌, ◌/◌, ◌%◌, ◌<◌, ◌≤◌, min}
use Rattle.std.proofs.Common.{mod-lt, arith, ◌∙◌}
use Rattle.std.proofs.Math.Nat.{mod-eq_of_lt, div-eq_of_lt, mul-add-div_right, mul-add-mod_self_right}
use Rattle.std.specs.Prelude.{◌≡◌, refl, ℤ}
use Rattle.std.proofs.Math.Path.{sym, ap, ap₂}
use mathlib.Core.List.{List, [], ◌∷◌, ◌++◌, map}
use Rattle.std.proofs.Math.IntN.{pos}
use Rattle.std.proofs.Math.ListN.{length, get_or, get_or-append}
use Rattle.std.proofs.Math.Seq.{get_or-append-add}
use Rattle.model.specs.Peers.{Samples, Peer}
use Rattle.model.specs.Laws.Calls.Within.{Sampled}
use Rattle.lists.specs.Laws.Each.{Each, nil, ◌▸◌, head}
use Rattle.lists.specs.Laws.ListLaws.{each_get_d}
use Rattle.peer.specs.declared.peer_state.PeerState.{PeerState}
use Rattle.peer.specs.Held.{peer}
use Rattle.peer_table.specs.Places.{wide, long, word_places, number_places}
use Rattle.peer_table.specs.Rows.{upto, word, number, neighbour_in, samples_in, peer_at, peers_of}
use Rattle.peer_table.specs.Inner.Stored.{values_of, flags_of, words_of, numbers_of}
use Rattle.peer_table.specs.Laws.Row.{next_row, samples_of, neighbour_alike}
use Rattle.peer_table.specs.Laws.Samples.{sample_count, ping_time_count}
use Rattle.peer_table.specs.Laws.Stored.{Narrow, read_back}
use Rattle.peer_table.specs.Laws.Upto.{length-upto, get_upto, upto_list}

-- without its samples
abbrev pub state_of : Peer → PeerState
state_of p = record {
  id = p.id;
  session_id = p.session_id;
  timeline_ghost = p.timeline_ghost;
  start_stop_ghost = p.start_stop_ghost;
  last_seen = p.last_seen;
  addr = p.addr;
  next_ping_time = p.next_ping_time;
  ping_timeouts = p.ping_timeouts;
  measuring = p.measuring;
}

pub record Holdable (p : Peer) : Type 0 where
  pub few : Sampled p
  pub narrow : Narrow (state_of p)

-- ---- what is held is so

row_holds : (w : List ℕ) (l : List ℤ) (i : ℕ) → Holdable (peer_at w l i)
unfolding peer_at peer neighbour_in
row_holds w l i = record { few = (omega (arith, sample_count w l i), ping_time_count w l i); narrow = record { ip = mod-lt _ (omega arith); port = mod-lt _ (omega arith); pings = mod-lt _ (omega arith) } }

each_upto : {A : Type 0} {P : A → Type 0} (f : ℕ → A) → ((i : ℕ) → P (f i)) → (i k : ℕ) → Each P (upto f i k)
unfolding upto
each_upto f h i zero = nil
each_upto f h i (suc k) = h i ▸ each_upto f h (suc i) k

pub all_holdable : (n : ℕ) (w : List ℕ) (l : List ℤ) → Each Holdable (peers_of n w l)
unfolding peers_of
all_holdable n w l = each_upto (peer_at w l) (row_holds w l) 0 (min n 16)

-- ---- tables of rows

-- 16 rows of a width, d where nothing is given
module _ {A : Type 0} (d : A) (w : ℕ) (rows : List (List A)) where
  table : List A
  table = upto (λ x. get_or (get_or rows (x / w) []) (x % w) d) 0 (16 * w)

  table_long : length table ≡ 16 * w
  unfolding table
  table_long = length-upto (λ x. get_or (get_or rows (x / w) []) (x % w) d) 0 (16 * w)

  table_at : (i k : ℕ) → i < 16 → k < w → get_or table (i * w + k) d ≡ get_or (get_or rows i []) k d
  unfolding table
  table_at i k h b =
      let wide : 0 < w = omega (arith, b) in
      let row : (i * w + k) / w ≡ i = omega (arith, mul-add-div_right wide i k, div-eq_of_lt b) in
      let place : (i * w + k) % w ≡ k = mul-add-mod_self_right i w k ∙ mod-eq_of_lt b in
      get_upto (λ x. get_or (get_or rows (x / w) []) (x % w) d) (16 * w) (i * w + k) d (omega (arith, next_row w i 16 h, b))
      ∙ ap₂ (λ (m j : ℕ). get_or (get_or rows m []) j d) row place

mapped : {A B : Type 0} (f : A → B) (xs : List A) (a : A) (b : B) (i : ℕ) → i < length xs → get_or (map f xs) i b ≡ f (get_or xs i a)
mapped f [] a b i h = absurd (omega arith)
mapped f (x ∷ xs) a b zero h = refl
mapped f (x ∷ xs) a b (suc i) h = mapped f xs a b i (omega (arith, h))

-- ---- a neighbour's row of each

abbrev word_row : Peer → List ℕ
word_row p = words_of (state_of p) ++ (length p.samples.offsets ∷ [])

-- 20 places, 0 past the end of a list
abbrev sample_places : Samples → List ℤ
sample_places s = upto (λ k. get_or s.offsets k (pos 0)) 0 20

abbrev time_places : Samples → List ℤ
time_places s = upto (λ k. (get_or s.ping_times k (record { 0 = pos 0 })).0) 0 20

abbrev number_row : Peer → List ℤ
number_row p = numbers_of (state_of p) ++ (sample_places p.samples ++ time_places p.samples)

pub words_table : List Peer → List ℕ
words_table ps = table 0 wide.words (map word_row ps)

pub numbers_table : List Peer → List ℤ
numbers_table ps = table (pos 0) wide.numbers (map number_row ps)

pub words_table_long : (ps : List Peer) → length (words_table ps) ≡ long.words
unfolding words_table
words_table_long ps = table_long 0 wide.words (map word_row ps)

pub numbers_table_long : (ps : List Peer) → length (numbers_table ps) ≡ long.numbers
unfolding numbers_table
numbers_table_long ps = table_long (pos 0) wide.numbers (map number_row ps)

-- what stands in the rows; d is a neighbour past the end
module _ (ps : List Peer) (d : Peer) (i k : ℕ) (h : i < length ps) (few : length ps ≤ 16) where
  word_there : k < wide.words → word (words_table ps) i k ≡ get_or (word_row (get_or ps i d)) k 0
  unfolding words_table
  word_there b = table_at 0 wide.words (map word_row ps) i k (omega (arith, h, few)) b ∙ ap (λ (r : List ℕ). get_or r k 0) (mapped word_row ps d [] i h)

  number_there : k < wide.numbers → number (numbers_table ps) i k ≡ get_or (number_row (get_or ps i d)) k (pos 0)
  unfolding numbers_table
  number_there b = table_at (pos 0) wide.numbers (map number_row ps) i k (omega (arith, h, few)) b ∙ ap (λ (r : List ℤ). get_or r k (pos 0)) (mapped number_row ps d [] i h)

-- a row that says what p's rows say is p's
module _ (p : Peer) (h : Holdable p) (w : List ℕ) (l : List ℤ) (i : ℕ) (e : (k : ℕ) → k < wide.words → word w i k ≡ get_or (word_row p) k 0) (f : (k : ℕ) → k < wide.numbers → number l i k ≡ get_or (number_row p) k (pos 0)) where
  sample_back : (j : ℕ) → j < 20 → number l i (number_places.samples + j) ≡ get_or p.samples.offsets j (pos 0)
  unfolding numbers_of
  sample_back j b =
      let s = p.samples in
      f (number_places.samples + j) (omega (arith, b))
      ∙ get_or-append-add (numbers_of (state_of p)) (sample_places s ++ time_places s) j (pos 0)
      ∙ get_or-append (sample_places s) (time_places s) (pos 0) j (omega (arith, b, length-upto (λ k. get_or s.offsets k (pos 0)) 0 20))
      ∙ get_upto (λ k. get_or s.offsets k (pos 0)) 20 j (pos 0) b

  time_back : (j : ℕ) → j < 20 → number l i (number_places.ping_times + j) ≡ (get_or p.samples.ping_times j (record { 0 = pos 0 })).0
  unfolding numbers_of upto
  time_back j b =
      let s = p.samples in
      f (number_places.ping_times + j) (omega (arith, b))
      ∙ get_or-append-add (numbers_of (state_of p) ++ sample_places s) (time_places s) j (pos 0)
      ∙ get_upto (λ k. (get_or s.ping_times k (record { 0 = pos 0 })).0) 20 j (pos 0) b

  samples_back : samples_in (word w i) (number l i) ≡ p.samples
  unfolding samples_in values_of flags_of
  samples_back =
      let os = p.samples.offsets in
      let ts = p.samples.ping_times in
      let c : word w i word_places.count ≡ length os = e word_places.count (omega arith) in
      let n : min (word w i word_places.count) 20 ≡ length os = omega (arith, c, h.few.0) in
      ap₂ samples_of
      (ap (upto (number l i) number_places.samples) n ∙ upto_list (number l i) number_places.samples (pos 0) os (λ j b. sample_back j (omega (arith, b, h.few.0))))
      (ap (upto (λ k. record { 0 = number l i k }) number_places.ping_times) (n ∙ sym h.few.1)
      ∙ upto_list (λ k. record { 0 = number l i k }) number_places.ping_times (record { 0 = pos 0 }) ts (λ j b. ap (λ (x : ℤ). record { 0 = x }) (time_back j (omega (arith, b, h.few.0, h.few.1)))))

  row_back : peer_at w l i ≡ p
  unfolding peer_at peer values_of flags_of numbers_of
  row_back =
      let row = state_of p in
      ap₂ peer
      (neighbour_alike (λ k. get_or (words_of row) k 0) (word w i) (λ k. get_or (numbers_of row) k (pos 0)) (number l i)
      (λ k b. e k (omega (arith, b)) ∙ get_or-append (words_of row) (length p.samples.offsets ∷ []) 0 k b)
      (λ k b. f k (omega (arith, b)) ∙ get_or-append (numbers_of row) (sample_places p.samples ++ time_places p.samples) (pos 0) k b)
      ∙ read_back row h.narrow)
      samples_back

-- 16 of them at most
pub tables_hold : (ps : List Peer) → length ps ≤ 16 → Each Holdable ps → peers_of (length ps) (words_table ps) (numbers_table ps) ≡ ps
unfolding peers_of upto
tables_hold [] few h = refl
tables_hold (p ∷ rest) few h =
    let ps = p ∷ rest in
    let all : min (length ps) 16 ≡ length ps = omega (arith, few) in
    ap (upto (peer_at (words_table ps) (numbers_table ps)) 0) all
    ∙ upto_list (peer_at (words_table ps) (numbers_table ps)) 0 p ps
    (λ i b.
    let z : 0 + i ≡ i = omega arith in
    ap (peer_at (words_table ps) (numbers_table ps)) z
    ∙ row_back (get_or ps i p) (each_get_d i p (head h) h) (words_table ps) (numbers_table ps) i (λ k c. word_there ps p i k b few c) (λ k c. number_there ps p i k b few c))
