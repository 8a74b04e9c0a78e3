-- Places of rows: no two are the same, so that a store changes one; and a neighbour is what the places of its row say.
use Rattle.std.specs.Prelude.{ℕ, ◌+◌, ◌*◌, ◌<◌, ◌≤◌, min, ◌≡◌, refl, Bool, true, false, List, ltb, ℤ, pos, length, get_or, set}
use Rattle.std.proofs.Common.{mul-le-mul_left, mul_comm, arith, ap, ◌∙◌, ltb-true, ltb-false, get_or-set_same, get_or-set_other}
use Rattle.std.proofs.Math.Path.{ap₂}
use Rattle.std.proofs.Math.ListN.{get_or-eq_default}
use Rattle.time.specs.declared.HostTime.{HostTime}
use Rattle.model.specs.Peers.{Samples}
use Rattle.peer_table.specs.Places.{wide, word_places, number_places}
use Rattle.peer.specs.Held.{peer}
use Rattle.peer_table.specs.Rows.{upto, word, number, neighbour_in, samples_in, peer_at}
use Rattle.peer_table.specs.Laws.Upto.{upto_same}

-- a row ends before a later one begins
pub next_row : (w i j : ℕ) → i < j → i * w + w ≤ j * w
next_row w i j h = let b : w * (i + 1) ≤ w * j = mul-le-mul_left w (omega arith) in omega (arith, b, mul_comm w (i + 1), mul_comm w j)

row_by : (below above : Bool) (w m i j k : ℕ) → ltb m i ≡ below → ltb i m ≡ above → j < w → k < w → m * w + j ≡ i * w + k → m ≡ i
row_by true above w m i j k b a h g e = absurd (omega (arith, h, g, e, next_row w m i (ltb-true m i b)))
row_by false true w m i j k b a h g e = absurd (omega (arith, h, g, e, next_row w i m (ltb-true i m a)))
row_by false false w m i j k b a h g e = omega (arith, ltb-false m i b, ltb-false i m a)

pub same_row : (w m i j k : ℕ) → j < w → k < w → m * w + j ≡ i * w + k → m ≡ i
same_row w m i j k = row_by (ltb m i) (ltb i m) w m i j k refl refl

pub same_place : (w m i j k : ℕ) → j < w → k < w → m * w + j ≡ i * w + k → j ≡ k
same_place w m i j k h g e = let q : m * w ≡ i * w = ap (λ (x : ℕ). x * w) (same_row w m i j k h g e) in omega (arith, e, q)

module _ {A : Type 0} (w : ℕ) (l : List A) (i k : ℕ) (v d : A) (h : k < w) where
  pub set_there : i < 16 → length l ≡ 16 * w → get_or (set l (i * w + k) v) (i * w + k) d ≡ v
  set_there b n = get_or-set_same l (i * w + k) v d (omega (arith, n, h, next_row w i 16 b))

  pub set_else : (m j : ℕ) → j < w → (m ≡ i → j ≡ k → ⊥) → get_or (set l (i * w + k) v) (m * w + j) d ≡ get_or l (m * w + j) d
  set_else m j b ne = get_or-set_other l (i * w + k) (m * w + j) v d (λ e. ne (same_row w m i j k b h e) (same_place w m i j k b h e))

-- ---- a neighbour is what the places of its row say

abbrev pub samples_of : List ℤ → List HostTime → Samples
samples_of os ts = record { offsets = os; ping_times = ts }

module _ (w w' : ℕ → ℕ) (n n' : ℕ → ℤ) where
  -- all but the samples stands in the places before them
  pub neighbour_alike : ((k : ℕ) → k < word_places.count → w' k ≡ w k) → ((k : ℕ) → k < number_places.samples → n' k ≡ n k) → neighbour_in w' n' ≡ neighbour_in w n
  unfolding neighbour_in
  neighbour_alike e f = rw (
    e 0 (omega arith),
    e 1 (omega arith),
    e 2 (omega arith),
    e 3 (omega arith),
    e 4 (omega arith),
    e 5 (omega arith),
    e 6 (omega arith),
    e 7 (omega arith),
    e 8 (omega arith),
    e 9 (omega arith),
    f 0 (omega arith),
    f 1 (omega arith),
    f 2 (omega arith),
    f 3 (omega arith),
    f 4 (omega arith),
    f 5 (omega arith),
    f 6 (omega arith),
  )

  -- a run of numbers from a place on, each as g reads it, under the same count
  run_alike : {A : Type 0} (g : ℤ → A) (at : ℕ) → w' word_places.count ≡ w word_places.count → ((k : ℕ) → at ≤ k → k < at + 20 → n' k ≡ n k) → upto (λ k. g (n' k)) at (min (w' word_places.count) 20) ≡ upto (λ k. g (n k)) at (min (w word_places.count) 20)
  run_alike g at e f =
      ap (λ (c : ℕ). upto (λ k. g (n' k)) at (min c 20)) e
      ∙ upto_same (λ k. g (n k)) (λ k. g (n' k)) at (min (w word_places.count) 20) (λ k a b. ap g (f k a (omega (arith, b))))

  pub samples_alike : w' word_places.count ≡ w word_places.count → ((k : ℕ) → number_places.samples ≤ k → k < wide.numbers → n' k ≡ n k) → samples_in w' n' ≡ samples_in w n
  unfolding samples_in
  samples_alike e f =
      ap₂ samples_of
      (run_alike (λ x. x) number_places.samples e (λ k a b. f k a (omega (arith, b))))
      (run_alike (λ x. record { 0 = x }) number_places.ping_times e (λ k a b. f k (omega (arith, a)) (omega (arith, b))))

-- the same rows, at any two places
pub same_peer : (w w' : List ℕ) (l l' : List ℤ) (i j : ℕ) → ((k : ℕ) → k < wide.words → word w' j k ≡ word w i k) → ((k : ℕ) → k < wide.numbers → number l' j k ≡ number l i k) → peer_at w' l' j ≡ peer_at w l i
unfolding peer_at
same_peer w w' l l' i j e f =
    ap₂ peer
    (neighbour_alike (word w i) (word w' j) (number l i) (number l' j) (λ k b. e k (omega (arith, b))) (λ k b. f k (omega (arith, b))))
    (samples_alike (word w i) (word w' j) (number l i) (number l' j) (e word_places.count (omega arith)) (λ k _ b. f k (omega (arith, b))))

-- ---- past the last row

module _ (i : ℕ) (h : 16 ≤ i) where
  pub no_word : (w : List ℕ) → length w ≡ 16 * wide.words → (k : ℕ) → word w i k ≡ 0
  no_word w n k = let b : length w ≤ i * wide.words + k = omega arith in get_or-eq_default w 0 b

  pub no_number : (l : List ℤ) → length l ≡ 16 * wide.numbers → (k : ℕ) → number l i k ≡ pos 0
  no_number l n k = let b : length l ≤ i * wide.numbers + k = omega arith in get_or-eq_default l (pos 0) b
