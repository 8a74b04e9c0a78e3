-- A row's samples, and the times of the pings that they answer: how many, one more, none.
use Rattle.std.specs.Prelude.{ℕ, zero, suc, ◌+◌, ◌*◌, ◌<◌, ◌≤◌, min, ◌≡◌, refl, List, [], ◌∷◌, ◌++◌, ℤ, length, get_or, set, take, map, Bool, true, false, ◌||◌}
use Rattle.std.specs.List.{list_any}
use Rattle.std.specs.Ordering.{int_eq}
use Rattle.signed.specs.Equal.{eq_z}
use Rattle.time.specs.Same.{same_time}
use Rattle.lists.specs.Lists.{found, first}
use Rattle.std.proofs.Common.{rules, add-one, arith, sym, ap, ◌∙◌, length-append, length-set, take_all, take_at, take-suc-set}
use Rattle.std.proofs.Math.Path.{ap₂}
use Rattle.std.proofs.Math.IntN.{pos}
use Rattle.time.specs.declared.HostTime.{HostTime}
use Rattle.model.specs.Peers.{no_samples, sampled}
use Rattle.peer_table.specs.Places.{wide, long, word_places, number_places}
use Rattle.peer.specs.Held.{peer}
use Rattle.peer_table.specs.Rows.{upto, word, number, neighbour_in, samples_in, peer_at}
use Rattle.peer_table.specs.Inner.Changed.{with_samples, Changed}
use Rattle.peer_table.specs.Laws.Row.{no_word, set_there, set_else, samples_of, neighbour_alike, same_peer}
use Rattle.peer_table.specs.Laws.Upto.{map_upto, length-upto, get_from, snoc_from, take-upto, upto_same}

pub sample_count : (w : List ℕ) (l : List ℤ) (i : ℕ) → length (peer_at w l i).samples.offsets ≡ min (word w i word_places.count) 20
unfolding peer_at peer samples_in
sample_count w l i = length-upto (number l i) number_places.samples (min (word w i word_places.count) 20)

-- the times of the pings that they answer are as many
pub ping_time_count : (w : List ℕ) (l : List ℤ) (i : ℕ) → length (peer_at w l i).samples.ping_times ≡ length (peer_at w l i).samples.offsets
unfolding peer_at peer samples_in
ping_time_count w l i = length-upto (λ k. record { 0 = number l i k }) number_places.ping_times (min (word w i word_places.count) 20) ∙ sym (sample_count w l i)

-- they are the first of the 20 places
pub first_samples : (w : List ℕ) (l : List ℤ) (i n : ℕ) → n ≡ length (peer_at w l i).samples.offsets → take n (upto (number l i) number_places.samples 20) ≡ (peer_at w l i).samples.offsets
unfolding peer_at peer samples_in
first_samples w l i n e =
    let c = e ∙ sample_count w l i in
    take-upto (number l i) number_places.samples n 20 (omega (arith, c)) ∙ ap (upto (number l i) number_places.samples) c

-- so many numbers from each place on are the samples, and the times of their pings
pub all_samples : (w : List ℕ) (l : List ℤ) (i : ℕ) → upto (number l i) number_places.samples (length (peer_at w l i).samples.offsets) ≡ (peer_at w l i).samples.offsets
unfolding peer_at peer samples_in
all_samples w l i = ap (upto (number l i) number_places.samples) (sample_count w l i)

pub all_times : (w : List ℕ) (l : List ℤ) (i : ℕ) → map (λ x. record { 0 = x }) (upto (number l i) number_places.ping_times (length (peer_at w l i).samples.offsets)) ≡ (peer_at w l i).samples.ping_times
unfolding peer_at peer samples_in
all_times w l i = map_upto (λ x. record { 0 = x }) (number l i) number_places.ping_times _ ∙ ap (upto (λ k. record { 0 = number l i k }) number_places.ping_times) (sample_count w l i)

pub few : (w : List ℕ) (l : List ℤ) (i : ℕ) → length (peer_at w l i).samples.offsets ≤ 20
few w l i = omega (arith, sample_count w l i)

-- none past the last row
pub none_past : (w : List ℕ) (l : List ℤ) (i : ℕ) → 16 ≤ i → length w ≡ long.words → length (peer_at w l i).samples.offsets ≡ 0
none_past w l i h n = sample_count w l i ∙ ap (λ (k : ℕ). min k 20) (no_word i h w n word_places.count)

get_map : {A B : Type 0} (g : A → B) (xs : List A) (j : ℕ) (d : A) → get_or (map g xs) j (g d) ≡ g (get_or xs j d)
get_map g [] j d = refl
get_map g (x ∷ xs) zero d = refl
get_map g (x ∷ xs) (suc j) d = get_map g xs j d

pub time_read : (w : List ℕ) (l : List ℤ) (i j : ℕ)
    → ◌≡◌ {A = HostTime} (record { 0 = get_or (upto (number l i) number_places.ping_times (length (peer_at w l i).samples.offsets)) j (pos 0) }) (get_or (peer_at w l i).samples.ping_times j (record { 0 = pos 0 }))
time_read w l i j = sym (get_map (λ x. record { 0 = x }) _ j (pos 0)) ∙ ap (λ (ts : List HostTime). get_or ts j (record { 0 = pos 0 })) (all_times w l i)

found_by : (t : HostTime) (y : HostTime) (ys : List HostTime) (b : Bool) → same_time t y ≡ b → found (first (same_time t) (y ∷ ys)) ≡ b || found (first (same_time t) ys)
unfolding first
found_by t y ys true e = rw e
found_by t y ys false e = rw e

equal_is : (a b : ℤ) → int_eq a b ≡ eq_z b a
equal_is a b = search rules

-- a time is among them where its number is
found_time : (t : HostTime) (xs : List ℤ) → list_any (λ x. int_eq x t.0) xs ≡ found (first (same_time t) (map (λ x. record { 0 = x }) xs))
unfolding first
found_time t [] = refl
found_time t (x ∷ xs) = ap₂ ◌||◌ (equal_is x t.0) (found_time t xs) ∙ sym (found_by t (record { 0 = x }) (map (λ y. record { 0 = y }) xs) (eq_z t.0 x) refl)

pub has_time : (w : List ℕ) (l : List ℤ) (i : ℕ) (t : HostTime) → list_any (λ x. int_eq x t.0) (upto (number l i) number_places.ping_times (length (peer_at w l i).samples.offsets)) ≡ found (first (same_time t) (peer_at w l i).samples.ping_times)
has_time w l i t = found_time t _ ∙ ap (λ ts. found (first (same_time t) ts)) (all_times w l i)

-- one of them, by its place, and the time of its ping
module _ (w : List ℕ) (l : List ℤ) (i j : ℕ) (b : j < length (peer_at w l i).samples.offsets) where
  there : {A : Type 0} (g : ℤ → A) (at : ℕ) (d : A) → g (number l i (at + j)) ≡ get_or (upto (λ k. g (number l i k)) at (min (word w i word_places.count) 20)) j d
  there g at d = sym (get_from (λ k. g (number l i k)) at (min (word w i word_places.count) 20) j d (omega (arith, b, sample_count w l i)))

  pub sample_there : number l i (number_places.samples + j) ≡ get_or (peer_at w l i).samples.offsets j (pos 0)
  unfolding peer_at peer samples_in
  sample_there = there (λ x. x) number_places.samples (pos 0)

  pub ping_time_there : ◌≡◌ {A = HostTime} (record { 0 = number l i (number_places.ping_times + j) }) (get_or (peer_at w l i).samples.ping_times j (record { 0 = pos 0 }))
  unfolding peer_at peer samples_in
  ping_time_there = there (λ x. record { 0 = x }) number_places.ping_times (record { 0 = pos 0 })

-- none can be added to 20
pub no_more : (w : List ℕ) (l : List ℤ) (i : ℕ) (t : HostTime) (v : ℤ) → 20 ≤ length (peer_at w l i).samples.offsets → Changed w w l l i (with_samples (sampled t v) (peer_at w l i))
unfolding peer_at peer with_samples sampled
no_more w l i t v b =
    let row = neighbour_in (word w i) (number l i) in
    let s = samples_in (word w i) (number l i) in
    let full : length s.offsets ≡ 20 = omega (arith, b, sample_count w l i) in
    let all : length s.ping_times ≡ 20 = omega (arith, full, ping_time_count w l i) in
    record { here = λ _. ap (peer row) (ap₂ samples_of (sym (take_at s.offsets (v ∷ []) 20 full)) (sym (take_at s.ping_times (t ∷ []) 20 all))); others = λ m ne. refl }

-- how many is another, and one of the samples with its time
module _ (w : List ℕ) (i c : ℕ) where
  abbrev counted : List ℕ
  counted = set w (i * wide.words + word_places.count) c

  still_word : (m k : ℕ) → k < wide.words → (m ≡ i → k < word_places.count) → word counted m k ≡ word w m k
  still_word m k b out = set_else wide.words w i word_places.count c 0 (omega arith) m k b (λ e q. omega (arith, out e, q))

module _ (l : List ℤ) (i n : ℕ) (t : HostTime) (v : ℤ) (few : n < 20) where
  abbrev with_sample : List ℤ
  with_sample = set l (i * wide.numbers + (number_places.samples + n)) v

  abbrev noted : List ℤ
  noted = set with_sample (i * wide.numbers + (number_places.ping_times + n)) t.0

  still_time : (m k : ℕ) → k < wide.numbers → (m ≡ i → k ≡ number_places.ping_times + n → ⊥) → number noted m k ≡ number with_sample m k
  still_time m k b out = set_else wide.numbers with_sample i (number_places.ping_times + n) t.0 (pos 0) (omega arith) m k b out

  still_number : (m k : ℕ) → k < wide.numbers → (m ≡ i → (k ≡ number_places.samples + n → ⊥) × (k ≡ number_places.ping_times + n → ⊥)) → number noted m k ≡ number l m k
  still_number m k b out = still_time m k b (λ e. (out e).1) ∙ set_else wide.numbers l i (number_places.samples + n) v (pos 0) (omega arith) m k b (λ e. (out e).0)

  module _ (h : i < 16) (nl : length l ≡ long.numbers) where
    sample_noted : number noted i (number_places.samples + n) ≡ v
    sample_noted = still_time i (number_places.samples + n) (omega arith) (λ _ q. omega (arith, q, few)) ∙ set_there wide.numbers l i (number_places.samples + n) v (pos 0) (omega arith) h nl

    time_noted : number noted i (number_places.ping_times + n) ≡ t.0
    time_noted = set_there wide.numbers with_sample i (number_places.ping_times + n) t.0 (pos 0) (omega arith) h (length-set l (i * wide.numbers + (number_places.samples + n)) v ∙ nl)

-- one more behind n places, of which 20 are kept
one_more : {A : Type 0} (f g : ℕ → A) (j n : ℕ) (x : A) → n < 20 → ((k : ℕ) → j ≤ k → k < j + n → g k ≡ f k) → g (j + n) ≡ x → upto g j (suc n) ≡ take 20 (upto f j n ++ (x ∷ []))
one_more {A = A} f g j n x few same e =
    let first = upto f j n in
    let all : length (first ++ (x ∷ [])) ≤ 20 = simp length-append (omega (arith, length-upto f j n, few)) in
    snoc_from g j n ∙ ap₂ (λ (xs : List A) (y : A). xs ++ (y ∷ [])) (upto_same f g j n same) e ∙ sym (take_all 20 (first ++ (x ∷ [])) all)

module _ (w : List ℕ) (l : List ℤ) (i n : ℕ) (t : HostTime) (v : ℤ) (nw : length w ≡ long.words) (nl : length l ≡ long.numbers) (e : n ≡ length (peer_at w l i).samples.offsets) (few : n < 20) where
  abbrev w' : List ℕ
  w' = counted w i (n + 1)

  abbrev l' : List ℤ
  l' = noted l i n t v few

  -- one more of a run, each as g reads it
  more_of : {A : Type 0} (g : ℤ → A) (at : ℕ) (x : ℤ) → i < 16 → ((k : ℕ) → at ≤ k → k < at + n → number l' i k ≡ number l i k) → number l' i (at + n) ≡ x → upto (λ k. g (number l' i k)) at (min (word w' i word_places.count) 20) ≡ take 20 (upto (λ k. g (number l i k)) at (min (word w i word_places.count) 20) ++ (g x ∷ []))
  more_of g at x h same there =
      let c : word w' i word_places.count ≡ n + 1 = set_there wide.words w i word_places.count (n + 1) 0 (omega arith) h nw in
      let now : min (word w' i word_places.count) 20 ≡ suc n = omega (arith, c, few) in
      let before : n ≡ min (word w i word_places.count) 20 = e ∙ sample_count w l i in
      ap (upto (λ k. g (number l' i k)) at) now
      ∙ one_more (λ k. g (number l i k)) (λ k. g (number l' i k)) at n (g x) few (λ k a b. ap g (same k a b)) (ap g there)
      ∙ ap (λ (k : ℕ). take 20 (upto (λ k. g (number l i k)) at k ++ (g x ∷ []))) before

  more : i < 16 → samples_in (word w' i) (number l' i) ≡ sampled t v (samples_in (word w i) (number l i))
  unfolding samples_in sampled
  more h =
      let still : (k : ℕ) → k < number_places.ping_times + n → (k ≡ number_places.samples + n → ⊥) → number l' i k ≡ number l i k = λ k b out. still_number l i n t v few i k (omega (arith, b, few)) (λ _. (out, λ q. omega (arith, b, q))) in
      ap₂ samples_of
      (more_of (λ x. x) number_places.samples v h (λ k _ b. still k (omega (arith, b)) (λ q. omega (arith, b, q))) (sample_noted l i n t v few h nl))
      (more_of (λ x. record { 0 = x }) number_places.ping_times t.0 h (λ k a b. still k b (λ q. omega (arith, a, q, few))) (time_noted l i n t v few h nl))

  pub more_changes : Changed w w' l l' i (with_samples (sampled t v) (peer_at w l i))
  unfolding peer_at peer with_samples
  more_changes = record {
    here = λ h. ap₂ peer
        (neighbour_alike (word w i) (word w' i) (number l i) (number l' i) (λ k b. still_word w i (n + 1) i k (omega (arith, b)) (λ _. b)) (λ k b. still_number l i n t v few i k (omega (arith, b)) (λ _. (λ q. omega (arith, b, q), λ q. omega (arith, b, q)))))
        (more h);
    others = λ m ne. same_peer w w' l l' m m (λ k b. still_word w i (n + 1) m k b (λ q. absurd (ne q))) (λ k b. still_number l i n t v few m k b (λ q. absurd (ne q)));
  }

pub none_changes : (w : List ℕ) (l : List ℤ) (i : ℕ) → length w ≡ long.words → Changed w (counted w i 0) l l i (with_samples (λ _. no_samples) (peer_at w l i))
unfolding peer_at peer with_samples samples_in upto
none_changes w l i nw = record {
  here = λ h. let c : word (counted w i 0) i word_places.count ≡ 0 = set_there wide.words w i word_places.count 0 0 (omega arith) h nw in ap₂ peer
      (neighbour_alike (word w i) (word (counted w i 0) i) (number l i) (number l i) (λ k b. still_word w i 0 i k (omega (arith, b)) (λ _. b)) (λ k b. refl))
      (ap (λ (k : ℕ). samples_of (upto (number l i) number_places.samples (min k 20)) (upto (λ j. record { 0 = number l i j }) number_places.ping_times (min k 20))) c);
  others = λ m ne. same_peer w (counted w i 0) l l m m (λ k b. still_word w i 0 m k b (λ q. absurd (ne q))) (λ k b. refl);
}

-- the first k of a copy are the k from place j on, and x, the next one, is copied
pub copied : (f : ℕ → ℤ) (j k : ℕ) (q : List ℤ) (x : ℤ) → k < length q → x ≡ f (j + k) → take k q ≡ upto f j k → take (k + 1) (set q k x) ≡ upto f j (k + 1)
copied f j k q x h e so_far =
    rw (add-one) (take-suc-set q k x h ∙ ap₂ (λ (l : List ℤ) (y : ℤ). l ++ (y ∷ [])) so_far e ∙ sym (snoc_from f j k))
