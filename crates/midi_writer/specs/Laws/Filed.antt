-- What `write` answers, by the tests that led there.
use Rattle.std.specs.Prelude.{ℕ, ◌+◌, ◌-◌, ◌<◌, ◌≤◌, Bool, true, false, cond, ◌≡◌, refl, List, ◌++◌, length, Some, None}
use Rattle.std.specs.List.{list_all}
use Rattle.std.proofs.Common.{arith, sym, ap, ◌∙◌, lit<, ne_eqb, le-leb, length-take, length-append}
use Rattle.std.proofs.lemmas.Bool.{lt-leb}
use Rattle.big_endian.specs.Bytes.{bytes, put}
use Rattle.big_endian.specs.Written.{written, as_written}
use Rattle.big_endian.specs.Laws.Puts.{put_then, put_front, length-put}
use Rattle.midi_file.specs.declared.TempoChange.{TempoChange}
use Rattle.midi_file.specs.declared.TempoList.{TempoList}
use Rattle.midi_file.specs.Layout.{track, head, file}
use Rattle.midi_file.specs.Refusal.{good_tempo, good_tempos, good_origins, refusal}
use Rattle.midi_file.specs.Answers.{pairs, list_refusal, filed, filed_size}
use Rattle.midi_file.specs.Laws.Numbers.{by_test}
use Rattle.midi_file.specs.Laws.Code.{many_refused}
use Rattle.midi_file.specs.Laws.Theorems.{length-track, length-file, most_track}
use Rattle.midi_writer.specs.Steps.{Fits}
use Rattle.midi_writer.specs.Laws.Turns.{all_good, size_found}

length-head : (n : ℕ) → length (head n) ≡ 22
unfolding head bytes
length-head n = refl

module _ (l : TempoList) (old : List ℕ) where
  -- a refused list: its number, and the part as it was
  refused_by : (k : ℕ) → list_refusal l ≡ k → 0 < k → (as_written k old ≡ filed l old) × (0 ≡ filed_size l k)
  unfolding filed filed_size
  refused_by k e h =
      let n : ¬ (k ≡ 0) = omega arith in
      (rw (e, ne_eqb k 0 n), rw (ne_eqb k 0 n))

  pub filed_many : 64 < l.count → (as_written 8 old ≡ filed l old) × (0 ≡ filed_size l 8)
  filed_many h = refused_by 8 (many_refused l h) (lit< tt)

  module _ (few : l.count ≤ 64) (xs : List TempoChange) (x : xs ≡ pairs l) where
    few_pairs : length (pairs l) ≤ 64
    few_pairs = omega (arith, length-take l.count l.changes)

    pub filed_8 : list_all good_tempo xs ≡ false → (as_written 8 old ≡ filed l old) × (0 ≡ filed_size l 8)
    unfolding list_refusal refusal
    filed_8 e =
        let g : good_tempos (pairs l) ≡ false = ap good_tempos (sym x) ∙ sym (all_good xs) ∙ e in
        refused_by 8 (rw (le-leb l.count 64 few, g, le-leb (length (pairs l)) 64 few_pairs)) (lit< tt)

    module _ (e : list_all good_tempo xs ≡ true) where
      good : good_tempos (pairs l) ≡ true
      good = ap good_tempos (sym x) ∙ sym (all_good xs) ∙ e

      refused_at : (o : Bool) → good_origins 0 xs ≡ o → list_refusal l ≡ cond o 0 9
      unfolding list_refusal refusal
      refused_at o f =
          let h : good_origins 0 (pairs l) ≡ o = ap (good_origins 0) (sym x) ∙ f in
          rw (le-leb l.count 64 few, good, le-leb (length (pairs l)) 64 few_pairs, h)

      pub filed_9 : None ≡ size_found xs → (as_written 9 old ≡ filed l old) × (0 ≡ filed_size l 9)
      filed_9 f =
          let o : good_origins 0 xs ≡ false = by_test (good_origins 0 xs) (λ t. let g : None ≡ Some (length (file xs)) = rw t at f in absurd (cc g)) (λ t. t) in
          refused_by 9 (refused_at false o) (lit< tt)

      module _ (n : ℕ) (f : Some n ≡ size_found xs) where
        sized : (good_origins 0 xs ≡ true) × (n ≡ length (file xs))
        sized =
            by_test (good_origins 0 xs)
            (λ t. let g : Some n ≡ Some (length (file xs)) = rw t at f in (t, cc g))
            (λ t. let g : Some n ≡ None = rw t at f in absurd (cc g))

        pub filed_7 : length old < n → (as_written 7 old ≡ filed l old) × (0 ≡ filed_size l 7)
        unfolding filed filed_size written
        filed_7 h =
            let k : length old < length (file (pairs l)) = omega (arith, sized.1, ap (λ (ps : List TempoChange). length (file ps)) x) in
            (rw (refused_at true sized.0, lt-leb (length (file (pairs l))) (length old) k), refl)

        -- the sizes, and what `write_track` asks
        pub track_size : n ≡ 22 + length (track xs)
        track_size = sized.1 ∙ length-file xs

        pub track_least : 4 ≤ length (track xs)
        track_least = omega (arith, length-track xs)

        pub track_most : length (track xs) ≤ 644
        track_most = most_track xs (omega (arith, few_pairs, ap (λ (ps : List TempoChange). length ps) x))

        pub fits : (l₁ : List ℕ) (bs : List ℕ) → n ≤ length old → l₁ ≡ put 0 bs old → Fits xs l₁
        fits l₁ bs h k =
            record { tempos = sym (all_good xs) ∙ e; origins = sized.0; room = omega (arith, track_size, ap length k, length-put 0 bs old) }

        pub filed_0 : (l₁ l₂ : List ℕ) → n ≤ length old → l₁ ≡ put 0 (head (n - 22)) old → l₂ ≡ put 22 (track xs) l₁ → (as_written 0 l₂ ≡ filed l old) × (n ≡ filed_size l 0)
        unfolding filed filed_size written file
        filed_0 l₁ l₂ h e₁ e₂ =
            let t : List ℕ = track xs in
            let m : n - 22 ≡ length t = omega (arith, track_size) in
            let k : length (head (length t) ++ t) ≤ length old = omega (arith, track_size, length-append (head (length t)) t, length-head (length t)) in
            let p : l₂ ≡ put 0 (head (length t) ++ t) old =
            put_then 0 22 (head (length t)) t old l₁ l₂ (e₁ ∙ ap (λ (j : ℕ). put 0 (head j) old) m) e₂ (omega (arith, length-head (length t))) (omega arith) in
            let w : as_written 0 l₂ ≡ written (file xs) old = rw (le-leb (length (head (length t) ++ t)) (length old) k) (ap (as_written 0) (p ∙ put_front (head (length t) ++ t) old k)) in (
              w ∙ ap (λ (ps : List TempoChange). written (file ps) old) x ∙ sym (rw (refused_at true sized.0)),
              sized.1 ∙ ap (λ (ps : List TempoChange). length (file ps)) x,
            )
