-- One turn of a loop over pairs.
use Rattle.std.specs.Prelude.{ℕ, ◌+◌, ◌-◌, ◌*◌, ◌/◌, ◌≤◌, true, false, ◌≡◌, refl, List, [], ◌∷◌, ◌&&◌, cond, length, drop, get_or, ◌<◌, Option, Some, None}
use Rattle.std.specs.List.{list_all}
use Rattle.std.proofs.Common.{arith, ◌∙◌, sym, ap, add-one, length-append, drop_of_length-le, drop-cons}
use Rattle.midi_file.specs.declared.TempoChange.{TempoChange}
use Rattle.midi_file.specs.Layout.{vlq, event, micros, tempo_of, events, file}
use Rattle.midi_file.specs.Refusal.{good_tempo, good_tempos, good_origin, good_origins}
use Rattle.midi_file.specs.Answers.{no_change}
use Rattle.midi_file.specs.Laws.Numbers.{by_test}
use Rattle.midi_file.specs.Laws.Quantities.{width_most}
use Rattle.midi_file.specs.Laws.Events.{length-event}
use Rattle.midi_file.specs.Laws.Theorems.{length-track, length-file}
use Rattle.midi_writer.specs.Steps.{delta_of}

pub all_good : (ps : List TempoChange) → list_all good_tempo ps ≡ good_tempos ps
unfolding good_tempos
all_good [] = refl
all_good (p ∷ ps) = ap (λ b. good_tempo p && b) (all_good ps)

-- ---- a delta says whether the beat origin is good

module _ (before : ℕ) (p : TempoChange) where
  pub delta_good : (d : ℕ) → Some d ≡ delta_of before p → (good_origin before p ≡ true) × (d ≡ (micros p - before) / 1000)
  unfolding delta_of
  delta_good d e =
      by_test (good_origin before p)
      (λ t. let f : Some d ≡ Some ((micros p - before) / 1000) = rw t at e in (t, cc f))
      (λ t. let f : Some d ≡ None = rw t at e in absurd (cc f))

  pub delta_bad : None ≡ delta_of before p → good_origin before p ≡ false
  unfolding delta_of
  delta_bad e =
      by_test (good_origin before p)
      (λ t. let f : None ≡ Some ((micros p - before) / 1000) = rw t at e in absurd (cc f))
      (λ t. t)

-- ---- the pair at a place, and the rest

module _ (xs : List TempoChange) (i : ℕ) where
  pub rest_none : length xs ≤ i → drop i xs ≡ []
  rest_none h = drop_of_length-le xs h

  pub rest_from : i < length xs → drop i xs ≡ get_or xs i no_change ∷ drop (i + 1) xs
  rest_from h = drop-cons xs i no_change h ∙ rw add-one

-- ---- the size, pair by pair

-- what was summed and the events of the rest are the whole file; the beat origins of the rest are good where those of all are
pub record Summed (all rest : List TempoChange) (size before : ℕ) : Type 0 where
  pub bound : size + 10 * length rest ≤ 666
  pub total : size + length (events before rest) ≡ 26 + length (events 0 all)
  pub origins : good_origins before rest ≡ good_origins 0 all

abbrev pub size_found : List TempoChange → Option ℕ
size_found ps = cond (good_origins 0 ps) (Some (length (file ps))) None

pub summed_first : (ps : List TempoChange) → length ps ≤ 64 → Summed ps ps 26 0
summed_first ps h = record { bound = omega arith; total = refl; origins = refl }

pub summed_last : {ps rest : List TempoChange} {size before : ℕ} → Summed ps rest size before → rest ≡ [] → Some size ≡ size_found ps
unfolding events good_origins
summed_last {ps} {rest} {size} {before} s e =
    let t : size + length (events before []) ≡ 26 + length (events 0 ps) = ap (λ (x : List TempoChange). size + length (events before x)) (sym e) ∙ s.total in
    let o : good_origins 0 ps ≡ true = sym s.origins ∙ ap (good_origins before) e in
    rw o (ap Some (omega (arith, t, length-file ps, length-track ps)))

module _ {ps rest : List TempoChange} {size before : ℕ} (s : Summed ps rest size before) (p : TempoChange) (rest' : List TempoChange) (e : rest ≡ p ∷ rest') where
  pub summed_bad : None ≡ delta_of before p → None ≡ size_found ps
  unfolding good_origins
  summed_bad d =
      let o : good_origins 0 ps ≡ false = sym s.origins ∙ ap (good_origins before) e ∙ rw (delta_bad before p d) in
      sym (rw o)

  module _ (d w : ℕ) (f : Some d ≡ delta_of before p) (v : w ≡ length (vlq d)) where
    pub summed_fits : size + (6 + w) ≤ 666
    summed_fits = omega (arith, s.bound, ap (λ (x : List TempoChange). length x) e, v, width_most d)

    pub summed_next : (m : ℕ) → m ≡ micros p → Summed ps rest' (size + (6 + w)) m
    unfolding events good_origins
    summed_next m i =
        let g = delta_good before p d f in
        let x : ℕ = (micros p - before) / 1000 in
        let y : length (events before rest) ≡ length (event x (tempo_of p)) + length (events (micros p) rest') =
        ap (λ (x : List TempoChange). length (events before x)) e ∙ length-append (event x (tempo_of p)) (events (micros p) rest') in
        let z : length (events m rest') ≡ length (events (micros p) rest') = ap (λ (j : ℕ). length (events j rest')) i in
        let k : length (vlq d) ≡ length (vlq x) = ap (λ (j : ℕ). length (vlq j)) g.1 in
        record {
          bound = omega (arith, s.bound, ap (λ (x : List TempoChange). length x) e, v, width_most d);
          total = omega (arith, s.total, y, z, v, k, length-event x (tempo_of p));
          origins = ap (λ (j : ℕ). good_origins j rest') i ∙ sym (ap (good_origins before) e ∙ rw g.0) ∙ s.origins;
        }
