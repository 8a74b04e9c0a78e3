-- A track, laid event by event: the work that is left.
use Rattle.std.specs.Prelude.{ℕ, ◌+◌, ◌-◌, ◌/◌, ◌<◌, ◌≤◌, true, ◌≡◌, refl, List, [], ◌∷◌, ◌++◌, length, Option, Some, IsSome}
use Rattle.std.proofs.Common.{arith, sym, ◌∙◌, append_assoc, length-append}
use Rattle.std.proofs.Math.Path.{ap, ap₂}
use Rattle.signed.specs.Laws.Tests.{both}
use Rattle.big_endian.specs.Bytes.{bytes, put}
use Rattle.big_endian.specs.Laws.Puts.{length-put, put_turn}
use Rattle.midi_file.specs.declared.TempoChange.{TempoChange}
use Rattle.midi_file.specs.Layout.{event, micros, tempo_of, events, end_of_track, track}
use Rattle.midi_file.specs.Refusal.{good_tempo, good_tempos, good_origin, good_origins}
use Rattle.midi_file.specs.Laws.Fields.{end_fields}
use Rattle.midi_file.specs.Laws.Events.{tempo_bounds, delta_small}
use Rattle.midi_writer.specs.Steps.{delta_of, Fits}
use Rattle.midi_writer.specs.Laws.Turns.{delta_good}

-- with the rest laid from place at on, the part is as with the whole track laid
pub record Laid (part₀ : List ℕ) (all : List TempoChange) (part : List ℕ) (rest : List TempoChange) (at before : ℕ) : Type 0 where
  pub kept : length part ≡ length part₀
  pub room : at + (length (events before rest) + 4) ≤ length part
  pub same : put at (events before rest ++ end_of_track) part ≡ put 22 (track all) part₀
  pub tempos : good_tempos rest ≡ true
  pub origins : good_origins before rest ≡ true

length_end : length end_of_track ≡ 4
unfolding end_of_track
length_end = refl

pub laid_first : (part : List ℕ) (ps : List TempoChange) → Fits ps part → Laid part ps part ps 22 0
unfolding track
laid_first part ps f =
    record { kept = refl; room = omega (arith, f.room, length-append (events 0 ps) end_of_track, length_end); same = refl; tempos = f.tempos; origins = f.origins }

pub laid_last : {part₀ part : List ℕ} {all rest : List TempoChange} {at before : ℕ} → Laid part₀ all part rest at before → rest ≡ [] → put at (bytes 4 0x00ff_2f00) part ≡ put 22 (track all) part₀
unfolding events
laid_last {part = part} {at = at} {before = before} l e =
    ap (λ (t : List ℕ). put at t part) (sym end_fields) ∙ ap (λ (t : List TempoChange). put at (events before t ++ end_of_track) part) (sym e) ∙ l.same

-- the event fits
pub record EventFits (part : List ℕ) (at d t : ℕ) : Type 0 where
  pub delta : d < 268435456
  pub tempo : t < 16777216
  pub room : at + length (event d t) ≤ length part

-- the rest's first pair has a delta
pub laid_some :
    {part₀ part : List ℕ} {all rest : List TempoChange} {at before : ℕ} → Laid part₀ all part rest at before
    → (p : TempoChange) (rest' : List TempoChange) → rest ≡ p ∷ rest'
    → (o : Option ℕ) → o ≡ delta_of before p → IsSome o
unfolding good_origins delta_of
laid_some {before = before} l p rest' e o d =
    let g = both (good_origin before p) (good_origins (micros p) rest') (ap (good_origins before) (sym e) ∙ l.origins) in
    let f : o ≡ Some ((micros p - before) / 1000) = d ∙ rw g.0 in
    rw f refl

module _ {part₀ part : List ℕ} {all rest : List TempoChange} {at before : ℕ} (l : Laid part₀ all part rest at before) (p : TempoChange) (rest' : List TempoChange) (e : rest ≡ p ∷ rest') (d t : ℕ) (ed : Some d ≡ delta_of before p) (et : t ≡ tempo_of p) where
  good_first : (good_tempo p ≡ true) × (good_tempos rest' ≡ true)
  unfolding good_tempos
  good_first = both (good_tempo p) (good_tempos rest') (ap good_tempos (sym e) ∙ l.tempos)

  good_next : (good_origin before p ≡ true) × (good_origins (micros p) rest' ≡ true)
  unfolding good_origins
  good_next = both (good_origin before p) (good_origins (micros p) rest') (ap (good_origins before) (sym e) ∙ l.origins)

  delta : d ≡ (micros p - before) / 1000
  delta = (delta_good before p d ed).1

  events_parted : events before rest ≡ event d t ++ events (micros p) rest'
  unfolding events
  events_parted =
      ap (events before) e
      ∙ ap₂ (λ (x y : ℕ). event x y ++ events (micros p) rest') (sym delta) (sym et)

  pub laid_fits : EventFits part at d t
  laid_fits = record {
    delta = omega (arith, delta, delta_small before p good_next.0);
    tempo = omega (arith, (tempo_bounds p good_first.0).1);
    room = omega (arith, l.room, ap length events_parted, length-append (event d t) (events (micros p) rest'));
  }

  -- and with it laid the rest is one shorter
  pub laid_next : (m at' : ℕ) (part' : List ℕ) → m ≡ micros p → at' ≡ at + length (event d t) → part' ≡ put at (event d t) part → Laid part₀ all part' rest' at' m
  laid_next m at' part' em ea ep =
      let n : length part' ≡ length part = ap length ep ∙ length-put at (event d t) part in
      let ys : List ℕ = events m rest' ++ end_of_track in
      let ws : List ℕ = events before rest ++ end_of_track in
      let x : length (events before rest) ≡ length (event d t) + length (events (micros p) rest') = ap length events_parted ∙ length-append (event d t) (events (micros p) rest') in
      let y : length (events m rest') ≡ length (events (micros p) rest') = ap (λ (j : ℕ). length (events j rest')) em in
      let w : ws ≡ event d t ++ ys =
      ap (λ (s : List ℕ). s ++ end_of_track) events_parted ∙ append_assoc (event d t) (events (micros p) rest') end_of_track ∙ ap (λ (j : ℕ). event d t ++ (events j rest' ++ end_of_track)) (sym em) in
      record {
        kept = n ∙ l.kept;
        room = omega (arith, l.room);
        same = put_turn at at' (event d t) ys ws part part' w ea (omega (arith, l.room, length-append (events before rest) end_of_track, length_end)) ep ∙ l.same;
        tempos = good_first.1;
        origins = ap (λ (j : ℕ). good_origins j rest') em ∙ good_next.1;
      }
