-- How many bytes a file has, and how far its beat origins reach.
-- What rests on `accepted` stands in proofs/Laws/Sizes.
use Rattle.std.specs.Prelude.{ℕ, ◌+◌, ◌-◌, ◌/◌, ◌≤◌, ◌≡◌, refl, List, [], ◌∷◌, length}
use Rattle.std.proofs.Common.{arith, length-append}
use Rattle.midi_file.specs.declared.TempoChange.{TempoChange}
use Rattle.midi_file.specs.Layout.{vlq, event, micros, tempo_of, events, file}
use Rattle.midi_file.specs.Laws.Events.{length-event}
use Rattle.midi_file.specs.Laws.Theorems.{length-track, length-file}

-- six bytes for each pair, and those of its delta
unfoldable pub sizes : ℕ → List TempoChange → ℕ
sizes before [] = 0
sizes before (p ∷ ps) = 6 + length (vlq ((micros p - before) / 1000)) + sizes (micros p) ps

events_size : (before : ℕ) (ps : List TempoChange) → length (events before ps) ≡ sizes before ps
unfolding events sizes
events_size before [] = refl
events_size before (p ∷ ps) =
    let d : ℕ = (micros p - before) / 1000 in
    omega (arith, length-append (event d (tempo_of p)) (events (micros p) ps), length-event d (tempo_of p), events_size (micros p) ps)

pub file_size : (ps : List TempoChange) → length (file ps) ≡ 26 + sizes 0 ps
file_size ps = omega (arith, length-file ps, length-track ps, events_size 0 ps)

-- no beat origin passes this one
pub data Within (most : ℕ) : List TempoChange → Type 0 where
  none_within : Within most []
  one_within : {p : TempoChange} {ps : List TempoChange} → micros p ≤ most → Within most ps → Within most (p ∷ ps)
