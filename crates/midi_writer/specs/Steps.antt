-- What only private functions' contracts cite: what one of them answers, and what one of them asks.
use Rattle.std.specs.Prelude.{ℕ, ◌+◌, ◌-◌, ◌/◌, ◌≤◌, true, cond, ◌≡◌, List, length, Option, Some, None}
use Rattle.midi_file.specs.declared.TempoChange.{TempoChange}
use Rattle.midi_file.specs.Layout.{micros, track}
use Rattle.midi_file.specs.Refusal.{good_tempos, good_origin, good_origins}

-- the delta of a pair, none where its beat origin is refused
unfoldable pub delta_of : ℕ → TempoChange → Option ℕ
delta_of before p = cond (good_origin before p) (Some ((micros p - before) / 1000)) None

-- pairs whose file fits
pub record Fits (ps : List TempoChange) (part : List ℕ) : Type 0 where
  pub tempos : good_tempos ps ≡ true
  pub origins : good_origins 0 ps ≡ true
  pub room : 22 + length (track ps) ≤ length part
