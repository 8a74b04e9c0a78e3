-- What closed cases are written with: times, numbers as decimals, and one name that opens every definition, so that they compute.
use Rattle.std.specs.Prelude.{◌≡◌, true, false, ℕ, suc, ◌^◌, ℤ, pos, negsuc, Float}
use Rattle.std.proofs.Common.{sym, ◌∙◌}
use Rattle.std.specs.Float.{binary64}
use Rattle.std.specs.Float.Ieee.{of_int, to_signed, round, add, sub, mul, div, rem, eq}
use Rattle.float.specs.Whole.{abs_of, floor_of, round_of}
use Rattle.signed.specs.Wrap.{mod64, wrap64}
use Rattle.time.specs.declared.HostTime.{HostTime}
use Rattle.time.specs.Convert.{zero, million, minute, whole, from_beats, to_beats, from_tempo}
use Rattle.timeline.specs.Phase.{quantum_bins, phase_of}
use Rattle.timeline.specs.Session.{default_state, beats_since, beat_at_time, phase_at_time, time_at_beat, force_beat_at_time, request_beat_at_time, set_tempo}

abbrev pub at : ℤ → HostTime
at t = record { 0 = t }

-- the `f64` nearest to n / 10 ^ k, which is what Rust makes of a decimal
abbrev pub decimal : ℤ → ℕ → Float
decimal (pos n) k = round binary64 false n (10 ^ k)
decimal (negsuc n) k = round binary64 true (suc n) (10 ^ k)

unfoldable pub everything : ℕ
unfolding of_int to_signed round add sub mul div rem eq abs_of floor_of round_of mod64 wrap64 zero million minute whole from_beats to_beats from_tempo quantum_bins phase_of default_state beats_since beat_at_time phase_at_time time_at_beat force_beat_at_time request_beat_at_time set_tempo
everything = 0

-- two numbers that both compute to z: two roundings are not compared with each other, which would take too long
pub both : {x y : Float} (z : Float) → x ≡ z → y ≡ z → x ≡ y
both z p q = p ∙ sym q
