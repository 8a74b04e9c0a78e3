-- The conversions of time.rs between whole counters and `f64`, under the Rust's names. Each operation rounds once.
use Rattle.std.specs.Prelude.{false, cond, ℤ, pos, int_le, Float}
use Rattle.std.specs.Float.{inf, binary64}
use Rattle.std.specs.Float.Ieee.{of_int, to_signed, mul, div, le}
use Rattle.float.specs.Whole.{round_of}

-- 0, the micro-beats of a beat, and the microseconds of a minute, as `f64`
unfoldable pub zero : Float
zero = of_int binary64 (pos 0)

unfoldable pub million : Float
million = of_int binary64 (pos 1_000_000)

unfoldable pub minute : Float
minute = of_int binary64 (pos 60_000_000)

-- an `f64` as an `i64`: to the nearest whole number, halves away from zero, past the range the range's end, NaN 0
unfoldable pub whole : Float → ℤ
whole x = to_signed 63 (round_of x)

-- `Tempo::micros_per_beat`
unfoldable pub micros_per_beat : Float → Float
micros_per_beat bpm = cond (le bpm zero) (inf false) (div binary64 minute bpm)

-- `MicroBeats::from_beats` and `to_beats`
unfoldable pub from_beats : Float → ℤ
from_beats beats = whole (mul binary64 beats million)

unfoldable pub to_beats : ℤ → Float
to_beats micro = div binary64 (of_int binary64 micro) million

-- `TempoWire::from_tempo` and `to_tempo`
unfoldable pub from_tempo : Float → ℤ
from_tempo bpm = whole (div binary64 minute bpm)

unfoldable pub to_tempo : ℤ → Float
to_tempo micros = cond (int_le micros (pos 0)) (inf false) (div binary64 minute (of_int binary64 micros))
