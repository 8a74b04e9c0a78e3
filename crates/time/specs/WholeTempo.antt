-- Whole tempos from 20 to 999 beats per minute: their microseconds per beat, and which `f64` is one of them.
use Rattle.std.specs.Prelude.{ℕ, ◌+◌, ◌*◌, ◌/◌}

-- 60,000,000 / n to the nearest whole number, a half up
unfoldable pub whole_tempo : ℕ → ℕ
whole_tempo n = (120_000_000 + n) / (2 * n)
