-- Which `f64` is a whole tempo that the table has.
use Rattle.std.specs.Prelude.{◌≡◌, ℕ, ◌≤◌, Option, None, Some, pos, Float}
use Rattle.std.specs.Float.{binary64}
use Rattle.std.specs.Float.Ieee.{of_int}

-- x is exactly n, a whole tempo that the table has
abbrev pub InTable : Float → ℕ → Type 0
InTable x n = (20 ≤ n) × (n ≤ 999) × (x ≡ of_int binary64 (pos n))

-- what the private `whole_of` tells of x: n where x is the whole tempo n, and nothing where it is none
abbrev pub Told : Float → Option ℕ → Type 0
Told x None = (n : ℕ) → InTable x n → ⊥
Told x (Some n) = InTable x n
