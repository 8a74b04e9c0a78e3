-- Rust's `abs`, `floor` and `round` of an `f64`, on the logic's account of IEEE 754, where `fin s m e` is m * 2 ^ e, negative where s is true.
use Rattle.std.specs.Prelude.{ℕ, ◌+◌, ◌-◌, ◌*◌, ◌/◌, Bool, false, cond, Float}
use Rattle.std.specs.Float.Ieee as Ieee
use Rattle.std.specs.Float.{nan, inf, fin, binary64}
use Rattle.std.specs.Float.Ieee.{up, down}

-- x without its sign
unfoldable pub abs_of : Float → Float
abs_of nan = nan
abs_of (inf s) = inf false
abs_of (fin s m e) = fin false m e

-- x made a whole number with the same sign, which a zero has too: `to s a b` is the size of the result, where x's size is a / b
abbrev pub to_whole : (Bool → ℕ → ℕ → ℕ) → Float → Float
to_whole to nan = nan
to_whole to (inf s) = inf s
to_whole to (fin s m e) = Ieee.round binary64 s (to s (m * up e) (down e)) 1

-- a size rounded so that the number goes down: up where the number is negative
abbrev pub lower : Bool → ℕ → ℕ → ℕ
lower s a b = cond s ((a + (b - 1)) / b) (a / b)

-- a size to the nearest: a half more, rounded down, so that a half goes away from zero
abbrev pub nearer : Bool → ℕ → ℕ → ℕ
nearer s a b = (2 * a + b) / (2 * b)

-- the largest whole number that is not above x
unfoldable pub floor_of : Float → Float
floor_of x = to_whole lower x

-- the whole number nearest to x, a half away from zero
unfoldable pub round_of : Float → Float
round_of x = to_whole nearer x
