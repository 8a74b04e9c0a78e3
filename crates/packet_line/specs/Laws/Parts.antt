-- How long the parts of a line are.
use Rattle.std.specs.Prelude.{ℕ, ◌%◌, ◌<◌, ◌≤◌, length}
use Rattle.std.proofs.Common.{mod-lt, arith}
use Rattle.text.specs.Numerals.{decimal}
use Rattle.text.specs.Laws.Decimals.{length-decimal, places_most}

-- a byte in decimal
pub byte_short : (x : ℕ) → length (decimal (x % 256)) ≤ 3
byte_short x = omega (arith, length-decimal (x % 256), places_most 3 (x % 256) (omega arith) (omega (arith, mod-lt x {m = 256} (omega arith))))

-- a port
pub port_short : (x : ℕ) → x < 65536 → length (decimal x) ≤ 5
port_short x h = omega (arith, length-decimal x, places_most 5 x (omega arith) (omega arith))
