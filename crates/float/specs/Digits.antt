-- The digits of an `f64`, read from its bit pattern.
use Rattle.std.specs.Prelude.{ℕ, ◌+◌, ◌/◌, ◌%◌, ◌^◌, cond, eqb}

-- the digits, with the leading one unless the exponent's field is 0
abbrev pub digits_of : ℕ → ℕ
digits_of b = cond (eqb (b % 2 ^ 63 / 2 ^ 52) 0) (b % 2 ^ 52) (2 ^ 52 + b % 2 ^ 52)
