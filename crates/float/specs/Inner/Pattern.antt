-- What the private functions read of an `f64`'s bit pattern, and make of it. No public contract cites these.
use Rattle.std.specs.Prelude.{ℕ, ◌-◌, ◌^◌, min, Bool, cond, ℤ, pos, neg_ℤ, ltb}

-- how many digits stand after the point, and 63 where it is more
abbrev pub cut_of : ℕ → ℕ
cut_of field = cond (ltb field 1012) 63 (1075 - field)

-- how many zeros follow the digits before the point, and 11 where it is more
abbrev pub up_of : ℕ → ℕ
up_of field = min (field - 1075) 11

-- the whole number of a sign and a size, or the end of the range of an `i64` that it passes
abbrev pub signed_of : Bool → ℕ → ℤ
signed_of s n = cond s (neg_ℤ (pos (min n (2 ^ 63)))) (pos (min n (2 ^ 63 - 1)))
