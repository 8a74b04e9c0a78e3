-- When the timer that a box asked for fires.
use Rattle.std.specs.Prelude.{ℕ, ◌+◌, ◌-◌, ◌%◌, ◌^◌, cond, nat_le, nat_lt}

abbrev pub later_of : ℕ → ℕ → ℕ
later_of a b = cond (nat_lt a b) b a

-- at the host time that it asked for, less its shift, but no earlier than one microsecond from now; the host time is in 64 bits, of which half are negative
abbrev pub fires_at : ℕ → ℕ → ℕ → ℕ
fires_at host shift now = later_of (cond (nat_le (2 ^ 63) host) 0 (host - shift)) ((now + 1) % 2 ^ 64)
