-- Sums of signed 64-bit numbers and of times, as the Rust computes them: each sum, difference, negation and size wraps.
use Rattle.std.specs.Prelude.{cond, ℤ, pos, neg_ℤ, nat_abs, ◌+ℤ◌, ◌-ℤ◌}
use Rattle.std.specs.Int.Signed.{lt_z, quot_z}
use Rattle.signed.specs.Wrap.{wrap64}
use Rattle.time.specs.declared.HostTime.{HostTime}

abbrev pub add64 : ℤ → ℤ → ℤ
add64 a b = wrap64 (a +ℤ b)

abbrev pub sub64 : ℤ → ℤ → ℤ
sub64 a b = wrap64 (a -ℤ b)

abbrev pub neg64 : ℤ → ℤ
neg64 a = wrap64 (neg_ℤ a)

-- the size; that of the smallest number is itself
abbrev pub abs64 : ℤ → ℤ
abs64 a = wrap64 (pos (nat_abs a))

-- a half, toward zero
abbrev pub half : ℤ → ℤ
half a = quot_z a (pos 2)

-- ---- times

-- some microseconds later, and earlier
abbrev pub plus : HostTime → ℤ → HostTime
plus t d = record { 0 = add64 t.0 d }

abbrev pub minus : HostTime → ℤ → HostTime
minus t d = record { 0 = sub64 t.0 d }

-- i64::MAX, which stands for no time at all in the Rust
abbrev pub never : HostTime
never = record { 0 = pos 9_223_372_036_854_775_807 }

-- the earlier of two
abbrev pub earlier : HostTime → HostTime → HostTime
earlier a b = cond (lt_z b.0 a.0) b a
