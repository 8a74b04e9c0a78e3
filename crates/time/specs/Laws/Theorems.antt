-- What the conversions give at the places that scope and source name.
use Rattle.std.specs.Prelude.{◌≡◌, ◌-◌, ◌^◌, true, false, ℤ, pos, negsuc, int_le, refl}
use Rattle.std.specs.Float.{nan, inf, fin, binary64}
use Rattle.std.specs.Float.Ieee.{of_int, to_signed, div, round}
use Rattle.float.specs.Whole.{round_of}
use Rattle.time.specs.Convert.{minute, whole, from_tempo, to_tempo}

-- `from_tempo` of +0 is the largest i64, of -0 the smallest, of NaN 0
pub from_tempo_zero : from_tempo (fin false 0 (pos 0)) ≡ pos (2 ^ 63 - 1)
unfolding from_tempo whole round_of to_signed div minute of_int round
from_tempo_zero = refl

pub from_tempo_minus_zero : from_tempo (fin true 0 (pos 0)) ≡ negsuc (2 ^ 63 - 1)
unfolding from_tempo whole round_of to_signed div minute of_int round
from_tempo_minus_zero = refl

pub from_tempo_nan : from_tempo nan ≡ pos 0
unfolding from_tempo whole round_of to_signed div minute of_int round
from_tempo_nan = refl

-- 120 beats per minute are 500,000 microseconds per beat
pub from_tempo_120 : from_tempo (of_int binary64 (pos 120)) ≡ pos 500_000
unfolding from_tempo whole round_of to_signed div minute of_int round
from_tempo_120 = refl

-- the slowest and the fastest tempo of Link, 20 and 999 beats per minute
pub from_tempo_20 : from_tempo (of_int binary64 (pos 20)) ≡ pos 3_000_000
unfolding from_tempo whole round_of to_signed div minute of_int round
from_tempo_20 = refl

pub from_tempo_999 : from_tempo (of_int binary64 (pos 999)) ≡ pos 60_060
unfolding from_tempo whole round_of to_signed div minute of_int round
from_tempo_999 = refl

-- and the slowest comes back exactly
pub to_tempo_of_slowest : to_tempo (pos 3_000_000) ≡ of_int binary64 (pos 20)
unfolding to_tempo div minute of_int round
to_tempo_of_slowest = refl

-- `to_tempo` of 0 or less is infinity
pub to_tempo_none : (n : ℤ) → int_le n (pos 0) ≡ true → to_tempo n ≡ inf false
unfolding to_tempo
to_tempo_none n e = rw e
