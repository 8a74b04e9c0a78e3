-- The code's float literals, which the logic has by their bit patterns, are the constants of the definitions.
use Rattle.std.proofs.Common.{◌≡◌, false, refl}
use lib.Ieee.{inf, binary64, of_int, of_bits}
use Rattle.time.specs.Convert.{zero, million, minute}

pub zero_is : of_bits binary64 0 ≡ zero
unfolding of_bits of_int zero
zero_is = refl

pub million_is : of_bits binary64 0x412e_8480_0000_0000 ≡ million
unfolding of_bits of_int million
million_is = refl

pub minute_is : of_bits binary64 0x418c_9c38_0000_0000 ≡ minute
unfolding of_bits of_int minute
minute_is = refl

pub infinity_is : of_bits binary64 0x7ff0_0000_0000_0000 ≡ inf false
unfolding of_bits
infinity_is = refl

pub ruleset constants = (zero_is, million_is, minute_is, infinity_is)
