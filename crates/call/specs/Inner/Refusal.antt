-- When a call is turned down for its time or its answer buffer, and the numbers of refusals.
use Rattle.std.specs.Prelude.{ℕ, cond, ltb, Result, Ok, Err}
use Rattle.time.specs.declared.HostTime.{HostTime}
use Rattle.model.specs.Calls.{timely}
use Rattle.call.specs.declared.refusals.Refusal.{Refusal}
use Rattle.call.specs.declared.refusals.Refusal.TheVariants.{TimeOutOfRange, BufferTooSmall, PacketTooLong, InterfacesFull}

-- the number under which a call is turned down for its time or its answer buffer, 0 where it is not
abbrev pub refusal : HostTime → ℕ → ℕ
refusal at buf_size = cond (timely at) (cond (ltb buf_size 4096) 2 0) 1

-- the number that a host reads
abbrev pub number_of : Refusal → ℕ
number_of TimeOutOfRange = 1
number_of BufferTooSmall = 2
number_of PacketTooLong = 3
number_of InterfacesFull = 6

-- that of a test that turns down or not, 0 where it does not
abbrev pub number_told : Result (Unit {0}) Refusal → ℕ
number_told (Ok v) = 0
number_told (Err r) = number_of r
