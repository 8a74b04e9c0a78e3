-- The pattern of a power of two: below 2^52 units it has no leading digit, and from there on only that.
use Rattle.std.proofs.Common.{◌*◌, ◌-◌, ◌%◌, ◌^◌}
use Rattle.std.specs.Prelude.{false}
use Rattle.float_remainder.proofs.Values.{low_power, high_power, no_nan_bits}
use Rattle.float_remainder.proofs.power_of.Goals as goal

pub float_from_bits-result : goal.float_from_bits-result
float_from_bits-result c = no_nan_bits (1 * 2 ^ c.args.lift % 2 ^ 64) false (2 ^ c.args.lift) (2 ^ 1074) (low_power c.args.lift c.if-lift-lt52.true)

pub float_from_bits-result-else-lift-lt52 : goal.float_from_bits-result-else-lift-lt52
float_from_bits-result-else-lift-lt52 c = no_nan_bits ((c.args.lift - 51) * 2 ^ 52 % 2 ^ 64) false (2 ^ c.args.lift) (2 ^ 1074) (high_power c.args.lift c.if-lift-lt52.false c.requires)

pub returns-then-lift-lt52 : goal.returns-then-lift-lt52
returns-then-lift-lt52 c = low_power c.args.lift c.if-lift-lt52.true

pub returns-else-lift-lt52 : goal.returns-else-lift-lt52
returns-else-lift-lt52 c = high_power c.args.lift c.if-lift-lt52.false c.requires
