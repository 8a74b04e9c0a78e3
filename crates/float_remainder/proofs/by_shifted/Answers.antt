-- Below the divisor nothing is taken off.
use Rattle.float_remainder.proofs.Shifts.{stays_far, stays_near}
use Rattle.float_remainder.proofs.by_shifted.Goals as goal

pub returns-then-shift-ge53 : goal.returns-then-shift-ge53
returns-then-shift-ge53 c = stays_far c.args.digits c.args.divisor c.args.shift c.requires.few_digits c.requires.divisor_not_zero c.if-shift-ge53.true

pub returns-then-digits-shift : goal.returns-then-digits-shift
returns-then-digits-shift c = stays_near c.args.digits c.args.divisor c.args.shift c.if-digits-shift.true
