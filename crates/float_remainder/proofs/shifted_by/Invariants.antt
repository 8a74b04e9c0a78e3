use Rattle.std.proofs.Common.{◌≡◌, ◌*◌, ◌%◌, ◌^◌, ◌<◌}
use Rattle.float_remainder.proofs.shifted_by.Given as goal

-- what is left of the digits, with the zeros that are left behind it, has the remainder that is looked for
abbrev pub invariant-loop-left : goal.invariant-loop-left
invariant-loop-left l = record { rest_below : l.rest < l.divisor; same : l.rest * 2 ^ l.left % l.divisor ≡ l.digits * 2 ^ l.shift % l.divisor }

abbrev pub decreases-loop-left : goal.decreases-loop-left
decreases-loop-left l = l.left
