-- Each pass takes in some of the zeros that are left, and the remainder that is looked for stays.
use Rattle.std.proofs.Common.{◌*◌, ◌%◌, ◌^◌, ◌≤◌, ◌∙◌, arith, mod-lt}
use Rattle.std.proofs.lemmas.Nat.{mul-mod_first}
use Rattle.float_remainder.proofs.Shifts.{taken}
use Rattle.float_remainder.proofs.shifted_by.Goals as goal

pub loop-left-init : goal.loop-left-init
loop-left-init c = record { rest_below = mod-lt c.args.digits c.requires.divisor_not_zero; same = mul-mod_first c.args.digits (2 ^ c.args.shift) c.args.divisor }

pub loop-left-preserved : goal.loop-left-preserved
loop-left-preserved c =
    let k = c.min-step.result in
    let few : k ≤ 11 = omega arith in
    let some : k ≤ c.loop-left.left = omega arith in
    record {
      rest_below = mod-lt (c.loop-left.rest * 2 ^ k % 2 ^ 64) c.requires.divisor_not_zero;
      same = taken c.loop-left.rest k c.loop-left.left c.args.divisor c.loop-left.invariant.rest_below c.requires.divisor_few_digits few some ∙ c.loop-left.invariant.same;
    }
