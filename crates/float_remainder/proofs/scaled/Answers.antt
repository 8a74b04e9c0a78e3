-- Both factors have a known size, so the product is their exact product, rounded.
use Rattle.std.proofs.Common.{◌*◌, ◌^◌, ◌∙◌, ap, sym, le_of_lt}
use Rattle.std.specs.Prelude.{Bool, true, false}
use lib.Dec.{lit<}
use lib.Pow.{pow_pos}
use lib.Ieee.{binary64, round, neg}
use Rattle.float.specs.Laws.Wholes.{whole, value}
use Rattle.float_remainder.proofs.Values.{neg_value, mul_values}
use Rattle.float_remainder.proofs.scaled.Goals as goal

pub returns-then-negative : goal.returns-then-negative
returns-then-negative c =
    let n = c.args.digits in
    let k = c.args.lift in
    mul_values (neg (whole n)) c.power_of-power.result true n 1 (2 ^ k) (2 ^ 1074) (lit< tt) (pow_pos 1074) (neg_value (whole n) n 1 (value n (le_of_lt c.requires.few_digits))) c.power_of-power.ensures
    ∙ ap (λ (s : Bool). round binary64 s (n * 2 ^ k) (2 ^ 1074)) (sym c.if-negative.true)

pub returns-else-negative : goal.returns-else-negative
returns-else-negative c =
    let n = c.args.digits in
    let k = c.args.lift in
    mul_values (whole n) c.power_of-power.result false n 1 (2 ^ k) (2 ^ 1074) (lit< tt) (pow_pos 1074) (value n (le_of_lt c.requires.few_digits)) c.power_of-power.ensures
    ∙ ap (λ (s : Bool). round binary64 s (n * 2 ^ k) (2 ^ 1074)) (sym c.if-negative.false)
