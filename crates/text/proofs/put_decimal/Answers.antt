use Rattle.std.proofs.Common.{subst}
use Rattle.text.specs.Numerals.{digits, decimal}
use Rattle.text.specs.Placed.{Placed}
use Rattle.text.proofs.put_decimal.Goals as goal

pub returns : goal.returns
unfolding decimal
returns c = subst (λ k. Placed c.args.at (digits 10 k c.args.n) c.args.s.now c.put_digits.result c.put_digits.new.s) c.places.ensures c.put_digits.ensures
