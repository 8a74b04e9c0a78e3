use Rattle.std.proofs.Common.{◌∷◌, sym, ap, subst, ◌∙◌, unsigned_abs, to_z-of_z}
use Rattle.signed.specs.Laws.Signs.{read_flag}
use Rattle.text.specs.Numerals.{decimal}
use Rattle.text.specs.Placed.{Placed}
use Rattle.text.specs.Laws.Decimals.{integer_neg, integer_nonneg}
use Rattle.text.proofs.put_integer.Goals as goal

pub returns-then-n-lt0 : goal.returns-then-n-lt0
returns-then-n-lt0 c =
    let e = c.unsigned_abs-size.ensures ∙ ap unsigned_abs (to_z-of_z c.ranges.n) in
    let k = integer_neg c.args.n (read_flag _ c.ranges.n c.if-n-lt0.true) in
    subst (λ t. Placed c.args.at t c.args.s.now c.put_negative.result c.put_negative.new.s) (ap (λ m. 45 ∷ decimal m) e ∙ sym k) c.put_negative.ensures

pub returns-else-n-lt0 : goal.returns-else-n-lt0
returns-else-n-lt0 c =
    let e = c.unsigned_abs-size.ensures ∙ ap unsigned_abs (to_z-of_z c.ranges.n) in
    let k = integer_nonneg c.args.n (read_flag _ c.ranges.n c.if-n-lt0.false) in
    subst (λ t. Placed c.args.at t c.args.s.now c.put_decimal.result c.put_decimal.new.s) (ap decimal e ∙ sym k) c.put_decimal.ensures
