-- A size up to 2 ^ 63, negated.
use Rattle.std.proofs.Common.{pos, neg_ℤ, arith, ◌∙◌}
use Rattle.tempo_text.specs.Laws.Sizes.{no_number_in, number_in, negated}
use Rattle.tempo_text.proofs.numbers.negative.Goals as goal

pub returns-in_err-size_of : goal.returns-in_err-size_of
returns-in_err-size_of c = c.from_residual.ensures ∙ no_number_in _ _ (omega arith) c.in_err-size_of.ensures (λ n. neg_ℤ (pos n))

pub returns : goal.returns
returns c =
    negated _ _ c.checked_sub_unsigned.ensures ∙ number_in _ _ (omega arith) _ c.in_ok-size_of.ensures (λ n. neg_ℤ (pos n))
