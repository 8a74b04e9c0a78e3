-- By the first byte.
use Rattle.std.proofs.Common.{arith, sym, ap, ◌∙◌, cond, pos, neg_ℤ, Some, None, get_or, eqb-true}
use Rattle.std.proofs.lemmas.Bool.{eqb-false}
use Rattle.text.specs.Digits.{value}
use Rattle.tempo_text.specs.Answer.{is_size}
use Rattle.tempo_text.specs.Laws.Words.{first_is, with_sign, without_sign}
use Rattle.tempo_text.proofs.numbers.number_of.Goals as goal

pub returns-in-None : goal.returns-in-None
returns-in-None c =
    let word = c.args.word.now in
    c.nonnegative.ensures ∙ sym (without_sign word (eqb-false (get_or word 0 0) 45 (sym (first_is 45 word (omega arith)) ∙ c.in-None.ensures.cases)))

pub returns-in-Some : goal.returns-in-Some
returns-in-Some c =
    let word = c.args.word.now in
    c.negative.ensures
    ∙ ap (λ l. cond (is_size 9223372036854775808 l) (Some (neg_ℤ (pos (value l)))) None) c.in-Some.ensures.cases.1
    ∙ sym (with_sign word (eqb-true (get_or word 0 0) 45 (sym (first_is 45 word (omega arith)) ∙ c.in-Some.ensures.cases.0)))
