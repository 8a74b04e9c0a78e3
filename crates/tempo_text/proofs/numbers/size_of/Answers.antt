-- The digits that were read say n, and with those that are left the word's value.
use Rattle.std.proofs.Common.{◌<◌, length, arith, sym, ◌∙◌, eqb-true}
use Rattle.std.proofs.lemmas.Bool.{eqb-false}
use Rattle.tempo_text.specs.Laws.Sizes.{empty_none, other_none, read_first, read_last, read_over, read_next, rest_none, rest_from}
use Rattle.tempo_text.proofs.numbers.size_of.Goals as goal
use Rattle.tempo_text.proofs.numbers.size_of.Goals.{then-is_empty-via-then-is_empty, then-is_empty-via-else-is_empty+then-not-are_digits}

pub returns-then-is_empty : goal.returns-then-is_empty
returns-then-is_empty c =
    let word = c.args.word.now in
    elim c.then-is_empty.branch [
      | then-is_empty-via-then-is_empty w ↦ empty_none word (eqb-true (length word) 0 (sym c.is_empty.ensures ∙ w.if-is_empty.true))
      | then-is_empty-via-else-is_empty+then-not-are_digits w ↦ other_none word (sym w.are_digits.ensures ∙ w.if-not-are_digits.true)
    ]

pub loop-digit-init : goal.loop-digit-init
loop-digit-init c =
    let word = c.args.word.now in
    let some : 0 < length word = omega (arith, eqb-false (length word) 0 (sym c.is_empty.ensures ∙ c.if-is_empty.false)) in
    read_first word some (sym c.are_digits.ensures ∙ c.if-not-are_digits.false)

pub returns-in_err-checked_mul : goal.returns-in_err-checked_mul
returns-in_err-checked_mul c =
    c.from_residual.ensures ∙ read_over c.loop-digit.invariant _ _ (rest_from _ _ c.loop-digit-test.true) (omega (arith, c.in_err-checked_mul.ensures))

pub returns-in_err-n : goal.returns-in_err-n
returns-in_err-n c =
    c.from_residual-in_err-n.ensures ∙ read_over c.loop-digit.invariant _ _ (rest_from _ _ c.loop-digit-test.true) (omega (arith, c.in_ok-checked_mul.ensures, c.in_err-n.ensures, c.digit_value.ensures))

pub loop-digit-preserved : goal.loop-digit-preserved
loop-digit-preserved c =
    read_next c.loop-digit.invariant _ _ (rest_from _ _ c.loop-digit-test.true) _ (omega (arith, c.in_ok-checked_mul.ensures, c.in_ok-n.ensures, c.digit_value.ensures)) (omega (arith, c.in_ok-n.ensures))

pub returns : goal.returns
returns c = read_last c.loop-digit.invariant (rest_none _ c.loop-digit.digit-index c.loop-digit-test.false)
