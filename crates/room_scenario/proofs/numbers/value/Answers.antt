use Rattle.std.proofs.Common.{arith, ◌∙◌, ◌≤◌, ◌+◌, ◌*◌, ℕ, sym, ap, drop, get_or}
use Rattle.text.specs.Digits.{followed}
use Rattle.text.specs.Laws.Digits.{digit_to, first_digit, later_digits, followed_at, followed_end}
use Rattle.room_scenario.proofs.Digits.{below_most, one_more}
use Rattle.room_scenario.proofs.numbers.value.Goals as goal

pub overflow_mul-number : goal.overflow_mul-number
overflow_mul-number c = omega (arith, below_most c.loop-byte.number c.loop-byte.byte-index c.loop-byte.invariant.0 (omega arith))

pub overflow_add-number : goal.overflow_add-number
overflow_add-number c =
    let small : get_or c.args.word.now c.loop-byte.byte-index 0 ≤ 57 = digit_to _ (first_digit _ _ c.loop-byte-test.true c.loop-byte.invariant.1) in
    omega (arith, below_most c.loop-byte.number c.loop-byte.byte-index c.loop-byte.invariant.0 (omega arith))

pub loop-byte-preserved : goal.loop-byte-preserved
loop-byte-preserved c =
    let h = c.loop-byte-test.true in
    let small : get_or c.args.word.now c.loop-byte.byte-index 0 ≤ 57 = digit_to _ (first_digit _ _ h c.loop-byte.invariant.1) in (
      one_more c.loop-byte.number c.loop-byte.byte-index c.digit_value.result c.loop-byte.invariant.0 (omega arith),
      later_digits _ _ h c.loop-byte.invariant.1,
      ap (λ (d : ℕ). followed (c.loop-byte.number * 10 + d) (drop (c.loop-byte.byte-index + 1) c.args.word.now)) c.digit_value.ensures
          ∙ sym (followed_at _ _ h c.loop-byte.number)
          ∙ c.loop-byte.invariant.2,
    )

pub returns : goal.returns
returns c = sym (followed_end _ _ _ c.loop-byte-test.false) ∙ c.loop-byte.invariant.2
