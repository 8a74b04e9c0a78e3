-- The zeros that both sizes have stay out of the remainder.
use Rattle.std.proofs.Common.{ℕ, ◌*◌, ◌^◌, ◌∙◌, ap, le_of_lt}
use lib.Ieee.{binary64, round}
use Rattle.float_remainder.proofs.Shifts.{more_zeros, fewer_zeros}
use Rattle.float_remainder.proofs.of_sizes.Goals as goal

pub returns-then-lift-divisor_lift : goal.returns-then-lift-divisor_lift
returns-then-lift-divisor_lift c =
    let a = c.args in
    c.scaled.ensures
    ∙ ap (λ (z : ℕ). round binary64 a.negative (z * 2 ^ a.lift) (2 ^ 1074)) c.by_shifted.ensures
    ∙ ap (λ (z : ℕ). round binary64 a.negative z (2 ^ 1074)) (fewer_zeros a.digits a.lift a.divisor a.divisor_lift c.requires.divisor_not_zero (le_of_lt c.if-lift-divisor_lift.true))

pub returns-else-lift-divisor_lift : goal.returns-else-lift-divisor_lift
returns-else-lift-divisor_lift c =
    let a = c.args in
    c.scaled-else-lift-divisor_lift.ensures
    ∙ ap (λ (z : ℕ). round binary64 a.negative (z * 2 ^ a.divisor_lift) (2 ^ 1074)) c.shifted_by.ensures
    ∙ ap (λ (z : ℕ). round binary64 a.negative z (2 ^ 1074)) (more_zeros a.digits a.lift a.divisor a.divisor_lift c.requires.divisor_not_zero c.if-lift-divisor_lift.false)
