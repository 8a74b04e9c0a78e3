-- Part after part.
use Rattle.answer.specs.Inner.Planned.{call_of}
use Rattle.answer.specs.Laws.Amounts.{both_extend}
use Rattle.answer.proofs.extent.of_outputs.Goals as goal

pub returns-clause-extends : goal.returns-clause-extends
unfolding call_of
returns-clause-extends c =
    let echo = c.args.echo.now in
    λ to h.
    both_extend _ _ (rw (c.of_reply.ensures echo) at c.of_single-first.ensures)
    (both_extend _ _ (rw (c.of_state.ensures echo) at c.of_single-second.ensures) (c.of_upkeep.ensures.extends to h) c.and.ensures)
    c.and-2.ensures
