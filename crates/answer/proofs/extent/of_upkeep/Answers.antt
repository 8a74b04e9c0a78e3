-- Part after part.
use Rattle.answer.specs.Inner.Planned.{plan_of}
use Rattle.answer.specs.Laws.Amounts.{both_extend}
use Rattle.answer.proofs.extent.of_upkeep.Goals as goal

pub returns-clause-extends : goal.returns-clause-extends
unfolding plan_of
returns-clause-extends c = λ to h.
    both_extend _ _ c.of_multicast.ensures
    (both_extend _ _ (c.of_pings.ensures.extends c.args.plan.now to h) c.of_reports-reports.ensures c.and-after_multicast.ensures)
    c.and.ensures
