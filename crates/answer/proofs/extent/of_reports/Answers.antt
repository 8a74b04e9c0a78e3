-- Report after report.
use Rattle.answer.specs.Laws.Amounts.{both_extend}
use Rattle.answer.proofs.extent.of_reports.Goals as goal

pub returns : goal.returns
returns c =
    let echo = c.args.echo.now in
    both_extend _ _ (rw (c.of_state.ensures echo) at c.of_single-state.ensures)
    (both_extend _ _ (rw (c.of_timer.ensures echo) at c.of_single-time.ensures) (rw (c.of_count.ensures echo) at c.of_single-number.ensures) c.and.ensures)
    c.and-2.ensures
