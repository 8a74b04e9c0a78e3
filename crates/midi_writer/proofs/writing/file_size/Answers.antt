-- What was summed and the events of the rest are the whole file; the beat origins of the rest are good where those of all are.
use Rattle.std.proofs.Common.{arith, ◌∙◌}
use Rattle.midi_writer.specs.Laws.Turns.{rest_none, rest_from, summed_first, summed_last, summed_bad, summed_fits, summed_next}
use Rattle.midi_writer.proofs.writing.file_size.Goals as goal

pub loop-change-init : goal.loop-change-init
loop-change-init c = summed_first _ c.requires

pub returns-in_err-delta : goal.returns-in_err-delta
returns-in_err-delta c =
    let i = c.loop-change.change-index in
    c.from_residual.ensures ∙ summed_bad c.loop-change.invariant _ _ (rest_from _ i c.loop-change-test.true) c.in_err-delta.ensures

pub overflow_add-size : goal.overflow_add-size
overflow_add-size c =
    let i = c.loop-change.change-index in
    omega (arith, summed_fits c.loop-change.invariant _ _ (rest_from _ i c.loop-change-test.true) _ _ c.in_ok-delta.ensures c.width.ensures)

pub overflow_add-size-in-loop-change : goal.overflow_add-size-in-loop-change
overflow_add-size-in-loop-change c =
    let i = c.loop-change.change-index in
    omega (arith, summed_fits c.loop-change.invariant _ _ (rest_from _ i c.loop-change-test.true) _ _ c.in_ok-delta.ensures c.width.ensures)

pub loop-change-preserved : goal.loop-change-preserved
loop-change-preserved c =
    let i = c.loop-change.change-index in
    summed_next c.loop-change.invariant _ _ (rest_from _ i c.loop-change-test.true) _ _ c.in_ok-delta.ensures c.width.ensures _ c.micros-origin.ensures

pub returns : goal.returns
returns c = summed_last c.loop-change.invariant (rest_none _ c.loop-change.change-index c.loop-change-test.false)
