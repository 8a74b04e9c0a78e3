-- Each turn lays one event; the rest, laid behind it, makes the track.
use Rattle.std.proofs.Common.{arith, sym, ◌∙◌}
use Rattle.midi_writer.specs.Laws.Turns.{rest_none, rest_from}
use Rattle.midi_writer.specs.Laws.Laying.{laid_first, laid_last, laid_some, laid_fits, laid_next}
use Rattle.midi_writer.proofs.writing.write_track.Goals as goal

pub loop-change-init : goal.loop-change-init
loop-change-init c = laid_first _ _ c.requires

pub unwrap-delta-requires : goal.unwrap-delta-requires
unwrap-delta-requires c =
    let i = c.loop-change.change-index in
    laid_some c.loop-change.invariant _ _ (rest_from _ i c.loop-change-test.true) _ c.ticks_after.ensures

pub overflow_cast-micros_per_beat : goal.overflow_cast-micros_per_beat
overflow_cast-micros_per_beat c =
    let i = c.loop-change.change-index in
    omega (arith, (laid_fits c.loop-change.invariant _ _ (rest_from _ i c.loop-change-test.true) _ _ (sym c.unwrap-delta.ensures ∙ c.ticks_after.ensures) c.micros_per_beat.ensures).tempo)

pub write_event-at-requires : goal.write_event-at-requires
write_event-at-requires c =
    let i = c.loop-change.change-index in
    let f = laid_fits c.loop-change.invariant _ _ (rest_from _ i c.loop-change-test.true) _ _ (sym c.unwrap-delta.ensures ∙ c.ticks_after.ensures) c.micros_per_beat.ensures in
    record { delta_bound = f.delta; tempo_bound = f.tempo; tempo_in_bounds = f.room }

pub loop-change-preserved : goal.loop-change-preserved
loop-change-preserved c =
    let i = c.loop-change.change-index in
    laid_next c.loop-change.invariant _ _ (rest_from _ i c.loop-change-test.true) _ _ (sym c.unwrap-delta.ensures ∙ c.ticks_after.ensures) c.micros_per_beat.ensures _ _ _ c.micros-forerunner.ensures c.write_event-at.ensures.1 c.write_event-at.ensures.0

pub returns : goal.returns
returns c = c.write.ensures ∙ laid_last c.loop-change.invariant (rest_none _ c.loop-change.change-index c.loop-change-test.false)
