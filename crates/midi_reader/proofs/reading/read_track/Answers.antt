use Rattle.std.proofs.Common.{arith, sym, ◌∙◌}
use Rattle.midi_reader.specs.Laws.Track.{progress_first, progress_end, progress_other, progress_full, progress_within, progress_shorter, progress_next}
use Rattle.midi_reader.proofs.reading.read_track.Goals as goal

pub loop-rest-init : goal.loop-rest-init
loop-rest-init c = progress_first _ _ c.no_pairs-list.ensures

pub returns-in_default : goal.returns-in_default
returns-in_default c = progress_other c.loop-rest.invariant (sym c.is_end.ensures ∙ c.loop-rest-test.true) c.in_default.ensures

pub returns-then-is_full : goal.returns-then-is_full
returns-then-is_full c = progress_full c.loop-rest.invariant (sym c.is_end.ensures ∙ c.loop-rest-test.true) c.if-is_full.true

pub slice_bounds-rest-count-in-loop-rest : goal.slice_bounds-rest-count-in-loop-rest
slice_bounds-rest-count-in-loop-rest c = progress_within c.loop-rest.invariant _ c.in-Some.ensures

pub loop-rest-preserved : goal.loop-rest-preserved
loop-rest-preserved c =
    progress_next c.loop-rest.invariant _ c.in-Some.ensures (sym c.is_end.ensures ∙ c.loop-rest-test.true) _ c.from-tick.ensures _ c.at_tick.ensures c.if-is_full.false (omega arith)

pub loop-rest-smaller : goal.loop-rest-smaller
loop-rest-smaller c = progress_shorter c.loop-rest.invariant _ c.in-Some.ensures

pub returns : goal.returns
returns c = progress_end c.loop-rest.invariant (sym c.is_end.ensures ∙ c.loop-rest-test.false)

pub slice_bounds-rest-start-in-loop-rest : goal.slice_bounds-rest-start-in-loop-rest
slice_bounds-rest-start-in-loop-rest c = omega (arith, progress_within c.loop-rest.invariant _ c.in-Some.ensures)
