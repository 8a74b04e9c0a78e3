use Rattle.std.proofs.Common.{arith, sym}
use Rattle.tempo_text.specs.Laws.Going.{going_first, going_end, going_within, going_bad, going_next}
use Rattle.tempo_text.proofs.lists.read_lines.Goals as goal

pub loop-at-init : goal.loop-at-init
loop-at-init c = going_first _ _ c.no_pairs-list.ensures

pub slice_bounds-pair_of-end : goal.slice_bounds-pair_of-end
slice_bounds-pair_of-end c =
    omega (arith, going_within c.loop-at.invariant c.loop-at-test.true c.find-end.result c.find-end.ensures)

pub returns-in_default : goal.returns-in_default
returns-in_default c =
    going_bad c.loop-at.invariant c.loop-at-test.true c.find-end.result c.find-end.ensures (sym c.in_default.ensures)

pub loop-at-preserved : goal.loop-at-preserved
loop-at-preserved c =
    going_next c.loop-at.invariant c.loop-at-test.true c.find-end.result c.find-end.ensures _ (sym c.in-Some.ensures) _ c.with_pair-list.ensures

pub returns : goal.returns
returns c = going_end c.loop-at.invariant c.loop-at-test.false
