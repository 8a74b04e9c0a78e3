use Rattle.std.proofs.Common.{subst}
use Rattle.text.specs.Placed.{Laid}
use Rattle.text.specs.Laws.Placing.{both}
use Rattle.tempo_text.specs.Laws.Printing.{one_line_more, none_laid}
use Rattle.tempo_text.proofs.put_pairs.Goals as goal

pub loop-change-init : goal.loop-change-init
loop-change-init c = none_laid _

pub loop-change-preserved : goal.loop-change-preserved
loop-change-preserved c =
    subst (λ t. Laid 0 t c.args.s.now c.put_pair-at.result c.put_pair-at.new.s)
    (one_line_more c.args.changes.now c.loop-change.change-index c.loop-change-test.true)
    (both c.loop-change.invariant c.put_pair-at.ensures)
