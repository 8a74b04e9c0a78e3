use Rattle.std.proofs.Common.{arith, ◌∙◌, ◌≤◌, length, refl, Ok, Err}
use Rattle.room_scenario.specs.Fields.{script}
use Rattle.room_scenario.specs.Laws.Lines.{line_within, stopped, went_on, ended}
use Rattle.room_scenario.proofs.read.Goals as goal

pub returns : goal.returns
returns c =
    c.finished.ensures ∙ ended c.loop-at.line (script c.loop-at.draft) c.args.text.now c.loop-at.at c.loop-at-test.false ∙ c.loop-at.invariant.2

pub slice_bounds-statement-end : goal.slice_bounds-statement-end
slice_bounds-statement-end c =
    let end : c.find-end.result ≤ length c.args.text.now = line_within c.args.text.now c.loop-at.line c.loop-at.at c.find-end.result (script c.loop-at.draft) c.loop-at-test.true c.find-end.ensures in
    omega arith

pub returns-in-Err : goal.returns-in-Err
returns-in-Err c =
    let text = c.args.text.now in
    stopped text c.loop-at.line c.loop-at.at c.find-end.result (script c.loop-at.draft) c.loop-at-test.true c.find-end.ensures (Err c.in-Err.fault) c.in-Err.ensures c.in-Err.fault refl
    ∙ c.loop-at.invariant.2

pub loop-at-preserved : goal.loop-at-preserved
loop-at-preserved c =
    let text = c.args.text.now in
    let end : c.find-end.result ≤ length text = line_within text c.loop-at.line c.loop-at.at c.find-end.result (script c.loop-at.draft) c.loop-at-test.true c.find-end.ensures in (
      omega arith,
      omega arith,
      went_on text c.loop-at.line c.loop-at.at c.find-end.result (script c.loop-at.draft) c.loop-at-test.true c.find-end.ensures (Ok c.in-Ok.longer) c.in-Ok.ensures c.in-Ok.longer refl
          ∙ c.loop-at.invariant.2,
    )
