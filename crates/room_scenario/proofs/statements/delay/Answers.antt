use Rattle.std.proofs.Common.{◌∙◌, ℕ, List}
use Rattle.room_scenario.specs.Laws.Said.{stops}
use Rattle.room_scenario.specs.Grammar.{Line, fine, at_end, delay_line}
use Rattle.room_scenario.specs.Fields.{script}
use Rattle.room_scenario.specs.Script.{Script, with_delay}
use Rattle.room_scenario.proofs.statements.delay.Goals as goal

abbrev after-number : Script → ℕ → List (List ℕ) → Line
after-number k n ws = at_end ws (fine (with_delay n k))

pub returns-in_err-delay : goal.returns-in_err-delay
unfolding delay_line
returns-in_err-delay c = stops c.from_residual.result c.from_residual.ensures.1 _ ∙ c.in_err-delay.ensures.says (after-number (script c.args.draft))

pub returns-in_err-at_end : goal.returns-in_err-at_end
unfolding delay_line
returns-in_err-at_end c =
    let k = script c.args.draft in
    stops c.from_residual-in_err-at_end.result c.from_residual-in_err-at_end.ensures.1 _
    ∙ c.in_err-at_end.ensures (fine (with_delay c.in_ok-delay.delay k))
    ∙ c.in_ok-delay.ensures.says (after-number k)

pub returns : goal.returns
unfolding delay_line script
returns c =
    let k = script c.args.draft in
    c.in_ok-at_end.ensures (fine (with_delay c.in_ok-delay.delay k)) ∙ c.in_ok-delay.ensures.says (after-number k)
