use Rattle.std.proofs.Common.{ap, ◌∙◌, cond, Bool, ℕ, List, ◌*◌}
use Rattle.room_scenario.specs.Laws.Said.{stops}
use Rattle.room_scenario.specs.Laws.Lines.{first_end}
use Rattle.room_scenario.specs.Grammar.{Line, fine, faulty, at_end, if_first, end_line}
use Rattle.room_scenario.specs.Fields.{script}
use Rattle.room_scenario.specs.Script.{Script, with_end}
use Rattle.room_scenario.specs.declared.fault.Fault.TheVariants.{SecondEnd}
use Rattle.room_scenario.proofs.statements.end_of_run.Goals as goal

abbrev ended : Script → ℕ → Line
ended k t = if_first k.end (fine (with_end (t * 1000) k))

abbrev after-number : Script → ℕ → List (List ℕ) → Line
after-number k t ws = at_end ws (ended k t)

pub returns-in_err-time : goal.returns-in_err-time
unfolding end_line
returns-in_err-time c = stops c.from_residual.result c.from_residual.ensures.1 _ ∙ c.in_err-time.ensures.says (after-number (script c.args.draft))

pub returns-in_err-at_end : goal.returns-in_err-at_end
unfolding end_line
returns-in_err-at_end c =
    let k = script c.args.draft in
    stops c.from_residual-in_err-at_end.result c.from_residual-in_err-at_end.ensures.1 _
    ∙ c.in_err-at_end.ensures (ended k c.in_ok-time.time)
    ∙ c.in_ok-time.ensures.says (after-number k)

pub returns-then-is_some : goal.returns-then-is_some
unfolding end_line script
returns-then-is_some c =
    let k = script c.args.draft in
    let l = fine (with_end (c.in_ok-time.time * 1000) k) in
    ap (λ (t : Bool). cond t (faulty SecondEnd) l) c.if-is_some.ensures
    ∙ first_end k.end l
    ∙ c.in_ok-at_end.ensures (ended k c.in_ok-time.time)
    ∙ c.in_ok-time.ensures.says (after-number k)

pub returns : goal.returns
unfolding end_line script
returns c =
    let k = script c.args.draft in
    let l = fine (with_end (c.in_ok-time.time * 1000) k) in
    ap (λ (t : Bool). cond t (faulty SecondEnd) l) c.if-is_some.ensures
    ∙ first_end k.end l
    ∙ c.in_ok-at_end.ensures (ended k c.in_ok-time.time)
    ∙ c.in_ok-time.ensures.says (after-number k)
