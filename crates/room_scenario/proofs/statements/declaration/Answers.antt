use Rattle.std.proofs.Common.{ap, ◌∙◌, refl, cond, Bool, ℕ, List, Option}
use Rattle.room_scenario.specs.Laws.Said.{stops}
use Rattle.room_scenario.specs.Laws.Lines.{new_box}
use Rattle.room_scenario.specs.Grammar.{Line, fine, faulty, number_then, keyword_then, at_end, ports_then, if_new, box_line}
use Rattle.room_scenario.specs.Fields.{script}
use Rattle.room_scenario.specs.Text.{same_word, spaced}
use Rattle.room_scenario.specs.Words.{shift_word}
use Rattle.room_scenario.specs.Script.{Script, with_box, number_of_box}
use Rattle.room_scenario.specs.declared.fault.Fault.TheVariants.{BoxThereAlready}
use Rattle.room_scenario.proofs.statements.declaration.Goals as goal

abbrev declared : Script → ℕ → ℕ → ℕ → Line
declared k name shift ports = fine (with_box (record { name = name; shift = shift; ports = ports }) k)

abbrev after-ports : Script → ℕ → ℕ → ℕ → List (List ℕ) → Line
after-ports k name shift ports ws = at_end ws (declared k name shift ports)

abbrev after-shift : Script → ℕ → ℕ → List (List ℕ) → Line
after-shift k name shift ws = ports_then ws (after-ports k name shift)

abbrev after-keyword : Script → ℕ → List (List ℕ) → Line
after-keyword k name ws = number_then 0 100_000_000_000_000 ws (after-shift k name)

abbrev if-new : Script → ℕ → List (List ℕ) → Line
if-new k name ws = keyword_then shift_word ws (after-keyword k name)

abbrev after-name : Script → ℕ → List (List ℕ) → Line
after-name k name ws = if_new (number_of_box name k.boxes) (if-new k name ws)

pub returns-in_err-name : goal.returns-in_err-name
unfolding box_line
returns-in_err-name c = stops c.from_residual.result c.from_residual.ensures.1 _ ∙ c.in_err-name.ensures (after-name (script c.args.draft))

pub returns-then-is_some : goal.returns-then-is_some
unfolding box_line
returns-then-is_some c =
    let k = script c.args.draft in
    let rest = spaced c.in_ok-name.rest.now in
    ap (λ (t : Bool). cond t (faulty BoxThereAlready) (if-new k c.in_ok-name.name rest)) c.if-is_some.ensures
    ∙ new_box c.find_box.result (if-new k c.in_ok-name.name rest)
    ∙ ap (λ (o : Option ℕ). if_new o (if-new k c.in_ok-name.name rest)) c.find_box.ensures
    ∙ c.in_ok-name.ensures (after-name k)

pub keyword_at-requires : goal.keyword_at-requires
unfolding same_word
keyword_at-requires c = refl

pub returns-in_err-rest : goal.returns-in_err-rest
unfolding box_line
returns-in_err-rest c =
    let k = script c.args.draft in
    let rest = spaced c.in_ok-name.rest.now in
    stops c.from_residual-in_err-rest.result c.from_residual-in_err-rest.ensures.1 _
    ∙ c.in_err-rest.ensures (after-keyword k c.in_ok-name.name)
    ∙ ap (λ (t : Bool). cond t (faulty BoxThereAlready) (if-new k c.in_ok-name.name rest)) c.if-is_some.ensures
    ∙ new_box c.find_box.result (if-new k c.in_ok-name.name rest)
    ∙ ap (λ (o : Option ℕ). if_new o (if-new k c.in_ok-name.name rest)) c.find_box.ensures
    ∙ c.in_ok-name.ensures (after-name k)

pub returns-in_err-shift : goal.returns-in_err-shift
unfolding box_line
returns-in_err-shift c =
    let k = script c.args.draft in
    let rest = spaced c.in_ok-name.rest.now in
    stops c.from_residual-in_err-shift.result c.from_residual-in_err-shift.ensures.1 _
    ∙ c.in_err-shift.ensures.says (after-shift k c.in_ok-name.name)
    ∙ c.in_ok-rest.ensures (after-keyword k c.in_ok-name.name)
    ∙ ap (λ (t : Bool). cond t (faulty BoxThereAlready) (if-new k c.in_ok-name.name rest)) c.if-is_some.ensures
    ∙ new_box c.find_box.result (if-new k c.in_ok-name.name rest)
    ∙ ap (λ (o : Option ℕ). if_new o (if-new k c.in_ok-name.name rest)) c.find_box.ensures
    ∙ c.in_ok-name.ensures (after-name k)

pub returns-in_err-ports : goal.returns-in_err-ports
unfolding box_line
returns-in_err-ports c =
    let k = script c.args.draft in
    let rest = spaced c.in_ok-name.rest.now in
    stops c.from_residual-in_err-ports.result c.from_residual-in_err-ports.ensures.1 _
    ∙ c.in_err-ports.ensures (after-ports k c.in_ok-name.name c.in_ok-shift.shift)
    ∙ c.in_ok-shift.ensures.says (after-shift k c.in_ok-name.name)
    ∙ c.in_ok-rest.ensures (after-keyword k c.in_ok-name.name)
    ∙ ap (λ (t : Bool). cond t (faulty BoxThereAlready) (if-new k c.in_ok-name.name rest)) c.if-is_some.ensures
    ∙ new_box c.find_box.result (if-new k c.in_ok-name.name rest)
    ∙ ap (λ (o : Option ℕ). if_new o (if-new k c.in_ok-name.name rest)) c.find_box.ensures
    ∙ c.in_ok-name.ensures (after-name k)

pub returns-in_err-at_end : goal.returns-in_err-at_end
unfolding box_line
returns-in_err-at_end c =
    let k = script c.args.draft in
    let rest = spaced c.in_ok-name.rest.now in
    stops c.from_residual-in_err-at_end.result c.from_residual-in_err-at_end.ensures.1 _
    ∙ c.in_err-at_end.ensures (declared k c.in_ok-name.name c.in_ok-shift.shift c.in_ok-ports.ports)
    ∙ c.in_ok-ports.ensures (after-ports k c.in_ok-name.name c.in_ok-shift.shift)
    ∙ c.in_ok-shift.ensures.says (after-shift k c.in_ok-name.name)
    ∙ c.in_ok-rest.ensures (after-keyword k c.in_ok-name.name)
    ∙ ap (λ (t : Bool). cond t (faulty BoxThereAlready) (if-new k c.in_ok-name.name rest)) c.if-is_some.ensures
    ∙ new_box c.find_box.result (if-new k c.in_ok-name.name rest)
    ∙ ap (λ (o : Option ℕ). if_new o (if-new k c.in_ok-name.name rest)) c.find_box.ensures
    ∙ c.in_ok-name.ensures (after-name k)

pub returns : goal.returns
unfolding box_line
returns c =
    let k = script c.args.draft in
    let rest = spaced c.in_ok-name.rest.now in
    ap fine c.with_box.ensures
    ∙ c.in_ok-at_end.ensures (declared k c.in_ok-name.name c.in_ok-shift.shift c.in_ok-ports.ports)
    ∙ c.in_ok-ports.ensures (after-ports k c.in_ok-name.name c.in_ok-shift.shift)
    ∙ c.in_ok-shift.ensures.says (after-shift k c.in_ok-name.name)
    ∙ c.in_ok-rest.ensures (after-keyword k c.in_ok-name.name)
    ∙ ap (λ (t : Bool). cond t (faulty BoxThereAlready) (if-new k c.in_ok-name.name rest)) c.if-is_some.ensures
    ∙ new_box c.find_box.result (if-new k c.in_ok-name.name rest)
    ∙ ap (λ (o : Option ℕ). if_new o (if-new k c.in_ok-name.name rest)) c.find_box.ensures
    ∙ c.in_ok-name.ensures (after-name k)
