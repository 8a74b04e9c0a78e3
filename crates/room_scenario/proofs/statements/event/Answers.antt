use Rattle.std.proofs.Common.{rules, sym, ap, ◌∙◌, cond, Bool, ℕ, List, length, Option, ◌*◌, ltb}
use Rattle.room_scenario.specs.Laws.Said.{stops}
use Rattle.room_scenario.specs.Laws.Lines.{known_box, room_left}
use Rattle.room_scenario.specs.Grammar.{Line, Verb, fine, faulty, letter_then, verb_then, at_end, action_then, if_declared, at_line}
use Rattle.room_scenario.specs.Fields.{script, read_then}
use Rattle.room_scenario.specs.Inner.Verbs.{verb_of}
use Rattle.room_scenario.specs.Text.{spaced}
use Rattle.room_scenario.specs.Script.{Script, with_event, number_of_box}
use Rattle.room_scenario.specs.declared.Action.{Action}
use Rattle.room_scenario.specs.declared.fault.Fault.TheVariants.{TooManyEvents}
use Rattle.std.proofs.Common.{◌≡◌, min, length-take, Result}
use Rattle.room_scenario.specs.declared.fault.Fault.{Fault}
use borrow.Author.Tests.{le-leb, lt-leb}
use Rattle.room_scenario.proofs.statements.event.Goals as goal

abbrev taken : Script → ℕ → ℕ → Action → Line
taken k time number action =
    cond (ltb (length k.events) 64) (fine (with_event (record { time = time * 1000; number = number; action = action }) k)) (faulty TooManyEvents)

abbrev after-action : Script → ℕ → ℕ → Action → List (List ℕ) → Line
after-action k time number action ws = at_end ws (taken k time number action)

abbrev if-declared : Script → ℕ → Verb → List (List ℕ) → ℕ → Line
if-declared k time verb ws number = action_then verb ws (after-action k time number)

abbrev after-name : Script → ℕ → Verb → ℕ → List (List ℕ) → Line
after-name k time verb name ws = if_declared (number_of_box name k.boxes) (if-declared k time verb ws)

abbrev after-verb : Script → ℕ → Verb → List (List ℕ) → Line
after-verb k time verb ws = letter_then ws (after-name k time verb)

abbrev after-time : Script → ℕ → List (List ℕ) → Line
after-time k time ws = verb_then ws (after-verb k time)

pub returns-in_err-time : goal.returns-in_err-time
unfolding at_line
returns-in_err-time c =
    let k = script c.args.draft in
    stops c.from_residual.result c.from_residual.ensures.1 _
    ∙ c.in_err-time.ensures.says (after-time k)

pub returns-in_err-verb : goal.returns-in_err-verb
unfolding at_line
returns-in_err-verb c =
    let k = script c.args.draft in
    stops c.from_residual-in_err-verb.result c.from_residual-in_err-verb.ensures.1 _
    ∙ c.in_err-verb.ensures (after-verb k c.in_ok-time.time)
    ∙ c.in_ok-time.ensures.says (after-time k)

pub returns-in_err-name : goal.returns-in_err-name
unfolding at_line
returns-in_err-name c =
    let k = script c.args.draft in
    stops c.from_residual-in_err-name.result c.from_residual-in_err-name.ensures.1 _
    ∙ c.in_err-name.ensures (after-name k c.in_ok-time.time (verb_of c.in_ok-verb.verb))
    ∙ c.in_ok-verb.ensures (after-verb k c.in_ok-time.time)
    ∙ c.in_ok-time.ensures.says (after-time k)

pub returns-in_err-number : goal.returns-in_err-number
unfolding at_line
returns-in_err-number c =
    let k = script c.args.draft in
    let rest = spaced c.in_ok-name.rest.now in
    stops c.from_residual-in_err-number.result c.from_residual-in_err-number.ensures.1 _
    ∙ ap (λ (r : Result ℕ Fault). read_then r (if-declared k c.in_ok-time.time (verb_of c.in_ok-verb.verb) rest)) c.in_err-number.ensures.value
    ∙ known_box c.find_box.result (if-declared k c.in_ok-time.time (verb_of c.in_ok-verb.verb) rest)
    ∙ ap (λ (o : Option ℕ). if_declared o (if-declared k c.in_ok-time.time (verb_of c.in_ok-verb.verb) rest)) c.find_box.ensures
    ∙ c.in_ok-name.ensures (after-name k c.in_ok-time.time (verb_of c.in_ok-verb.verb))
    ∙ c.in_ok-verb.ensures (after-verb k c.in_ok-time.time)
    ∙ c.in_ok-time.ensures.says (after-time k)

pub returns-in_err-action : goal.returns-in_err-action
unfolding at_line
returns-in_err-action c =
    let k = script c.args.draft in
    let rest = spaced c.in_ok-name.rest.now in
    stops c.from_residual-in_err-action.result c.from_residual-in_err-action.ensures.1 _
    ∙ c.in_err-action.ensures (after-action k c.in_ok-time.time c.in_ok-number.number)
    ∙ ap (λ (r : Result ℕ Fault). read_then r (if-declared k c.in_ok-time.time (verb_of c.in_ok-verb.verb) rest)) c.in_ok-number.ensures.value
    ∙ known_box c.find_box.result (if-declared k c.in_ok-time.time (verb_of c.in_ok-verb.verb) rest)
    ∙ ap (λ (o : Option ℕ). if_declared o (if-declared k c.in_ok-time.time (verb_of c.in_ok-verb.verb) rest)) c.find_box.ensures
    ∙ c.in_ok-name.ensures (after-name k c.in_ok-time.time (verb_of c.in_ok-verb.verb))
    ∙ c.in_ok-verb.ensures (after-verb k c.in_ok-time.time)
    ∙ c.in_ok-time.ensures.says (after-time k)

pub returns-in_err-at_end : goal.returns-in_err-at_end
unfolding at_line
returns-in_err-at_end c =
    let k = script c.args.draft in
    let rest = spaced c.in_ok-name.rest.now in
    stops c.from_residual-in_err-at_end.result c.from_residual-in_err-at_end.ensures.1 _
    ∙ c.in_err-at_end.ensures (taken k c.in_ok-time.time c.in_ok-number.number c.in_ok-action.action)
    ∙ c.in_ok-action.ensures (after-action k c.in_ok-time.time c.in_ok-number.number)
    ∙ ap (λ (r : Result ℕ Fault). read_then r (if-declared k c.in_ok-time.time (verb_of c.in_ok-verb.verb) rest)) c.in_ok-number.ensures.value
    ∙ known_box c.find_box.result (if-declared k c.in_ok-time.time (verb_of c.in_ok-verb.verb) rest)
    ∙ ap (λ (o : Option ℕ). if_declared o (if-declared k c.in_ok-time.time (verb_of c.in_ok-verb.verb) rest)) c.find_box.ensures
    ∙ c.in_ok-name.ensures (after-name k c.in_ok-time.time (verb_of c.in_ok-verb.verb))
    ∙ c.in_ok-verb.ensures (after-verb k c.in_ok-time.time)
    ∙ c.in_ok-time.ensures.says (after-time k)

pub returns-then-draft-ge-MOST_EVENTS : goal.returns-then-draft-ge-MOST_EVENTS
unfolding at_line script
returns-then-draft-ge-MOST_EVENTS c =
    let k = script c.args.draft in
    let l = fine (with_event (record { time = c.in_ok-time.time * 1000; number = c.in_ok-number.number; action = c.in_ok-action.action }) k) in
    let held : length k.events ≡ min c.args.draft.event_count 64 = length-take c.args.draft.event_count c.args.draft.events ∙ search rules in
    let rest = spaced c.in_ok-name.rest.now in
    ap (λ (t : Bool). cond t (faulty TooManyEvents) l) (sym (le-leb 64 c.args.draft.event_count c.if-draft-ge-MOST_EVENTS.true))
    ∙ room_left c.args.draft.event_count (length k.events) l held
    ∙ c.in_ok-at_end.ensures (taken k c.in_ok-time.time c.in_ok-number.number c.in_ok-action.action)
    ∙ c.in_ok-action.ensures (after-action k c.in_ok-time.time c.in_ok-number.number)
    ∙ ap (λ (r : Result ℕ Fault). read_then r (if-declared k c.in_ok-time.time (verb_of c.in_ok-verb.verb) rest)) c.in_ok-number.ensures.value
    ∙ known_box c.find_box.result (if-declared k c.in_ok-time.time (verb_of c.in_ok-verb.verb) rest)
    ∙ ap (λ (o : Option ℕ). if_declared o (if-declared k c.in_ok-time.time (verb_of c.in_ok-verb.verb) rest)) c.find_box.ensures
    ∙ c.in_ok-name.ensures (after-name k c.in_ok-time.time (verb_of c.in_ok-verb.verb))
    ∙ c.in_ok-verb.ensures (after-verb k c.in_ok-time.time)
    ∙ c.in_ok-time.ensures.says (after-time k)

pub returns : goal.returns
unfolding at_line script
returns c =
    let k = script c.args.draft in
    let l = fine (with_event (record { time = c.in_ok-time.time * 1000; number = c.in_ok-number.number; action = c.in_ok-action.action }) k) in
    let held : length k.events ≡ min c.args.draft.event_count 64 = length-take c.args.draft.event_count c.args.draft.events ∙ search rules in
    let rest = spaced c.in_ok-name.rest.now in
    ap fine (c.with_event.ensures c.if-draft-ge-MOST_EVENTS.false)
    ∙ ap (λ (t : Bool). cond t (faulty TooManyEvents) l) (sym (lt-leb _ _ c.if-draft-ge-MOST_EVENTS.false))
    ∙ room_left c.args.draft.event_count (length k.events) l held
    ∙ c.in_ok-at_end.ensures (taken k c.in_ok-time.time c.in_ok-number.number c.in_ok-action.action)
    ∙ c.in_ok-action.ensures (after-action k c.in_ok-time.time c.in_ok-number.number)
    ∙ ap (λ (r : Result ℕ Fault). read_then r (if-declared k c.in_ok-time.time (verb_of c.in_ok-verb.verb) rest)) c.in_ok-number.ensures.value
    ∙ known_box c.find_box.result (if-declared k c.in_ok-time.time (verb_of c.in_ok-verb.verb) rest)
    ∙ ap (λ (o : Option ℕ). if_declared o (if-declared k c.in_ok-time.time (verb_of c.in_ok-verb.verb) rest)) c.find_box.ensures
    ∙ c.in_ok-name.ensures (after-name k c.in_ok-time.time (verb_of c.in_ok-verb.verb))
    ∙ c.in_ok-verb.ensures (after-verb k c.in_ok-time.time)
    ∙ c.in_ok-time.ensures.says (after-time k)
