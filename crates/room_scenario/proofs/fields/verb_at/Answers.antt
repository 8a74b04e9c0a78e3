use Rattle.std.proofs.Common.{◌∙◌, Ok, Err}
use Rattle.room_scenario.specs.Laws.Said.{stops}
use Rattle.room_scenario.specs.Laws.Chain.{word_behind, verb_view}
use Rattle.room_scenario.specs.Grammar.{verb_then, verb_word_then}
use Rattle.room_scenario.specs.Inner.Verbs.{verb_of}
use Rattle.room_scenario.proofs.fields.verb_at.Goals as goal

pub returns-in_err-verb : goal.returns-in_err-verb
returns-in_err-verb c =
    λ go. stops c.from_residual.result c.from_residual.ensures.1 _
    ∙ word_behind c.next_word.ensures verb_of verb_word_then verb_then verb_view (Err c.in_err-verb.field-0.0) c.in_err-verb.ensures go

pub returns : goal.returns
returns c = word_behind c.next_word.ensures verb_of verb_word_then verb_then verb_view (Ok c.in_ok-verb.verb) c.in_ok-verb.ensures
