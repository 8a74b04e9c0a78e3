use Rattle.std.proofs.Common.{◌∙◌, ℕ, Ok, Err}
use Rattle.room_scenario.specs.Laws.Said.{stops}
use Rattle.room_scenario.specs.Laws.Chain.{word_behind, letter_view}
use Rattle.room_scenario.specs.Grammar.{letter_then}
use Rattle.room_scenario.specs.Fields.{letter_or_missing}
use Rattle.room_scenario.proofs.fields.letter_at.Goals as goal

pub returns-in_err-name : goal.returns-in_err-name
returns-in_err-name c =
    λ go. stops c.from_residual.result c.from_residual.ensures.1 _
    ∙ word_behind c.next_word.ensures (λ (n : ℕ). n) letter_or_missing letter_then letter_view (Err c.in_err-name.field-0.0) c.in_err-name.ensures go

pub returns : goal.returns
returns c = word_behind c.next_word.ensures (λ (n : ℕ). n) letter_or_missing letter_then letter_view (Ok c.in_ok-name.name) c.in_ok-name.ensures
