use Rattle.std.proofs.Common.{◌∙◌, ℕ, Ok, Err}
use Rattle.room_scenario.specs.Laws.Said.{stops}
use Rattle.room_scenario.specs.Laws.Chain.{word_behind, number_view}
use Rattle.room_scenario.specs.Grammar.{number_then}
use Rattle.room_scenario.specs.Fields.{number_or_missing}
use Rattle.room_scenario.proofs.fields.number_at.Goals as goal

pub returns-in_err-number-clause-says : goal.returns-in_err-number-clause-says
returns-in_err-number-clause-says c =
    λ go. stops c.from_residual.result c.from_residual.ensures.1 _
    ∙ word_behind c.next_word.ensures (λ (n : ℕ). n) (number_or_missing c.args.least c.args.most) (number_then c.args.least c.args.most) (number_view c.args.least c.args.most) (Err c.in_err-number.field-0.0) c.in_err-number.ensures.word_says go

pub returns-clause-says : goal.returns-clause-says
returns-clause-says c =
    word_behind c.next_word.ensures (λ (n : ℕ). n) (number_or_missing c.args.least c.args.most) (number_then c.args.least c.args.most) (number_view c.args.least c.args.most) (Ok c.in_ok-number.number) c.in_ok-number.ensures.word_says
