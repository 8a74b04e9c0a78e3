use Rattle.std.proofs.Common.{refl, true, false, ℕ, Ok, Err}
use Rattle.room_scenario.specs.declared.fault.Fault.TheVariants.{UnknownStatement}
use Rattle.room_scenario.specs.Laws.Said.{compared}
use Rattle.room_scenario.specs.Laws.Chain.{word_behind, keyword_view, keyword_said, keyword_word}
use Rattle.room_scenario.specs.Grammar.{keyword_then}
use Rattle.room_scenario.proofs.fields.keyword_at.Goals as goal

pub returns-then-eq : goal.returns-then-eq
returns-then-eq c =
    let keyword = c.args.keyword.now in
    let word = c.next_word.result.0.now in
    λ go. word_behind c.next_word.ensures (λ (n : ℕ). n) (keyword_word keyword) (λ ws next. keyword_then keyword ws (next 0)) (keyword_view keyword c.requires) (Ok 0) (keyword_said keyword word true (Ok 0) (compared word keyword refl c.if-eq.ensures) refl) (λ _ ws. go ws)

pub returns-else-eq : goal.returns-else-eq
returns-else-eq c =
    let keyword = c.args.keyword.now in
    let word = c.next_word.result.0.now in
    λ go. word_behind c.next_word.ensures (λ (n : ℕ). n) (keyword_word keyword) (λ ws next. keyword_then keyword ws (next 0)) (keyword_view keyword c.requires) (Err UnknownStatement) (keyword_said keyword word false (Err UnknownStatement) (compared word keyword refl c.if-eq.ensures) refl) (λ _ ws. go ws)
