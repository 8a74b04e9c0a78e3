use Rattle.std.proofs.Common.{rules, refl, sym, ap, ◌∙◌, ℕ, List}
use Rattle.room_scenario.specs.Laws.Said.{stops}
use Rattle.room_scenario.specs.Laws.Chain.{none_left, ports_left}
use Rattle.room_scenario.specs.Grammar.{number_then, ports_then}
use Rattle.room_scenario.specs.Text.{same_word}
use Rattle.room_scenario.proofs.fields.ports_at.Goals as goal

pub returns-then-is_empty : goal.returns-then-is_empty
returns-then-is_empty c =
    let e = none_left c.next_word.ensures (search rules) in
    λ go. ap (λ (ws : List (List ℕ)). go 1 ws) e ∙ sym (ap (λ (ws : List (List ℕ)). ports_then ws go) e)

pub keyword_at-requires : goal.keyword_at-requires
unfolding same_word
keyword_at-requires c = refl

pub returns-in_err-rest : goal.returns-in_err-rest
returns-in_err-rest c =
    λ go. stops c.from_residual.result c.from_residual.ensures.1 _
    ∙ c.in_err-rest.ensures (λ ws. number_then 1 4 ws go)
    ∙ sym (ports_left c.next_word.ensures (search rules) go)

pub returns : goal.returns
returns c =
    λ go. c.number_at.ensures.says go
    ∙ c.in_ok-rest.ensures (λ ws. number_then 1 4 ws go)
    ∙ sym (ports_left c.next_word.ensures (search rules) go)
