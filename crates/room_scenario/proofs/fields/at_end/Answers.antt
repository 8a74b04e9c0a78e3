use Rattle.std.proofs.Common.{rules, sym, ap, ℕ, List}
use Rattle.room_scenario.specs.Laws.Chain.{none_left, word_left}
use Rattle.room_scenario.specs.Grammar.{at_end}
use Rattle.room_scenario.proofs.fields.at_end.Goals as goal

pub returns-then-is_empty : goal.returns-then-is_empty
returns-then-is_empty c = λ l. sym (ap (λ (ws : List (List ℕ)). at_end ws l) (none_left c.next_word.ensures (search rules)))

pub returns-else-is_empty : goal.returns-else-is_empty
returns-else-is_empty c = λ l. sym (word_left c.next_word.ensures (search rules) l)
