use Rattle.std.proofs.Common.{rules, arith, sym, ap, ◌∙◌, refl, ℕ, List, length}
use Rattle.room_scenario.specs.Laws.Said.{compared}
use Rattle.room_scenario.specs.Laws.Chain.{none_left, word_there}
use Rattle.room_scenario.specs.Laws.Lines.{begun_with}
use Rattle.room_scenario.specs.Grammar.{Line, Verb, fine, faulty, number_then, letter_then, verb_then, keyword_then, at_end, ports_then, action_then, if_new, if_declared, if_first, delay_line, box_line, at_line, end_line}
use Rattle.room_scenario.specs.Fields.{script}
use Rattle.room_scenario.specs.Text.{spaced}
use Rattle.std.proofs.Common.{◌≡◌, ◌+◌, take}
use Rattle.text.specs.Lines.{before}
use Rattle.text.specs.Laws.Pieces.{take-before, before_within}
use Rattle.room_scenario.specs.Words.{delay_word, box_word, at_word, end_word}
use Rattle.room_scenario.specs.Grammar as grammar
use Rattle.room_scenario.proofs.statements.statement.Goals as goal

-- what is said of the line is what stands before a comment
cut_off : (line said : List ℕ) (end : ℕ) → end ≡ 0 + length (before 35 line) → said ≡ take end line → said ≡ before 35 line
cut_off line said end e f =
    let n : end ≡ length (before 35 line) = omega arith in
    f ∙ ap (λ (k : ℕ). take k line) n ∙ take-before 35 line

pub split_at-requires : goal.split_at-requires
split_at-requires c = omega (arith, before_within 35 c.args.line.now, c.find.ensures)

pub returns-then-is_empty : goal.returns-then-is_empty
unfolding grammar.statement
returns-then-is_empty c =
    let none = none_left c.next_word.ensures (search rules) in
    sym (ap (grammar.statement (script c.args.draft)) (ap spaced (sym (cut_off c.args.line.now _ _ c.find.ensures c.split_at.ensures.front)) ∙ none))

pub returns-then-eq : goal.returns-then-eq
returns-then-eq c =
    let k = script c.args.draft in
    let word = c.next_word.result.0.now in
    c.delay.ensures
    ∙ sym (begun_with k word (spaced c.next_word.result.1.now) (sym (compared word delay_word c.as_slice.ensures c.if-eq.ensures)) refl refl refl)
    ∙ ap (grammar.statement k) (word_there c.next_word.ensures (search rules) ∙ ap spaced (cut_off c.args.line.now _ _ c.find.ensures c.split_at.ensures.front))

pub returns-then-eq-2 : goal.returns-then-eq-2
returns-then-eq-2 c =
    let k = script c.args.draft in
    let word = c.next_word.result.0.now in
    c.declaration.ensures
    ∙ sym (begun_with k word (spaced c.next_word.result.1.now) (sym (compared word delay_word c.as_slice.ensures c.if-eq.ensures)) (sym (compared word box_word c.as_slice-else-eq.ensures c.if-eq-2.ensures)) refl refl)
    ∙ ap (grammar.statement k) (word_there c.next_word.ensures (search rules) ∙ ap spaced (cut_off c.args.line.now _ _ c.find.ensures c.split_at.ensures.front))

pub returns-then-eq-3 : goal.returns-then-eq-3
returns-then-eq-3 c =
    let k = script c.args.draft in
    let word = c.next_word.result.0.now in
    c.event.ensures
    ∙ sym (begun_with k word (spaced c.next_word.result.1.now) (sym (compared word delay_word c.as_slice.ensures c.if-eq.ensures)) (sym (compared word box_word c.as_slice-else-eq.ensures c.if-eq-2.ensures)) (sym (compared word at_word c.as_slice-else-eq-2.ensures c.if-eq-3.ensures)) refl)
    ∙ ap (grammar.statement k) (word_there c.next_word.ensures (search rules) ∙ ap spaced (cut_off c.args.line.now _ _ c.find.ensures c.split_at.ensures.front))

pub returns-then-eq-4 : goal.returns-then-eq-4
returns-then-eq-4 c =
    let k = script c.args.draft in
    let word = c.next_word.result.0.now in
    c.end_of_run.ensures
    ∙ sym (begun_with k word (spaced c.next_word.result.1.now) (sym (compared word delay_word c.as_slice.ensures c.if-eq.ensures)) (sym (compared word box_word c.as_slice-else-eq.ensures c.if-eq-2.ensures)) (sym (compared word at_word c.as_slice-else-eq-2.ensures c.if-eq-3.ensures)) (sym (compared word end_word c.as_slice-else-eq-3.ensures c.if-eq-4.ensures)))
    ∙ ap (grammar.statement k) (word_there c.next_word.ensures (search rules) ∙ ap spaced (cut_off c.args.line.now _ _ c.find.ensures c.split_at.ensures.front))

pub returns-else-eq-4 : goal.returns-else-eq-4
returns-else-eq-4 c =
    let k = script c.args.draft in
    let word = c.next_word.result.0.now in
    sym (begun_with k word (spaced c.next_word.result.1.now) (sym (compared word delay_word c.as_slice.ensures c.if-eq.ensures)) (sym (compared word box_word c.as_slice-else-eq.ensures c.if-eq-2.ensures)) (sym (compared word at_word c.as_slice-else-eq-2.ensures c.if-eq-3.ensures)) (sym (compared word end_word c.as_slice-else-eq-3.ensures c.if-eq-4.ensures)))
    ∙ ap (grammar.statement k) (word_there c.next_word.ensures (search rules) ∙ ap spaced (cut_off c.args.line.now _ _ c.find.ensures c.split_at.ensures.front))
