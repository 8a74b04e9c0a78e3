use Rattle.std.proofs.Common.{sym}
use Rattle.room_scenario.specs.Laws.Said.{compared}
use Rattle.room_scenario.specs.Words.{on_word, off_word, silent_word, heard_word, tempo_word, preview_word}
use Rattle.room_scenario.proofs.verbs.verb_of.Goals as goal

pub returns-then-eq : goal.returns-then-eq
returns-then-eq c =
    let word = c.args.word.now in
    let e1 = compared word on_word c.as_slice.ensures c.if-eq.ensures in
    λ go. sym (rw (← e1))

pub returns-then-eq-2 : goal.returns-then-eq-2
returns-then-eq-2 c =
    let word = c.args.word.now in
    let e1 = compared word on_word c.as_slice.ensures c.if-eq.ensures in
    let e2 = compared word off_word c.as_slice-else-eq.ensures c.if-eq-2.ensures in
    λ go. sym (rw (← e1, ← e2))

pub returns-then-eq-3 : goal.returns-then-eq-3
returns-then-eq-3 c =
    let word = c.args.word.now in
    let e1 = compared word on_word c.as_slice.ensures c.if-eq.ensures in
    let e2 = compared word off_word c.as_slice-else-eq.ensures c.if-eq-2.ensures in
    let e3 = compared word silent_word c.as_slice-else-eq-2.ensures c.if-eq-3.ensures in
    λ go. sym (rw (← e1, ← e2, ← e3))

pub returns-then-eq-4 : goal.returns-then-eq-4
returns-then-eq-4 c =
    let word = c.args.word.now in
    let e1 = compared word on_word c.as_slice.ensures c.if-eq.ensures in
    let e2 = compared word off_word c.as_slice-else-eq.ensures c.if-eq-2.ensures in
    let e3 = compared word silent_word c.as_slice-else-eq-2.ensures c.if-eq-3.ensures in
    let e4 = compared word heard_word c.as_slice-else-eq-3.ensures c.if-eq-4.ensures in
    λ go. sym (rw (← e1, ← e2, ← e3, ← e4))

pub returns-then-eq-5 : goal.returns-then-eq-5
returns-then-eq-5 c =
    let word = c.args.word.now in
    let e1 = compared word on_word c.as_slice.ensures c.if-eq.ensures in
    let e2 = compared word off_word c.as_slice-else-eq.ensures c.if-eq-2.ensures in
    let e3 = compared word silent_word c.as_slice-else-eq-2.ensures c.if-eq-3.ensures in
    let e4 = compared word heard_word c.as_slice-else-eq-3.ensures c.if-eq-4.ensures in
    let e5 = compared word tempo_word c.as_slice-else-eq-4.ensures c.if-eq-5.ensures in
    λ go. sym (rw (← e1, ← e2, ← e3, ← e4, ← e5))

pub returns-then-eq-6 : goal.returns-then-eq-6
returns-then-eq-6 c =
    let word = c.args.word.now in
    let e1 = compared word on_word c.as_slice.ensures c.if-eq.ensures in
    let e2 = compared word off_word c.as_slice-else-eq.ensures c.if-eq-2.ensures in
    let e3 = compared word silent_word c.as_slice-else-eq-2.ensures c.if-eq-3.ensures in
    let e4 = compared word heard_word c.as_slice-else-eq-3.ensures c.if-eq-4.ensures in
    let e5 = compared word tempo_word c.as_slice-else-eq-4.ensures c.if-eq-5.ensures in
    let e6 = compared word preview_word c.as_slice-else-eq-5.ensures c.if-eq-6.ensures in
    λ go. sym (rw (← e1, ← e2, ← e3, ← e4, ← e5, ← e6))

pub returns-else-eq-6 : goal.returns-else-eq-6
returns-else-eq-6 c =
    let word = c.args.word.now in
    let e1 = compared word on_word c.as_slice.ensures c.if-eq.ensures in
    let e2 = compared word off_word c.as_slice-else-eq.ensures c.if-eq-2.ensures in
    let e3 = compared word silent_word c.as_slice-else-eq-2.ensures c.if-eq-3.ensures in
    let e4 = compared word heard_word c.as_slice-else-eq-3.ensures c.if-eq-4.ensures in
    let e5 = compared word tempo_word c.as_slice-else-eq-4.ensures c.if-eq-5.ensures in
    let e6 = compared word preview_word c.as_slice-else-eq-5.ensures c.if-eq-6.ensures in
    λ go. sym (rw (← e1, ← e2, ← e3, ← e4, ← e5, ← e6))
