use Rattle.std.proofs.Common.{arith, ◌≡◌, ◌∙◌, ap, sym, drop, length, take, ℕ}
use Rattle.text.specs.Lines.{before}
use Rattle.text.specs.Laws.Pieces.{take-before, before_within}
use Rattle.room_scenario.specs.Laws.Spaced.{next_word, spaces_within}
use Rattle.room_scenario.proofs.words.next_word.Goals as goal

pub split_at-requires : goal.split_at-requires
split_at-requires c = omega (arith, spaces_within c.args.line.now, c.spaces.ensures)

pub split_at-requires-2 : goal.split_at-requires-2
split_at-requires-2 c = omega (arith, before_within 32 c.split_at.result.1.now, c.find-end.ensures)

pub returns : goal.returns
returns c =
    let line = c.args.line.now in
    let begun = c.split_at.ensures.back ∙ ap (λ (n : ℕ). drop n line) c.spaces.ensures in
    let end : c.find-end.result ≡ length (before 32 c.split_at.result.1.now) = omega (arith, c.find-end.ensures) in
    let word : c.split_at-2.result.0.now ≡ before 32 c.split_at.result.1.now = c.split_at-2.ensures.front ∙ ap (λ (n : ℕ). take n c.split_at.result.1.now) end ∙ take-before 32 c.split_at.result.1.now in
    next_word line _ _ (word ∙ ap (before 32) begun) (c.split_at-2.ensures.back ∙ ap (λ (n : ℕ). drop n c.split_at.result.1.now) (end ∙ ap length (sym word)) ∙ ap (drop (length c.split_at-2.result.0.now)) begun)
