-- By the length, and by the first byte.
use Rattle.std.proofs.Common.{arith, sym, ◌∙◌}
use Rattle.text.specs.Ascii.{ascii}
use Rattle.text.specs.Laws.Parts.{longer, word}
use Rattle.tempo_text.specs.Laws.Words.{starts_as}
use Rattle.tempo_text.specs.Laws.Answering.{answer_long, answer_file, answer_lines}
use Rattle.tempo_text.proofs.put_text.Goals as goal

pub returns-then-input-gt-MOST_INPUT : goal.returns-then-input-gt-MOST_INPUT
unfolding ascii
returns-then-input-gt-MOST_INPUT c =
    rw (answer_long c.args.input.now (omega arith)) (longer 1536 (omega arith) (word c.put_bytes.ensures))

pub returns-then-starts_with : goal.returns-then-starts_with
returns-then-starts_with c =
    let input = c.args.input.now in
    rw (answer_file input (omega arith) (sym (starts_as 77 input (omega arith)) ∙ sym c.starts_with.ensures.value ∙ c.if-starts_with.true)) c.put_lines.ensures

pub returns-else-starts_with : goal.returns-else-starts_with
returns-else-starts_with c =
    let input = c.args.input.now in
    rw (answer_lines input (omega arith) (sym (starts_as 77 input (omega arith)) ∙ sym c.starts_with.ensures.value ∙ c.if-starts_with.false)) (longer 1536 (omega arith) c.put_file.ensures)
