-- The lines of what the reader accepts are short.
use Rattle.std.proofs.Common.{arith, ap, sym, subst, ◌∙◌, length}
use Rattle.text.specs.Placed.{Laid}
use Rattle.text.specs.Laws.Parts.{longer}
use Rattle.midi_file.specs.Laws.Numbers.{all_bytes}
use Rattle.tempo_text.specs.Answer.{pair_lines}
use Rattle.tempo_text.specs.Laws.Answering.{read_pairs, read_refused, lines_are}
use Rattle.tempo_text.specs.Laws.Lengths.{file_few, file_lines_most}
use Rattle.tempo_text.proofs.put_lines.Goals as goal

pub shared_ref_as_front-put_pairs : goal.shared_ref_as_front-put_pairs
shared_ref_as_front-put_pairs c =
    let x = read_pairs _ _ c.in-Ok.ensures in
    omega (arith, x.counted, file_few (all_bytes c.args.file.now (λ i. omega (arith, c.type_inv.file i))) x.all x.are)

pub returns-in-Ok : goal.returns-in-Ok
returns-in-Ok c =
    let x = read_pairs _ _ c.in-Ok.ensures in
    let b = all_bytes c.args.file.now (λ i. omega (arith, c.type_inv.file i)) in
    let e = ap pair_lines x.held ∙ sym (lines_are _ x.all x.are) in
    record { laid = subst (λ l. Laid 0 l c.args.s.now c.put_pairs.result c.put_pairs.new.s) e c.put_pairs.ensures; short = omega (arith, ap length (lines_are _ x.all x.are), file_lines_most b x.all x.are) }

pub returns-in-Err : goal.returns-in-Err
returns-in-Err c =
    rw (read_refused _ c.in-Err.refusal c.in-Err.ensures) (longer 1536 (omega arith) c.put_refused.ensures)
