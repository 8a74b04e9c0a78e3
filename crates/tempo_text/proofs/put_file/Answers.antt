-- A bad line's number, or the list's file.
use Rattle.std.proofs.Common.{arith}
use Rattle.text.specs.Ascii.{ascii}
use Rattle.text.specs.Lines.{lines}
use Rattle.text.specs.Laws.Parts.{longer}
use Rattle.tempo_text.specs.Answer.{listed}
use Rattle.tempo_text.specs.Laws.Answering.{holds_bad, holds_all}
use Rattle.tempo_text.proofs.put_file.Goals as goal

pub returns-in-Ok : goal.returns-in-Ok
returns-in-Ok c = rw (holds_all (listed 1 (lines c.args.input.now)) c.in-Ok.list c.in-Ok.ensures) c.put_list.ensures

pub returns-in-Err : goal.returns-in-Err
unfolding ascii
returns-in-Err c =
    rw (holds_bad (listed 1 (lines c.args.input.now)) c.in-Err.field-0 c.in-Err.ensures) (longer 666 (omega arith) c.put_numbered.ensures)
