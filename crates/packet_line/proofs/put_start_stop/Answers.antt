-- By the variant.
use Rattle.std.proofs.Common.{arith, rules}
use Rattle.text.specs.Ascii.{ascii}
use Rattle.text.specs.Laws.Parts.{◌then◌, word, number, longer}
use Rattle.packet_line.specs.Line.{start_stop_text}
use Rattle.packet_line.proofs.put_start_stop.Goals as goal

pub returns-in-Some : goal.returns-in-Some
unfolding start_stop_text ascii
returns-in-Some c =
    rw c.in-Some.is
    (c.put_playing-at.ensures
    then word c.put_bytes-at.ensures
    then number (search rules) c.put_integer-at.ensures
    then word c.put_bytes-at-in-Some.ensures
    then number (search rules) c.put_integer.ensures)

pub returns-in-None : goal.returns-in-None
unfolding start_stop_text
returns-in-None c = rw c.in-None.is (longer 43 (omega arith) c.put_absent.ensures)
