-- By the variant.
use Rattle.std.proofs.Common.{arith, rules}
use Rattle.text.specs.Ascii.{ascii}
use Rattle.text.specs.Laws.Parts.{◌then◌, part, word, longer}
use Rattle.packet_line.specs.Line.{address_text}
use Rattle.packet_line.specs.Laws.Parts.{port_short}
use Rattle.packet_line.proofs.put_address.Goals as goal

pub returns-in-Some : goal.returns-in-Some
unfolding address_text ascii
returns-in-Some c =
    rw c.in-Some.is (c.put_dotted-at.ensures then word c.put_bytes-at.ensures then part 5 (port_short _ (search rules)) c.put_decimal.ensures)

pub returns-in-None : goal.returns-in-None
unfolding address_text
returns-in-None c = rw c.in-None.is (longer 21 (omega arith) c.put_absent.ensures)
