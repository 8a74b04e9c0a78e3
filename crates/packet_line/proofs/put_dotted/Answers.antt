-- Four bytes in decimal, with dots between.
use Rattle.text.specs.Ascii.{ascii}
use Rattle.text.specs.Laws.Parts.{◌then◌, part, word}
use Rattle.packet_line.specs.Line.{dotted}
use Rattle.packet_line.specs.Laws.Parts.{byte_short}
use Rattle.packet_line.proofs.put_dotted.Goals as goal

pub returns : goal.returns
unfolding dotted ascii
returns c =
    part 3 (byte_short _) c.put_decimal-at.ensures
    then word c.put_bytes-at.ensures
    then part 3 (byte_short _) c.put_decimal-at-2.ensures
    then word c.put_bytes-at-2.ensures
    then part 3 (byte_short _) c.put_decimal-at-3.ensures
    then word c.put_bytes-at-3.ensures
    then part 3 (byte_short _) c.put_decimal.ensures
