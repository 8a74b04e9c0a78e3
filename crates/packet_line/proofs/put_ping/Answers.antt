-- Words and values side by side.
use Rattle.std.proofs.Common.{rules}
use Rattle.text.specs.Ascii.{ascii}
use Rattle.text.specs.Laws.Parts.{◌then◌, word, number}
use Rattle.packet_line.specs.Line.{message_text}
use Rattle.packet_line.proofs.put_ping.Goals as goal

pub returns : goal.returns
unfolding message_text ascii
returns c =
    word c.put_bytes-at.ensures
    then number (search rules) c.put_integer-at.ensures
    then word c.put_bytes-at-2.ensures
    then c.put_time.ensures
