-- Words and values side by side.
use Rattle.std.proofs.Common.{rules}
use Rattle.text.specs.Ascii.{ascii}
use Rattle.text.specs.Laws.Parts.{◌then◌, word, number}
use Rattle.packet_line.specs.Line.{message_text}
use Rattle.packet_line.proofs.put_pong.Goals as goal

pub returns : goal.returns
unfolding message_text ascii
returns c =
    word c.put_bytes-at.ensures
    then c.put_session-at.ensures
    then word c.put_bytes-at-2.ensures
    then number (search rules) c.put_integer-at.ensures
    then word c.put_bytes-at-3.ensures
    then number (search rules) c.put_integer-at-2.ensures
    then word c.put_bytes-at-4.ensures
    then c.put_time.ensures
