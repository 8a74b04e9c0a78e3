-- Words and values side by side.
use Rattle.text.specs.Ascii.{ascii}
use Rattle.text.specs.Laws.Parts.{◌then◌, word}
use Rattle.packet_line.specs.Line.{message_text}
use Rattle.packet_line.proofs.put_alive.Goals as goal

pub returns : goal.returns
unfolding message_text ascii
returns c =
    word c.put_bytes-at.ensures
    then c.put_id-at.ensures
    then word c.put_bytes-at-2.ensures
    then c.put_timeline-at.ensures
    then word c.put_bytes-at-3.ensures
    then c.put_start_stop-at.ensures
    then word c.put_bytes-at-4.ensures
    then c.put_session-at.ensures
    then word c.put_bytes-at-5.ensures
    then c.put_address.ensures
