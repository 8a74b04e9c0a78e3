-- A word either way.
use Rattle.text.specs.Ascii.{ascii}
use Rattle.text.specs.Laws.Parts.{word}
use Rattle.packet_line.proofs.put_playing.Goals as goal

pub returns-then-is_playing : goal.returns-then-is_playing
unfolding ascii
returns-then-is_playing c = rw c.if-is_playing.true (word c.put_bytes.ensures)

pub returns-else-is_playing : goal.returns-else-is_playing
unfolding ascii
returns-else-is_playing c = rw c.if-is_playing.false (word c.put_bytes-else-is_playing.ensures)
