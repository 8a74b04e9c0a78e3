-- A word.
use Rattle.text.specs.Ascii.{ascii}
use Rattle.text.specs.Laws.Parts.{word}
use Rattle.packet_line.specs.Line.{absent}
use Rattle.packet_line.proofs.put_absent.Goals as goal

pub returns : goal.returns
unfolding absent ascii
returns c = word c.put_bytes.ensures
