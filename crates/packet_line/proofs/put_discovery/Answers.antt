-- A bye's line is shorter than the longest.
use Rattle.std.proofs.Common.{arith}
use Rattle.text.specs.Ascii.{ascii}
use Rattle.text.specs.Laws.Parts.{◌then◌, word, longer}
use Rattle.packet_line.specs.Line.{message_text}
use Rattle.packet_line.proofs.put_discovery.Goals as goal

pub returns-in-ByeBye : goal.returns-in-ByeBye
unfolding message_text ascii
returns-in-ByeBye c = rw c.in-ByeBye.is (longer 184 (omega arith) (word c.put_bytes-at.ensures then c.put_id.ensures))
