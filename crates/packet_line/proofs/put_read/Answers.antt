-- A refusal's line is shorter than the longest.
use Rattle.std.proofs.Common.{arith}
use Rattle.text.specs.Ascii.{ascii}
use Rattle.text.specs.Laws.Parts.{word, longer}
use Rattle.packet_line.specs.Line.{read_text}
use Rattle.packet_line.proofs.put_read.Goals as goal

pub returns-in-None : goal.returns-in-None
unfolding read_text ascii
returns-in-None c = rw c.in-None.is (longer 184 (omega arith) (word c.put_bytes.ensures))
