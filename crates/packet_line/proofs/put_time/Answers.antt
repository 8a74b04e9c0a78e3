-- A number.
use Rattle.std.proofs.Common.{rules}
use Rattle.text.specs.Laws.Parts.{number}
use Rattle.packet_line.specs.Line.{time_text}
use Rattle.packet_line.proofs.put_time.Goals as goal

pub returns-in-Some : goal.returns-in-Some
unfolding time_text
returns-in-Some c = rw c.in-Some.is (number (search rules) c.put_integer.ensures)
