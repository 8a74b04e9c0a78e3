-- Sixteen digits.
use Rattle.std.proofs.Common.{arith}
use Rattle.text.specs.Laws.Decimals.{length_digits}
use Rattle.text.specs.Laws.Parts.{part}
use Rattle.packet_line.specs.Line.{id_text}
use Rattle.packet_line.proofs.put_id.Goals as goal

pub returns : goal.returns
unfolding id_text
returns c = part 16 (omega (arith, length_digits 16 16 c.args.node_id.0)) c.put_hexadecimal.ensures
