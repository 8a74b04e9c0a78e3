use Rattle.std.proofs.Common.{rules}
use Rattle.big_endian.proofs.Parts.{number_1}
use Rattle.big_endian.proofs.number.U8Number.read_at.Goals as goal

pub returns : goal.returns
returns c = number_1 _ _ c.part.result c.from_be_bytes.ensures (search rules) (search rules) (search rules) c.part.ensures
