use Rattle.std.proofs.Common.{rules}
use Rattle.big_endian.proofs.Parts.{number_4}
use Rattle.big_endian.proofs.number.U32Number.read_at.Goals as goal

pub returns : goal.returns
returns c = number_4 _ _ c.part.result c.from_be_bytes.ensures (search rules) (search rules) (search rules) c.part.ensures
