use Rattle.std.proofs.Common.{arith}
use Rattle.big_endian.proofs.Parts.{number_past}
use Rattle.big_endian.proofs.part.Goals.{else-s-via-then-s+else-at-s, else-s-via-else-s}
use Rattle.big_endian.proofs.part.Goals as goal

-- src/lib.rt:35:1
pub returns-else-s : goal.returns-else-s
returns-else-s g c = elim c.else-s.branch [
  | else-s-via-then-s+else-at-s w ↦ number_past g.row.N c.args.at c.args.s.now (omega (arith, w.if-s, w.if-at-s))
  | else-s-via-else-s w ↦ number_past g.row.N c.args.at c.args.s.now (omega (arith, w.if-s))
]
