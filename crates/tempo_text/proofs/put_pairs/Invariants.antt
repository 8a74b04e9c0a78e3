-- The lines of the pairs before the next are there.
use Rattle.std.proofs.Common.{take}
use Rattle.text.specs.Placed.{Laid}
use Rattle.tempo_text.specs.Answer.{pair_lines}
use Rattle.tempo_text.proofs.put_pairs.Given as goal

abbrev pub invariant-loop-change : goal.invariant-loop-change
invariant-loop-change l = Laid 0 (pair_lines (take l.change-index l.changes)) l.initial.s l.at l.s
