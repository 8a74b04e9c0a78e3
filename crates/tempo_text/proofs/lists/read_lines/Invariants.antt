-- Each turn reads one line: the pairs that were read, before those of the lines that are left, are all that the lines have.
use Rattle.std.proofs.Common.{◌-◌, length}
use Rattle.tempo_text.specs.Laws.Going.{Going}
use Rattle.tempo_text.proofs.lists.read_lines.Given as goal

abbrev pub invariant-loop-at : goal.invariant-loop-at
invariant-loop-at l = Going l.input l.list l.at

abbrev pub decreases-loop-at : goal.decreases-loop-at
decreases-loop-at l = length l.input - l.at
