-- There are engines for 16 boxes.
use Rattle.std.proofs.Common.{◌≤◌}
use Rattle.room.proofs.distances.print_distances.Given as goal

abbrev pub invariant-loop-i : goal.invariant-loop-i
invariant-loop-i g l = l.count ≤ 16

abbrev pub invariant-loop-j : goal.invariant-loop-j
invariant-loop-j g l = l.count ≤ 16
