-- The first k numbers are copied.
use Rattle.std.specs.Prelude.{pos}
use Rattle.peer_table.specs.Places.{wide}
use Rattle.peer_table.specs.Laws.Moved.{Moving}
use Rattle.peer_table.proofs.moves.move_numbers.Given as goal

abbrev pub invariant-loop-k : goal.invariant-loop-k
invariant-loop-k l = Moving (pos 0) wide.numbers l.fn.numbers l.fn.from l.fn.to l.numbers l.k
