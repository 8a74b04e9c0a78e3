-- The first k words are copied.
use Rattle.peer_table.specs.Places.{wide}
use Rattle.peer_table.specs.Laws.Moved.{Moving}
use Rattle.peer_table.proofs.moves.move_words.Given as goal

abbrev pub invariant-loop-k : goal.invariant-loop-k
invariant-loop-k l = Moving 0 wide.words l.fn.words l.fn.from l.fn.to l.words l.k
