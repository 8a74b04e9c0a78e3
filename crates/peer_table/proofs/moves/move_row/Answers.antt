use Rattle.peer_table.specs.Laws.Moved.{both_moved}
use Rattle.peer_table.proofs.moves.move_row.Goals as goal

pub returns : goal.returns
returns c = both_moved _ _ _ _ _ _ c.move_words.ensures c.move_numbers.ensures
