-- Row by row.
use Rattle.std.proofs.Common.{arith}
use Rattle.peer_table.specs.Rows.{peers_of}
use Rattle.peer_table.specs.Laws.Upto.{rest, none_left}
use Rattle.commit.specs.Laws.Walk.{largest_known_none, largest_known_cons}
use Rattle.commit.proofs.known.largest_known.Goals as goal

pub loop-i-init : goal.loop-i-init
unfolding peers_of
loop-i-init c = grind arith

pub loop-i-preserved : goal.loop-i-preserved
loop-i-preserved c = grind (arith, rest, largest_known_cons)

pub returns : goal.returns
returns c = grind (arith, none_left, largest_known_none)
