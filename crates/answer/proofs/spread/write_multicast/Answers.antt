-- By the kind of packet; or nothing.
use Rattle.answer.specs.Inner.Planned.{multicast_outputs}
use Rattle.answer.specs.Inner.Values.{spread_output}
use Rattle.answer.specs.Laws.Runs.{none_laid}
use Rattle.answer.proofs.spread.write_multicast.Goals as goal

pub returns-in_default : goal.returns-in_default
unfolding multicast_outputs
returns-in_default c = rw c.in_default.is none_laid

pub write_everywhere-requires : goal.write_everywhere-requires
unfolding multicast_outputs spread_output
write_everywhere-requires c = rw (c.in-Alive.is, multicast_outputs) at (rw c.in-Some.is at c.requires)

pub write_everywhere-requires-in-ByeBye : goal.write_everywhere-requires-in-ByeBye
unfolding multicast_outputs spread_output
write_everywhere-requires-in-ByeBye c = rw (c.in-ByeBye.is, multicast_outputs) at (rw c.in-Some.is at c.requires)

pub returns-in-Alive : goal.returns-in-Alive
unfolding multicast_outputs spread_output
returns-in-Alive c = rw c.in-Some.is (rw (c.in-Alive.is, multicast_outputs) c.write_everywhere.ensures)

pub returns-in-ByeBye : goal.returns-in-ByeBye
unfolding multicast_outputs spread_output
returns-in-ByeBye c = rw c.in-Some.is (rw (c.in-ByeBye.is, multicast_outputs) c.write_everywhere-in-ByeBye.ensures)
