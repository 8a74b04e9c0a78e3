-- What is known is the best of what is known of ourselves and of the neighbours.
use Rattle.std.proofs.Common.{arith}
use Rattle.std.proofs.lemmas.Grind.{common_steps}
use Rattle.model.specs.Election.{best_timeline, best_start_stop, resolved_state}
use Rattle.peer_walks.specs.Inner.Known.{shared, best_known}
use Rattle.engine_state.specs.Inner.OwnBox.{own_box}
use Rattle.election.specs.Inner.Known.{best_of, own_known}
use Rattle.election.proofs.state.resolved_state.Goals as goal

pub returns : goal.returns
unfolding best_of shared own_known best_known own_box best_timeline best_start_stop resolved_state
returns c = grind (arith, common_steps)
