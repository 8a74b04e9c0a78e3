-- Row by row.
use Rattle.std.proofs.Common.{arith}
use Rattle.model.specs.Election.{consider_all, best_session}
use Rattle.peer_table.specs.Rows.{peers_of}
use Rattle.peer_table.specs.Laws.Upto.{rest, none_left}
use Rattle.engine_state.specs.Inner.OwnBox.{own_box}
use Rattle.election.specs.Inner.Known.{best_of}
use Rattle.election.proofs.session.best_session.Goals as goal

pub loop-i-init : goal.loop-i-init
unfolding peers_of own_box best_of best_session
loop-i-init c = grind arith

pub loop-i-preserved : goal.loop-i-preserved
unfolding consider_all
loop-i-preserved c = grind (arith, rest)

pub returns : goal.returns
unfolding consider_all
returns c = grind (arith, none_left)
