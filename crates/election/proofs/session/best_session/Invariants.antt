-- The best so far, taken on through the rows that are left, is that of the whole.
use Rattle.std.proofs.Common.{◌≡◌, ◌-◌}
use Rattle.model.specs.Election.{consider_all, best_session}
use Rattle.peer_table.specs.Rows.{upto, peer_at}
use Rattle.engine_state.specs.Inner.Lent.{peers_held}
use Rattle.engine_state.specs.Inner.OwnBox.{own_box}
use Rattle.election.specs.Inner.Known.{best_of}
use Rattle.election.proofs.session.best_session.Given as goal

abbrev pub invariant-loop-i : goal.invariant-loop-i
invariant-loop-i l =
    let neighbour = peer_at l.among.words.now l.among.numbers.now in
    consider_all l.own.node_id l.at (best_of l.best) (upto neighbour l.i (l.i-end - l.i)) ≡ best_session l.at (own_box l.own (peers_held l.among))
