-- The best so far, taken on through the rows that are left, is that of the whole.
use Rattle.std.specs.Prelude.{◌≡◌, ◌-◌, min}
use Rattle.peer_table.specs.Rows.{upto, peer_at, peers_of}
use Rattle.peer_walks.specs.Inner.Known.{shared, best_known}
use Rattle.peer_walks.proofs.known.best_known.Given as goal

abbrev pub invariant-loop-i : goal.invariant-loop-i
invariant-loop-i l =
    (l.n ≡ min l.count 16)
    × (best_known l.session (shared l.known) (upto (peer_at l.words l.numbers) l.i (l.n - l.i)) ≡ best_known l.session (shared l.initial.known) (peers_of l.count l.words l.numbers))
