-- Those that are kept, and those of what is left, are those of the whole.
use Rattle.std.specs.Prelude.{◌≡◌, ◌≤◌, Bool, min}
use Rattle.lists.specs.Lists.{keep}
use Rattle.model.specs.Peers.{Peer}
use Rattle.peer_table.specs.Rows.{peer_at, peers_of}
use Rattle.peer_walks.specs.Inner.Tests.{StaysBy}
use Rattle.peer_walks.specs.Laws.Keeping.{Keeping}
use Rattle.peer_walks.proofs.retain.retain.Given as goal

abbrev pub invariant-loop-i : goal.invariant-loop-i
invariant-loop-i g l =
    (l.kept ≤ l.i)
    × (l.n ≡ min l.count 16)
    × ((test : Peer → Bool) → StaysBy (goal.F-post g l.stays) test → Keeping test l.n (keep test (peers_of l.count l.fn.words l.fn.numbers)) (peer_at l.words l.numbers) l.kept l.i)
