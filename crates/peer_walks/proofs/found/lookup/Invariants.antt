-- A search in the rows that are left gives what a search in all gives.
use Rattle.std.specs.Prelude.{◌≡◌, ◌-◌, Bool, List, ℤ, min}
use Rattle.lists.specs.Inner.Places.{place_from, place_of}
use Rattle.model.specs.Peers.{Peer}
use Rattle.peer_table.specs.Rows.{upto, peer_at, peers_of}
use Rattle.peer_walks.specs.Inner.Tests.{FitsBy}
use Rattle.peer_walks.proofs.found.lookup.Given as goal

abbrev pub invariant-loop-i : goal.invariant-loop-i
invariant-loop-i g l =
    (l.n ≡ min l.count 16)
    × ((test : Peer → Bool) → FitsBy (goal.F-post g l.fits) test → (numbers : List ℤ) → place_from test l.i (upto (peer_at l.words numbers) l.i (l.n - l.i)) ≡ place_of test (peers_of l.count l.words numbers))
