-- The largest so far, taken on through the rows that are left, is that of the whole.
use Rattle.std.proofs.Common.{◌≡◌, ◌-◌}
use Rattle.peer_table.specs.Rows.{upto, peer_at, peers_of}
use Rattle.commit.specs.Inner.Known.{largest_known}
use Rattle.commit.proofs.known.largest_known.Given as goal

abbrev pub invariant-loop-i : goal.invariant-loop-i
invariant-loop-i l =
    largest_known l.session l.known (upto (peer_at l.words l.numbers) l.i (l.i-end - l.i)) ≡ largest_known l.session l.fn.ours (peers_of l.count l.words l.numbers)
