-- The survey so far, taken on through the rows that are left, is that of the whole.
use Rattle.std.specs.Prelude.{◌≡◌, ◌≤◌, ◌-◌, min}
use Rattle.peer_table.specs.Rows.{upto, peer_at, peers_of}
use Rattle.peer_walks.specs.Inner.Calm.{survey_of}
use Rattle.peer_walks.proofs.calm.survey.Given as goal

abbrev pub invariant-loop-i : goal.invariant-loop-i
invariant-loop-i l =
    (l.n ≡ min l.count 16)
    × (l.s.count ≤ l.i)
    × (survey_of l.at l.session l.s (upto (peer_at l.words l.numbers) l.i (l.n - l.i)) ≡ survey_of l.at l.session l.initial.s (peers_of l.count l.words l.numbers))
