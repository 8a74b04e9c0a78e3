-- `answer_calls` ends: each turn takes a record off what is left, and there is space for its answer.
use Rattle.std.proofs.Common.{◌+◌, ◌-◌, ◌<◌, ◌≤◌, length}
use Rattle.replay.specs.Sizes.{most_answer}
use Rattle.replay.proofs.by_value.answer_calls.Given as goal

abbrev pub invariant-calls : goal.invariant-calls
invariant-calls g l = (l.initial.used ≤ l.used) × (l.used < l.next.end) × (l.next.end ≤ length l.input) × (l.next.filled + most_answer ≤ length l.output)

abbrev pub decreases-calls : goal.decreases-calls
decreases-calls g l = length l.input - l.used
