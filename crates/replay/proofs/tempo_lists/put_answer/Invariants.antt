-- `put_answer` puts 16 bytes for each pair.
use Rattle.std.proofs.Common.{◌+◌, ◌*◌, ◌≤◌}
use Rattle.replay.proofs.tempo_lists.put_answer.Given as goal

abbrev pub invariant-loop-change : goal.invariant-loop-change
invariant-loop-change l = l.at ≤ 2 + 16 * l.change-index
