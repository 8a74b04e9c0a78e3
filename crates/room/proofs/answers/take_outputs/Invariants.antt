-- No place of an output passes 33 bits.
use Rattle.std.proofs.Common.{◌+◌, ◌*◌, ◌<◌, ◌≤◌}
use Rattle.room.proofs.answers.take_outputs.Given as goal

abbrev pub invariant-loop-k : goal.invariant-loop-k
invariant-loop-k g l = (l.count < 65536) × (l.at ≤ 4 + 3 * l.count + 65535 * l.k)
