-- `replay` goes on from a place within its buffers.
use Rattle.std.proofs.Common.{◌≤◌, length}
use Rattle.replay.proofs.replay.Given as goal

abbrev pub invariant-turns : goal.invariant-turns
invariant-turns g l = (l.at.held ≤ length l.input) × (l.at.filled ≤ length l.output)
