-- `put_interfaces` puts 10 bytes for each interface.
use Rattle.std.proofs.Common.{◌+◌, ◌*◌, ◌≤◌}
use Rattle.replay.proofs.dump.put_interfaces.Given as goal

abbrev pub invariant-loop-interface : goal.invariant-loop-interface
invariant-loop-interface l = l.at ≤ l.fn.at + 1 + 10 * l.interface-index
