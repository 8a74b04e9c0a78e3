-- What is found so far and the entries that are left give what the whole scan finds; what is left of the bytes gets less.
use Rattle.std.specs.Prelude.{◌≤◌, ◌-◌, length, drop}
use Rattle.wire.specs.Parse.{entries}
use Rattle.wire_reader.specs.Inner.Scan.{Fields}
use Rattle.wire_reader.proofs.scan.scan.Given as goal

abbrev pub invariant-loop-key : goal.invariant-loop-key
invariant-loop-key l = record {
  within : l.at ≤ length l.bytes;
  fields : Fields l.bytes l.from (entries (drop l.at l.bytes)) l.found;
}

abbrev pub decreases-loop-key : goal.decreases-loop-key
decreases-loop-key l = length l.bytes - l.at
