-- The value lies within, and holds these numbers.
use Rattle.std.proofs.Common.{◌+◌, ◌≤◌, length, arith}
use Rattle.wire.specs.Parse.{node_of}
use Rattle.wire_reader.specs.Inner.Scan.{value_at}
use Rattle.wire_reader.proofs.Values.{number_front}
use Rattle.wire_reader.proofs.read_node_id.Goals as goal

pub returns : goal.returns
unfolding node_of value_at
returns c =
    let l = c.args.bytes.now in
    let at = c.in_ok-at.field-0 in
    let room : at + 8 ≤ length l = rw c.in_ok-at.was at c.requires in
    rw (
      c.in_ok-at.was,
      c.read.ensures,
      number_front l 8 at room 8 (omega arith),
    )
