-- The value lies within, and holds these numbers.
use Rattle.std.proofs.Common.{◌+◌, ◌≤◌, length, arith}
use Rattle.wire.specs.Parse.{timeline_of}
use Rattle.wire_reader.specs.Inner.Scan.{value_at}
use Rattle.wire_reader.proofs.Values.{int_front, int_part}
use Rattle.wire_reader.proofs.read_timeline.Goals as goal

pub returns : goal.returns
unfolding timeline_of value_at
returns c =
    let l = c.args.bytes.now in
    let at = c.in_ok-at.at in
    let room : at + 24 ≤ length l = rw c.in_ok-at.was at c.requires in
    rw (
      c.in_ok-at.was,
      int_front l 24 at room _ (omega arith) c.read.ensures,
      int_part l 24 at room _ 8 (omega arith) c.read-2.ensures,
      int_part l 24 at room _ 16 (omega arith) c.read-3.ensures,
    )
