-- The value lies within, and holds these numbers.
use Rattle.std.proofs.Common.{◌+◌, ◌≤◌, length, arith}
use Rattle.wire.specs.Parse.{start_stop_of}
use Rattle.wire_reader.specs.Inner.Scan.{value_at}
use Rattle.wire_reader.proofs.Values.{byte_front, int_part}
use Rattle.wire_reader.proofs.read_start_stop.Goals as goal

pub returns : goal.returns
unfolding start_stop_of value_at
returns c =
    let l = c.args.bytes.now in
    let at = c.in_ok-at.at in
    let room : at + 17 ≤ length l = rw c.in_ok-at.was at c.requires in
    rw (
      c.in_ok-at.was,
      byte_front l 17 at room (omega arith),
      int_part l 17 at room _ 1 (omega arith) c.read.ensures,
      int_part l 17 at room _ 9 (omega arith) c.read-2.ensures,
    )
