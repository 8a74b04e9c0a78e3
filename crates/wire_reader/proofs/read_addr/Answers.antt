-- The value lies within, and holds these numbers.
use Rattle.std.proofs.Common.{◌+◌, ◌≤◌, length, arith}
use Rattle.wire.specs.Parse.{addr_of}
use Rattle.wire_reader.specs.Inner.Scan.{value_at}
use Rattle.wire_reader.proofs.Values.{number_front, number_part}
use Rattle.wire_reader.proofs.read_addr.Goals as goal

pub returns : goal.returns
unfolding addr_of value_at
returns c =
    let l = c.args.bytes.now in
    let at = c.in_ok-at.at in
    let room : at + 6 ≤ length l = rw c.in_ok-at.was at c.requires in
    rw (
      c.in_ok-at.was,
      c.read.ensures,
      c.read-2.ensures,
      number_front l 6 at room 4 (omega arith),
      number_part l 6 at room 2 4 (omega arith),
    )
