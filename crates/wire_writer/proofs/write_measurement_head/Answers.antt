-- Two writes side by side.
use Rattle.std.proofs.Common.{rules}
use Rattle.big_endian.specs.Bytes.{bytes}
use Rattle.wire.specs.Layout.{measurement_head}
use Rattle.big_endian.specs.Laws.Writing.{once, next, wrote}
use Rattle.wire_writer.proofs.write_measurement_head.Goals as goal

pub returns : goal.returns
unfolding measurement_head bytes
returns c = search (rules, wrote, next, once)
