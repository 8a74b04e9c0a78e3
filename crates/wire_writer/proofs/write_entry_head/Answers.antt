-- Two writes side by side.
use Rattle.std.proofs.Common.{rules}
use Rattle.big_endian.specs.Bytes.{bytes}
use Rattle.big_endian.specs.Laws.Writing.{once, next, wrote}
use Rattle.wire_writer.proofs.write_entry_head.Goals as goal

pub returns : goal.returns
unfolding bytes
returns c = search (rules, wrote, next, once)
