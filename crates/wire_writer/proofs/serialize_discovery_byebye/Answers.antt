-- Its head is the whole packet.
use Rattle.std.proofs.Common.{arith}
use Rattle.wire.specs.Layout.{byebye_bytes}
use Rattle.wire.specs.Laws.Sizes.{byebye_20}
use Rattle.big_endian.specs.Laws.Writing.{once}
use Rattle.wire_writer.proofs.Writing.{done, refused}
use Rattle.wire_writer.proofs.serialize_discovery_byebye.Goals as goal

pub returns-then-part-lt-BYEBYE_SIZE : goal.returns-then-part-lt-BYEBYE_SIZE
returns-then-part-lt-BYEBYE_SIZE c = refused _ _ (omega (arith, byebye_20 c.args.node_id))

pub returns : goal.returns
unfolding byebye_bytes
returns c = done (once c.write_discovery_head.ensures) (omega (arith, byebye_20 c.args.node_id))
