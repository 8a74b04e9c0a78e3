-- Its parts side by side.
use Rattle.std.proofs.Common.{arith, refl}
use Rattle.big_endian.specs.Bytes.{bytes}
use Rattle.wire.specs.Layout.{entry, measurement_head, ping_bytes}
use Rattle.wire.specs.Laws.Sizes.{ping_size}
use Rattle.big_endian.specs.Laws.Writing.{once, next}
use Rattle.wire_writer.proofs.Writing.{done, refused}
use Rattle.wire_writer.proofs.serialize_measurement_ping.Goals as goal

pub returns-then-part-ping_size : goal.returns-then-part-ping_size
returns-then-part-ping_size c = refused _ _ (omega (arith, ping_size c.args.host_time c.args.prev_ghost_time))

pub returns : goal.returns
unfolding ping_bytes measurement_head entry bytes
returns c =
    let size = ping_size c.args.host_time c.args.prev_ghost_time in
    done
    (next _ c.write_measurement_head.ensures refl
    (next _ c.write_time.ensures refl
    (once c.write_pgt.ensures)))
    (omega arith)
