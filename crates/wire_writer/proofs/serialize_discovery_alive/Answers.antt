-- Its parts side by side.
use Rattle.std.proofs.Common.{arith, refl}
use Rattle.big_endian.specs.Bytes.{bytes}
use Rattle.wire.specs.Layout.{entry, timeline_bytes, start_stop_bytes, discovery_head, alive_bytes}
use Rattle.wire.specs.Laws.Sizes.{alive_size}
use Rattle.big_endian.specs.Laws.Writing.{once, next}
use Rattle.wire_writer.proofs.Writing.{done, refused}
use Rattle.wire_writer.proofs.serialize_discovery_alive.Goals as goal

pub returns-then-part-alive_size : goal.returns-then-part-alive_size
returns-then-part-alive_size c =
    refused _ _ (omega (arith, alive_size c.args.alive.node_id c.args.alive.session_id c.args.alive.timeline c.args.alive.start_stop c.args.alive.is_response c.args.alive.mep4))

pub returns : goal.returns
unfolding alive_bytes discovery_head entry timeline_bytes start_stop_bytes bytes
returns c =
    let size = alive_size c.args.alive.node_id c.args.alive.session_id c.args.alive.timeline c.args.alive.start_stop c.args.alive.is_response c.args.alive.mep4 in
    done
    (next _ (rw c.alive_kind.ensures at c.write_discovery_head.ensures) refl
    (next _ c.write_timeline.ensures refl
    (next _ c.write_session.ensures refl
    (next _ c.write_start_stop.ensures refl
    (once c.write_mep4.ensures)))))
    (omega arith)
