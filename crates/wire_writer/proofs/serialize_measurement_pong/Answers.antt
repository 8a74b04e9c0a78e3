-- Its parts side by side.
use Rattle.std.proofs.Common.{arith, refl}
use Rattle.big_endian.specs.Bytes.{bytes}
use Rattle.wire.specs.Layout.{entry, measurement_head, pong_bytes}
use Rattle.wire.specs.Laws.Sizes.{pong_size}
use Rattle.big_endian.specs.Laws.Writing.{once, next}
use Rattle.wire_writer.proofs.Writing.{done, refused, echo_refused, echo_taken}
use Rattle.wire_writer.proofs.serialize_measurement_pong.Goals as goal

pub returns-then-ping_payload-gt-MAX_ECHO : goal.returns-then-ping_payload-gt-MAX_ECHO
returns-then-ping_payload-gt-MAX_ECHO c = echo_refused _ _ _ c.if-ping_payload-gt-MAX_ECHO.true

pub returns-then-part-ping_payload : goal.returns-then-part-ping_payload
returns-then-part-ping_payload c =
    let size = pong_size c.args.session_id c.args.ghost_time c.args.ping_payload.now in
    echo_taken _ _ _ (omega arith) (refused _ _ (omega arith))

pub returns : goal.returns
unfolding pong_bytes measurement_head entry bytes
returns c =
    let size = pong_size c.args.session_id c.args.ghost_time c.args.ping_payload.now in
    echo_taken _ _ _ (omega arith)
    (done
    (next _ c.write_measurement_head.ensures refl
    (next _ c.write_session.ensures refl
    (next _ c.write_time.ensures refl
    (once c.write_bytes.ensures))))
    (omega arith))
