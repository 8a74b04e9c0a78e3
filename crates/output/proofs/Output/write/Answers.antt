-- Refused by either test; otherwise the content is at the front.
use Rattle.std.proofs.Common.{◌<◌, refl, length, arith}
use Rattle.big_endian.specs.Laws.Writing.{once}
use Rattle.wire_writer.proofs.Writing.{done, refused, echo_refused, echo_taken}
use Rattle.output.proofs.Output.write.Goals as goal

pub returns-in_default : goal.returns-in_default
returns-in_default c =
    let long : 503 < length c.args.echo.now = grind (arith, c.in_default.ensures.some) in
    echo_refused _ _ _ long

pub returns-then-part-content_size : goal.returns-then-part-content_size
returns-then-part-content_size c =
    let echo = c.in-Some.ensures in
    rw (← echo.whole) (echo_taken _ _ _ (rw (← echo.whole) at echo.some.0 refl) (refused _ _ (omega arith)))

pub returns : goal.returns
returns c =
    let echo = c.in-Some.ensures in
    rw (← echo.whole) (echo_taken _ _ _ (rw (← echo.whole) at echo.some.0 refl) (done (once c.fill.ensures) (omega arith)))
