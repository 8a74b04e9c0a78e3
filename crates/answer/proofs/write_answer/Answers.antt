-- Refused by either test; otherwise the two numbers and the outputs make the answer.
use Rattle.std.specs.Prelude.{◌≡◌, ◌<◌, ◌≤◌, ◌+◌, ◌*◌, ℕ, List, min, length}
use Rattle.std.proofs.Common.{rules, arith, length-take}
use Rattle.wire.specs.declared.SocketAddrPlain.{SocketAddrPlain}
use Rattle.model.specs.Answer.{contents}
use Rattle.interface_map.specs.Held.{interfaces_of}
use Rattle.peer_walks.specs.Inner.Asked.{addrs_of}
use Rattle.answer.specs.Inner.Planned.{call_of}
use Rattle.answer.specs.Inner.Extents.{Extends}
use Rattle.answer.specs.Laws.Whole.{wrote_whole, echo_too_long, too_long, it_fits}
use Rattle.answer.proofs.write_answer.Goals as goal

-- there are as many addresses as are asked
asked_long : (k : ℕ) (a : List SocketAddrPlain) → length a ≡ 16 → length (addrs_of k a) ≡ min k 16
unfolding addrs_of
asked_long k a h = omega (arith, length-take (min k 16) a, h)

pub returns-in_default-clause-value : goal.returns-in_default-clause-value
returns-in_default-clause-value c =
    let h : 503 < length c.args.echo.now = search rules in
    echo_too_long _ _ _ h

pub returns-then-is_too_small-clause-value : goal.returns-then-is_too_small-clause-value
returns-then-is_too_small-clause-value c =
    let a = c.args in
    let k : length a.asked.now ≡ 16 = search rules in
    let to = addrs_of a.o.plan.asked a.asked.now in
    let os = call_of a.o to (interfaces_of a.interfaces) a.echo.now in
    let h : length a.echo.now ≤ 503 = search rules in
    let e : Extends os 73 5478 c.of_outputs-extent.result = rw c.in-Some.ensures.whole at c.of_outputs-extent.ensures.extends to (asked_long _ _ k) in
    too_long a.echo.now os a.buf.now h (omega (arith, e.outputs, e.bytes))

pub write_outputs-requires : goal.write_outputs-requires
write_outputs-requires c =
    let a = c.args in
    let k : length a.asked.now ≡ 16 = search rules in
    let to = addrs_of a.o.plan.asked a.asked.now in
    let e = c.of_outputs-extent.ensures.extends to (asked_long _ _ k) in
    search rules

pub returns-clause-value : goal.returns-clause-value
returns-clause-value c =
    let a = c.args in
    let k : length a.asked.now ≡ 16 = search rules in
    let to = addrs_of a.o.plan.asked a.asked.now in
    let os = call_of a.o to (interfaces_of a.interfaces) a.echo.now in
    let h : length a.echo.now ≤ 503 = search rules in
    let e : Extends os 73 5478 c.of_outputs-extent.result = rw c.in-Some.ensures.whole at c.of_outputs-extent.ensures.extends to (asked_long _ _ k) in
    let fits : 4 + 3 * length os + length (contents os) ≤ length a.buf.now = omega (arith, e.outputs, e.bytes, c.if-is_too_small.false) in
    it_fits a.echo.now os a.buf.now h fits

pub returns-clause-buf_after : goal.returns-clause-buf_after
returns-clause-buf_after c =
    let a = c.args in
    let k : length a.asked.now ≡ 16 = search rules in
    let to = addrs_of a.o.plan.asked a.asked.now in
    let os = call_of a.o to (interfaces_of a.interfaces) a.echo.now in
    let e : Extends os 73 5478 c.of_outputs-extent.result = rw c.in-Some.ensures.whole at c.of_outputs-extent.ensures.extends to (asked_long _ _ k) in
    let fits : 4 + 3 * length os + length (contents os) ≤ length a.buf.now = omega (arith, e.outputs, e.bytes, c.if-is_too_small.false) in
    let w = rw c.in-Some.ensures.whole at c.write_outputs.ensures in
    wrote_whole os a.buf.now fits _ _ e.outputs e.bytes c.write.ensures c.write-2.ensures w.buffer
