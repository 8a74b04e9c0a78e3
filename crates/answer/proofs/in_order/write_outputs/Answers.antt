-- Part after part: what is left after each.
use Rattle.std.proofs.Common.{refl}
use mathlib.Core.List.{◌++◌}
use Rattle.interface_map.specs.Held.{interfaces_of}
use Rattle.peer_walks.specs.Inner.Asked.{addrs_of}
use Rattle.answer.specs.Inner.Planned.{state_outputs, plan_of, call_of}
use Rattle.answer.specs.Laws.Runs.{Left, all_left, room_for, then_left, last_laid}
use Rattle.answer.proofs.in_order.write_outputs.Goals as goal

pub write_single-c-requires : goal.write_single-c-requires
unfolding call_of
write_single-c-requires c = rw (c.of_reply.ensures c.args.echo.now) (room_for (all_left c.requires) _ _ refl)

pub write_single-c-requires-2 : goal.write_single-c-requires-2
unfolding call_of
write_single-c-requires-2 c =
    let a = c.args in
    let rest = plan_of a.o.plan (addrs_of a.o.plan.asked a.asked.now) (interfaces_of a.interfaces) in
    let all = call_of a.o (addrs_of a.o.plan.asked a.asked.now) (interfaces_of a.interfaces) a.echo.now in
    let l₁ : Left a.c all a.buf.now c.write_single-c.result (state_outputs a.o.report ++ rest) c.write_single-c.new.buf =
    then_left (all_left c.requires) _ _ refl (rw (c.of_reply.ensures a.echo.now) at c.write_single-c.ensures) in
    rw (c.of_state.ensures a.echo.now) (room_for l₁ _ _ refl)

pub write_upkeep-requires : goal.write_upkeep-requires
unfolding call_of
write_upkeep-requires c =
    let a = c.args in
    let rest = plan_of a.o.plan (addrs_of a.o.plan.asked a.asked.now) (interfaces_of a.interfaces) in
    let all = call_of a.o (addrs_of a.o.plan.asked a.asked.now) (interfaces_of a.interfaces) a.echo.now in
    let l₁ : Left a.c all a.buf.now c.write_single-c.result (state_outputs a.o.report ++ rest) c.write_single-c.new.buf =
    then_left (all_left c.requires) _ _ refl (rw (c.of_reply.ensures a.echo.now) at c.write_single-c.ensures) in
    let l₂ : Left a.c all a.buf.now c.write_single-c-2.result rest c.write_single-c-2.new.buf =
    then_left l₁ _ _ refl (rw (c.of_state.ensures a.echo.now) at c.write_single-c-2.ensures) in
    l₂.room

pub returns : goal.returns
unfolding call_of
returns c =
    let a = c.args in
    let rest = plan_of a.o.plan (addrs_of a.o.plan.asked a.asked.now) (interfaces_of a.interfaces) in
    let all = call_of a.o (addrs_of a.o.plan.asked a.asked.now) (interfaces_of a.interfaces) a.echo.now in
    let l₁ : Left a.c all a.buf.now c.write_single-c.result (state_outputs a.o.report ++ rest) c.write_single-c.new.buf =
    then_left (all_left c.requires) _ _ refl (rw (c.of_reply.ensures a.echo.now) at c.write_single-c.ensures) in
    let l₂ : Left a.c all a.buf.now c.write_single-c-2.result rest c.write_single-c-2.new.buf =
    then_left l₁ _ _ refl (rw (c.of_state.ensures a.echo.now) at c.write_single-c-2.ensures) in
    last_laid l₂ c.write_upkeep.ensures
