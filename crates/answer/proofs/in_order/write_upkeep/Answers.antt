-- Part after part: what is left after each.
use Rattle.std.proofs.Common.{refl}
use mathlib.Core.List.{List, ◌++◌}
use Rattle.wire.specs.declared.SocketAddrPlain.{SocketAddrPlain}
use Rattle.model.specs.Peers.{Interface}
use Rattle.model.specs.Engine.{Output}
use Rattle.interface_map.specs.Held.{interfaces_of}
use Rattle.peer_walks.specs.Inner.Asked.{addrs_of}
use Rattle.answer.specs.declared.Plan.{Plan}
use Rattle.answer.specs.Inner.Planned.{state_outputs, ping_outputs, timer_output, count_output, plan_of}
use Rattle.answer.specs.Laws.Runs.{Left, all_left, room_for, then_left, last_laid}
use Rattle.answer.proofs.in_order.write_upkeep.Goals as goal

module _ (p : Plan) where
  abbrev times : List Output
  times = timer_output p.timer ++ count_output p.count

  abbrev reports : List Output
  reports = state_outputs p.report ++ times

  abbrev pings : List Interface → List SocketAddrPlain → List Output
  pings is to = ping_outputs p.now is to ++ reports

pub write_multicast-c-requires : goal.write_multicast-c-requires
unfolding plan_of
write_multicast-c-requires c = room_for (all_left c.requires) _ _ refl

pub write_pings-c-requires : goal.write_pings-c-requires
unfolding plan_of
write_pings-c-requires c =
    let a = c.args in
    let all = plan_of a.plan (addrs_of a.plan.asked a.asked.now) (interfaces_of a.interfaces) in
    let l₁ : Left a.c all a.buf.now c.write_multicast-c.result (pings a.plan (interfaces_of a.interfaces) (addrs_of a.plan.asked a.asked.now)) c.write_multicast-c.new.buf =
    then_left (all_left c.requires) _ _ refl c.write_multicast-c.ensures in
    room_for l₁ _ _ refl

pub write_single-c-requires : goal.write_single-c-requires
unfolding plan_of
write_single-c-requires c =
    let a = c.args in
    let all = plan_of a.plan (addrs_of a.plan.asked a.asked.now) (interfaces_of a.interfaces) in
    let l₁ : Left a.c all a.buf.now c.write_multicast-c.result (pings a.plan (interfaces_of a.interfaces) (addrs_of a.plan.asked a.asked.now)) c.write_multicast-c.new.buf =
    then_left (all_left c.requires) _ _ refl c.write_multicast-c.ensures in
    let l₂ : Left a.c all a.buf.now c.write_pings-c.result (reports a.plan) c.write_pings-c.new.buf = then_left l₁ _ _ refl c.write_pings-c.ensures in
    rw (c.of_state.ensures a.echo.now) (room_for l₂ _ _ refl)

pub write_single-c-requires-2 : goal.write_single-c-requires-2
unfolding plan_of
write_single-c-requires-2 c =
    let a = c.args in
    let all = plan_of a.plan (addrs_of a.plan.asked a.asked.now) (interfaces_of a.interfaces) in
    let l₁ : Left a.c all a.buf.now c.write_multicast-c.result (pings a.plan (interfaces_of a.interfaces) (addrs_of a.plan.asked a.asked.now)) c.write_multicast-c.new.buf =
    then_left (all_left c.requires) _ _ refl c.write_multicast-c.ensures in
    let l₂ : Left a.c all a.buf.now c.write_pings-c.result (reports a.plan) c.write_pings-c.new.buf = then_left l₁ _ _ refl c.write_pings-c.ensures in
    let l₃ : Left a.c all a.buf.now c.write_single-c.result (times a.plan) c.write_single-c.new.buf =
    then_left l₂ _ _ refl (rw (c.of_state.ensures a.echo.now) at c.write_single-c.ensures) in
    rw (c.of_timer.ensures a.echo.now) (room_for l₃ _ _ refl)

pub write_single-requires : goal.write_single-requires
unfolding plan_of
write_single-requires c =
    let a = c.args in
    let all = plan_of a.plan (addrs_of a.plan.asked a.asked.now) (interfaces_of a.interfaces) in
    let l₁ : Left a.c all a.buf.now c.write_multicast-c.result (pings a.plan (interfaces_of a.interfaces) (addrs_of a.plan.asked a.asked.now)) c.write_multicast-c.new.buf =
    then_left (all_left c.requires) _ _ refl c.write_multicast-c.ensures in
    let l₂ : Left a.c all a.buf.now c.write_pings-c.result (reports a.plan) c.write_pings-c.new.buf = then_left l₁ _ _ refl c.write_pings-c.ensures in
    let l₃ : Left a.c all a.buf.now c.write_single-c.result (times a.plan) c.write_single-c.new.buf =
    then_left l₂ _ _ refl (rw (c.of_state.ensures a.echo.now) at c.write_single-c.ensures) in
    let l₄ : Left a.c all a.buf.now c.write_single-c-2.result (count_output a.plan.count) c.write_single-c-2.new.buf =
    then_left l₃ _ _ refl (rw (c.of_timer.ensures a.echo.now) at c.write_single-c-2.ensures) in
    rw (c.of_count.ensures a.echo.now) l₄.room

pub returns : goal.returns
unfolding plan_of
returns c =
    let a = c.args in
    let all = plan_of a.plan (addrs_of a.plan.asked a.asked.now) (interfaces_of a.interfaces) in
    let l₁ : Left a.c all a.buf.now c.write_multicast-c.result (pings a.plan (interfaces_of a.interfaces) (addrs_of a.plan.asked a.asked.now)) c.write_multicast-c.new.buf =
    then_left (all_left c.requires) _ _ refl c.write_multicast-c.ensures in
    let l₂ : Left a.c all a.buf.now c.write_pings-c.result (reports a.plan) c.write_pings-c.new.buf = then_left l₁ _ _ refl c.write_pings-c.ensures in
    let l₃ : Left a.c all a.buf.now c.write_single-c.result (times a.plan) c.write_single-c.new.buf =
    then_left l₂ _ _ refl (rw (c.of_state.ensures a.echo.now) at c.write_single-c.ensures) in
    let l₄ : Left a.c all a.buf.now c.write_single-c-2.result (count_output a.plan.count) c.write_single-c-2.new.buf =
    then_left l₃ _ _ refl (rw (c.of_timer.ensures a.echo.now) at c.write_single-c-2.ensures) in
    last_laid l₄ (rw (c.of_count.ensures a.echo.now) at c.write_single.ensures)
