-- What is put together are the parts of upkeep.
use Rattle.std.proofs.Common.{Some, None, sym, ap, ◌∙◌, rules, refl, cond, SFits}
use Rattle.std.proofs.Math.Path.{ap₂}
use Rattle.std.specs.Int.{w64}
use borrow.Author.Tests.{not-true, not-false}
use Rattle.std.specs.Int.Signed.{le_z}
use Rattle.time.specs.declared.HostTime.{HostTime}
use Rattle.model.specs.Engine.{Produced}
use Rattle.model.specs.Produce.{timer_outputs}
use Rattle.interface_map.specs.Held.{interfaces_of}
use Rattle.peer_table.specs.Rows.{peers_of}
use Rattle.engine_state.specs.declared.OwnState.{OwnState}
use Rattle.engine_state.specs.Held.{core_box, held_in}
use Rattle.answer.specs.declared.Multicast.TheVariants as packets
use Rattle.answer.specs.declared.Plan.{Plan}
use Rattle.upkeep.specs.Inner.Decided.{decided}
use Rattle.upkeep.specs.Laws.Whole.{disabled, Upkept, timed, box_is, outputs_are}
use Rattle.upkeep.proofs.produce_outputs.Goals as goal

pub returns-then-not-e : goal.returns-then-not-e
unfolding core_box
returns-then-not-e c =
    let a = c.args in
    let off = disabled a.at (held_in a.e a.words.now a.numbers.now) (not-true _ c.if-not-e.true) in
    record {
      numbers_after = sym (ap (λ (r : Produced). r.box) off);
      interfaces_after = c.no_plan.ensures a.asked.now (interfaces_of a.e.interfaces) ∙ sym (ap (λ (r : Produced). r.outputs) off);
    }

pub returns : goal.returns
unfolding core_box
returns c =
    let a = c.args in
    let e = a.e in
    let at = a.at in
    let ps = peers_of e.count a.words.now a.numbers.now in
    let r = c.settle-settled.result in
    let known = c.settle-settled.ensures in
    let next = c.next_after-next.result in
    let plan : Plan = record {
      multicast = c.broadcast.result;
      now = at;
      asked = r.asked;
      report = r.resolved.report;
      timer = r.timer;
      count = c.changed_count.result;
    } in
    let fits : SFits w64 next.0 = search rules in
    let upkept : Upkept at e ps _ r.resolved r.count _ plan = record {
      neighbours = known.neighbours;
      election = known.election ∙ ap₂ (λ (y : OwnState) (t : HostTime). decided at y t ps) c.own-own.ensures c.next_after-next.ensures;
      number = known.number;
      multicast = c.broadcast.ensures ∙ ap (λ (y : OwnState). cond (le_z e.next_broadcast.0 at.0) (Some (packets.Alive y)) None) c.own-own.ensures;
      time = refl;
      pings = known.pings;
      report = refl;
      timer = known.timer ∙ ap timer_outputs (timed at e ps next fits c.next_after-next.ensures);
      count = c.changed_count.ensures;
    } in
    let enabled = not-false _ c.if-not-e.false in
    record {
      numbers_after = box_is at e ps _ r.resolved r.count _ plan upkept enabled;
      interfaces_after = outputs_are at e ps _ r.resolved r.count _ plan upkept enabled;
    }
