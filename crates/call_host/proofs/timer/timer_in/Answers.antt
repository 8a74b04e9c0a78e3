-- `call_host::timer::timer_in` meets its contract.
use Rattle.std.proofs.Common.{refl, sym, ◌∙◌, arith, length, []}
use Rattle.model.specs.Calls.{tick, then_produce, handle_timer, step}
use Rattle.answer.specs.Inner.Planned.{reply_outputs, state_outputs}
use Rattle.engine_state.specs.Held.{held_in}
use Rattle.call.specs.Laws.Admitted.{number_above}
use Rattle.call.specs.Laws.Ended.{ends_at_once, ends_done}
use Rattle.call_host.proofs.timer.timer_in.Goals as goal

pub returns-in-Err : goal.returns-in-Err
unfolding step
returns-in-Err c =
    let s = c.args in
    let r = ends_at_once s.e s.words.now s.numbers.now (tick s.at (length s.buf.now)) s.buf.now s.at (handle_timer (held_in s.e s.words.now s.numbers.now) s.at) refl _ (c.number.ensures ∙ c.in-Err.ensures)
    (λ z. number_above c.in-Err.refusal (sym c.number.ensures ∙ z)) in
    record { returns_in = r.0; buf_after = r.1 }

pub returns : goal.returns
unfolding step handle_timer then_produce reply_outputs state_outputs
returns c =
    let s = c.args in
    let t = c.then_produce-core in
    let r = ends_done s.e s.words.now s.numbers.now (tick s.at (length s.buf.now)) s.buf.now s.at (handle_timer (held_in s.e s.words.now s.numbers.now) s.at) refl 0 c.in_default.ensures refl _ _ [] t.result _ _ _ refl (omega arith)
    t.ensures.numbers_after
    t.ensures.buf_after in
    record { returns_in = r.0; buf_after = r.1 }
