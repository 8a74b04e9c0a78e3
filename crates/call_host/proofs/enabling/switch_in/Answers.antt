-- `call_host::enabling::switch_in` meets its contract.
use Rattle.std.proofs.Common.{refl, sym, ◌∙◌, arith, length, []}
use Rattle.model.specs.Calls.{switch, done, then_produce, switch_on, switch_off, set_enabled, step}
use Rattle.lists.specs.Laws.Bools.{cond-true, cond-false}
use Rattle.engine_state.specs.Held.{core_box, held_in}
use Rattle.call.specs.Laws.Admitted.{number_above}
use Rattle.call.specs.Laws.Ended.{ends_at_once, ends_done, ends_empty}
use Rattle.call_host.proofs.enabling.switch_in.Goals as goal

pub returns-in-Err : goal.returns-in-Err
unfolding step
returns-in-Err c =
    let s = c.args in
    let r = ends_at_once s.e s.words.now s.numbers.now (switch s.enabled s.at (length s.buf.now)) s.buf.now s.at (set_enabled (held_in s.e s.words.now s.numbers.now) s.enabled s.at) refl _ (c.number.ensures ∙ c.in-Err.ensures)
    (λ z. number_above c.in-Err.refusal (sym c.number.ensures ∙ z)) in
    record { returns_in = r.0; buf_after = r.1 }

pub returns-then-e-enabled : goal.returns-then-e-enabled
unfolding step set_enabled core_box
returns-then-e-enabled c =
    let s = c.args in
    let r = ends_empty s.e s.words.now s.numbers.now (switch s.enabled s.at (length s.buf.now)) s.buf.now s.at (set_enabled (held_in s.e s.words.now s.numbers.now) s.enabled s.at) refl 0 c.in_default.ensures refl _
    (cond-true (done (held_in s.e s.words.now s.numbers.now) []) _ c.if-e-enabled.true)
    c.write_empty.ensures in
    record { returns_in = r.0; buf_after = r.1 }

pub returns-then-enabled : goal.returns-then-enabled
unfolding step set_enabled then_produce switch_on core_box
returns-then-enabled c =
    let s = c.args in
    let b = held_in s.e s.words.now s.numbers.now in
    let t = c.switch_on-core in
    let r = ends_done s.e s.words.now s.numbers.now (switch s.enabled s.at (length s.buf.now)) s.buf.now s.at (set_enabled (held_in s.e s.words.now s.numbers.now) s.enabled s.at) refl 0 c.in_default.ensures refl _ _ [] t.result _ _ _
    (cond-false (done b []) _ c.if-e-enabled.false ∙ cond-true (switch_on b s.at) (switch_off b) c.if-enabled.true)
    (omega arith)
    t.ensures.numbers_after
    t.ensures.buf_after in
    record { returns_in = r.0; buf_after = r.1 }

pub returns-else-enabled : goal.returns-else-enabled
unfolding step set_enabled switch_off core_box
returns-else-enabled c =
    let s = c.args in
    let b = held_in s.e s.words.now s.numbers.now in
    let t = c.switch_off-core in
    let r = ends_done s.e s.words.now s.numbers.now (switch s.enabled s.at (length s.buf.now)) s.buf.now s.at (set_enabled (held_in s.e s.words.now s.numbers.now) s.enabled s.at) refl 0 c.in_default.ensures refl _ _ [] t.result s.words.now s.numbers.now _
    (cond-false (done b []) _ c.if-e-enabled.false ∙ cond-false (switch_on b s.at) (switch_off b) c.if-enabled.false)
    (omega arith)
    (t.ensures.by_index s.words.now s.numbers.now)
    t.ensures.buf_after in
    record { returns_in = r.0; buf_after = r.1 }
