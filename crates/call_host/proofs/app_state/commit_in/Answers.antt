-- `call_host::app_state::commit_in` meets its contract.
use Rattle.std.proofs.Common.{refl, sym, ◌∙◌, arith, length, []}
use Rattle.model.specs.Calls.{commit, done, then_produce, commit_app_state, step}
use Rattle.lists.specs.Laws.Bools.{cond-true, cond-false}
use Rattle.timeline.proofs.Comparisons.{state_is}
use Rattle.engine_state.specs.Held.{core_box, held_in}
use Rattle.call.specs.Laws.Admitted.{number_above}
use Rattle.call.specs.Laws.Ended.{ends_at_once, ends_done, ends_empty}
use Rattle.call_host.proofs.app_state.commit_in.Goals as goal

pub returns-in-Err : goal.returns-in-Err
unfolding step
returns-in-Err c =
    let s = c.args in
    let r = ends_at_once s.e s.words.now s.numbers.now (commit s.state s.at (length s.buf.now)) s.buf.now s.at (commit_app_state (held_in s.e s.words.now s.numbers.now) s.state s.at) refl _ (c.number.ensures ∙ c.in-Err.ensures)
    (λ z. number_above c.in-Err.refusal (sym c.number.ensures ∙ z)) in
    record { returns_in = r.0; buf_after = r.1 }

pub returns-then-eq : goal.returns-then-eq
unfolding step commit_app_state core_box
returns-then-eq c =
    let s = c.args in
    let r = ends_empty s.e s.words.now s.numbers.now (commit s.state s.at (length s.buf.now)) s.buf.now s.at (commit_app_state (held_in s.e s.words.now s.numbers.now) s.state s.at) refl 0 c.in_default.ensures refl _
    (cond-true (done (held_in s.e s.words.now s.numbers.now) []) _ (sym (state_is s.e.state s.state) ∙ sym c.eq.ensures ∙ c.if-eq.true))
    c.write_empty.ensures in
    record { returns_in = r.0; buf_after = r.1 }

pub returns : goal.returns
unfolding step commit_app_state then_produce core_box
returns c =
    let s = c.args in
    let t = c.commit_new-core in
    let r = ends_done s.e s.words.now s.numbers.now (commit s.state s.at (length s.buf.now)) s.buf.now s.at (commit_app_state (held_in s.e s.words.now s.numbers.now) s.state s.at) refl 0 c.in_default.ensures refl _ _ [] t.result _ _ _
    (cond-false (done (held_in s.e s.words.now s.numbers.now) []) _ (sym (state_is s.e.state s.state) ∙ sym c.eq.ensures ∙ c.if-eq.false))
    (omega arith)
    t.ensures.numbers_after
    t.ensures.buf_after in
    record { returns_in = r.0; buf_after = r.1 }
