-- A quantity, and the numbers behind it.
use Rattle.std.proofs.Common.{arith, sym, ◌∙◌}
use Rattle.std.specs.Prelude.{ltb, eqb}
use borrow.Author.Tests.{ltb-true}
use Rattle.signed.specs.Laws.Tests.{both}
use Rattle.midi_reader.specs.Laws.Stepping.{size_small, event_is, event_is_none, no_event}
use Rattle.midi_reader.proofs.reading.tempo_event.Goals as goal

pub returns-in_err-value : goal.returns-in_err-value
returns-in_err-value c = c.from_residual.ensures ∙ no_event _ c.in_err-value.ensures

pub overflow_add-size : goal.overflow_add-size
overflow_add-size c = omega (arith, size_small _ _ c.in_ok-value.ensures)

pub overflow_add-result : goal.overflow_add-result
overflow_add-result c = omega (arith, size_small _ _ c.in_ok-value.ensures)

pub overflow_sub-result : goal.overflow_sub-result
overflow_sub-result c =
    let y = c.read-event.result in
    let e = both (eqb c.read-kind.result 0xff51) _ (sym c.is_tempo.ensures ∙ c.if-is_tempo.true) in
    omega (arith, ltb-true 0x0300_0000 y (both (ltb 0x0300_0000 y) _ e.1).0)

pub returns-then-is_tempo : goal.returns-then-is_tempo
returns-then-is_tempo c =
    event_is _ _ c.in_ok-value.ensures _ _ c.read-kind.ensures c.read-event.ensures (sym c.is_tempo.ensures ∙ c.if-is_tempo.true)

pub returns-else-is_tempo : goal.returns-else-is_tempo
returns-else-is_tempo c =
    event_is_none _ _ c.in_ok-value.ensures _ _ c.read-kind.ensures c.read-event.ensures (sym c.is_tempo.ensures ∙ c.if-is_tempo.false)
