-- The words before and behind the first space.
use Rattle.std.proofs.Common.{arith, rules, sym, ap₂, ◌∙◌, ℤ, Some, SFits, length-take-le}
use Rattle.std.specs.Int.{w64}
use mir.Facts.{to_z-of_z}
use Rattle.tempo_text.specs.Laws.Words.{space_within, no_pair, no_tempo, no_origin, pair_found}
use Rattle.tempo_text.proofs.lists.pair_of.Goals as goal

pub returns-then-space-line : goal.returns-then-space-line
returns-then-space-line c = sym (no_pair _ _ c.find-space.ensures c.if-space-line.true)

pub slice_bounds-number_of-end : goal.slice_bounds-number_of-end
slice_bounds-number_of-end c = sym (length-take-le _ _ (space_within _ _ c.find-space.ensures))

pub returns-in_err-tempo : goal.returns-in_err-tempo
returns-in_err-tempo c = c.from_residual.ensures ∙ no_tempo _ _ c.find-space.ensures c.in_err-tempo.ensures

pub overflow_add-space : goal.overflow_add-space
overflow_add-space c = omega (arith, space_within _ _ c.find-space.ensures)

pub slice_bounds-number_of-count : goal.slice_bounds-number_of-count
slice_bounds-number_of-count c = omega (arith, space_within _ _ c.find-space.ensures)

pub slice_bounds-number_of-start : goal.slice_bounds-number_of-start
slice_bounds-number_of-start c = omega (arith, space_within _ _ c.find-space.ensures)

pub returns-in_err-beat_origin : goal.returns-in_err-beat_origin
returns-in_err-beat_origin c =
    c.from_residual-in_err-beat_origin.ensures ∙ no_origin _ _ c.find-space.ensures _ c.in_ok-tempo.ensures c.in_err-beat_origin.ensures

pub returns : goal.returns
returns c =
    let f : SFits w64 c.in_ok-tempo.tempo = search rules in
    let g : SFits w64 c.in_ok-beat_origin.beat_origin = search rules in
    ap₂ (λ (x y : ℤ). Some (record { tempo = record { 0 = x }; beat_origin = record { 0 = y } })) (to_z-of_z f) (to_z-of_z g)
    ∙ pair_found _ _ c.find-space.ensures _ c.in_ok-tempo.ensures _ c.in_ok-beat_origin.ensures
