-- The two ways in which a call in place returns: turned down, or done.
use Rattle.std.specs.Prelude.{ℕ, ◌≡◌, refl, List, ℤ}
use Rattle.std.proofs.Common.{sym, ap, ◌∙◌}
use Rattle.model.specs.Engine.{Box, Output}
use Rattle.model.specs.Laws.Tools.Outcomes.{refused_done}
use Rattle.model.specs.Calls.{Call, refused, done, step, next, outcome_number}
use Rattle.engine_state.specs.declared.core_state.Core.{Core}
use Rattle.engine_state.specs.Held.{held_in}
use Rattle.call.specs.declared.Told.{Told}
use Rattle.call.specs.Called.{ReturnsIn}

module _ (e : Core) (words : List ℕ) (numbers : List ℤ) (c : Call) where
  pub told_refused : (n : ℕ) → step (held_in e words numbers) c ≡ refused n → ReturnsIn e words numbers c (record { core = e; number = n }) words numbers
  told_refused n h = record {
    number_is = sym (ap outcome_number h);
    engine_is = sym (ap (next (held_in e words numbers)) h);
    stays = λ m k. (refl, refl, refl);
  }

  pub told_done : (r : Told) (words' : List ℕ) (numbers' : List ℤ) (b : Box) (os : List Output) → step (held_in e words numbers) c ≡ done b os
      → r.number ≡ 0 → held_in r.core words' numbers' ≡ b → ReturnsIn e words numbers c r words' numbers'
  told_done r words' numbers' b os h num means = record {
    number_is = num ∙ sym (ap outcome_number h);
    engine_is = means ∙ sym (ap (next (held_in e words numbers)) h);
    stays = λ m k. refused_done m b os (sym k ∙ h);
  }
