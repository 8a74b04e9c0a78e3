-- What a call gives, in place and by value, in terms of the definition.
use Rattle.std.specs.Prelude.{ℕ, ◌≡◌, List, ℤ}
use Rattle.model.specs.Calls.{Call, refused, step, next, outcome_number}
use Rattle.engine_state.specs.declared.core_state.Core.{Core}
use Rattle.engine_state.specs.declared.Engine.{Engine}
use Rattle.engine_state.specs.Held.{held_in, held}
use Rattle.call.specs.declared.Told.{Told}
use Rattle.call.specs.declared.Called.{Called}

-- In place: the number, and the box that the core and the tables mean after it. A call that is turned down gives back the very core, and leaves both tables.
pub record ReturnsIn (e : Core) (words : List ℕ) (numbers : List ℤ) (c : Call) (r : Told) (words' : List ℕ) (numbers' : List ℤ) : Type 0 where
  pub number_is : r.number ≡ outcome_number (step (held_in e words numbers) c)
  pub engine_is : held_in r.core words' numbers' ≡ next (held_in e words numbers) (step (held_in e words numbers) c)
  pub stays : (n : ℕ) → step (held_in e words numbers) c ≡ refused n → (r.core ≡ e) × (words' ≡ words) × (numbers' ≡ numbers)

-- By value: the number, and the box that the engine means: `held` says nothing of the rows from the count on. A call that is turned down gives back the
-- very engine.
pub record Returns (e : Engine) (c : Call) (r : Called) : Type 0 where
  pub number_is : r.number ≡ outcome_number (step (held e) c)
  pub engine_is : held r.engine ≡ next (held e) (step (held e) c)
  pub stays : (n : ℕ) → step (held e) c ≡ refused n → r.engine ≡ e
