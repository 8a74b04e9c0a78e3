-- A call by value returns what the call in place made of the engine's parts; the two ways in which it does: turned down, or done.
use Rattle.std.specs.Prelude.{ℕ, ◌≡◌, List, ℤ}
use Rattle.std.proofs.Common.{sym, ap, ◌∙◌}
use Rattle.model.specs.Engine.{Box, Output}
use Rattle.model.specs.Laws.Tools.Outcomes.{refused_done}
use Rattle.model.specs.Calls.{Call, refused, done, step, next, outcome_number}
use Rattle.engine_state.specs.declared.core_state.Core.{Core}
use Rattle.engine_state.specs.declared.Engine.{Engine}
use Rattle.engine_state.specs.Held.{held}
use Rattle.call.specs.declared.Told.{Told}
use Rattle.call.specs.declared.Called.{Called}
use Rattle.call.specs.Called.{ReturnsIn, Returns}

abbrev pub engine : Core → List ℕ → List ℤ → Engine
engine core words numbers = record { core = core; words = words; numbers = numbers }

module _ (e : Engine) (c : Call) where
  -- the parts, put together again
  pub by_value : (r : Told) (words : List ℕ) (numbers : List ℤ) → ReturnsIn e.core e.words e.numbers c r words numbers
      → Returns e c (record { engine = engine r.core words numbers; number = r.number })
  by_value r words numbers says = record {
    number_is = says.number_is;
    engine_is = says.engine_is;
    stays = λ n k. let s = says.stays n k in
        ap (λ (x : Core). engine x words numbers) s.0 ∙ ap (λ (w : List ℕ). engine e.core w numbers) s.1 ∙ ap (engine e.core e.words) s.2;
  }

  module _ (r : Called) where
    pub returns_refused : (n : ℕ) → step (held e) c ≡ refused n → r.number ≡ n → r.engine ≡ e → Returns e c r
    returns_refused n h num same = record {
      number_is = num ∙ sym (ap outcome_number h);
      engine_is = ap held same ∙ sym (ap (next (held e)) h);
      stays = λ m k. same;
    }

    pub returns_done : (b : Box) (os : List Output) → step (held e) c ≡ done b os → r.number ≡ 0 → held r.engine ≡ b → Returns e c r
    returns_done b os h num means = record {
      number_is = num ∙ sym (ap outcome_number h);
      engine_is = means ∙ sym (ap (next (held e)) h);
      stays = λ m k. refused_done m b os (sym k ∙ h);
    }
