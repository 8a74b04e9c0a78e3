-- The outcomes of calls told apart.
use Rattle.std.specs.Prelude.{ℕ, ◌≡◌, List}
use Rattle.std.proofs.Common.{arith}
use Rattle.model.specs.Engine.{Box, Output}
use Rattle.model.specs.Calls.{refused, done}

pub refused_done : {X : Type 0} (n : ℕ) (e : Box) (os : List Output) → refused n ≡ done e os → X
refused_done n e os h = let z : ◌≡◌ {A = ℕ} 0 1 = cc in let y : ⊥ = omega arith in absurd y

pub done_box : (e e' : Box) (os os' : List Output) → done e os ≡ done e' os' → e ≡ e'
done_box e e' os os' h = cc

pub done_outputs : (e e' : Box) (os os' : List Output) → done e os ≡ done e' os' → os ≡ os'
done_outputs e e' os os' h = cc
