-- How much a part of a plan puts out, and how much at most.
use Rattle.std.specs.Prelude.{ℕ, ◌≤◌, ◌≡◌, List, length}
use Rattle.model.specs.Engine.{Output}
use Rattle.model.specs.Answer.{contents}
use Rattle.answer.specs.declared.extent.Extent.{Extent}

pub record Extends (os : List Output) (most room : ℕ) (r : Extent) : Type 0 where
  pub outputs : r.outputs ≡ length os
  pub bytes : r.bytes ≡ length (contents os)
  pub few : r.outputs ≤ most
  pub small : r.bytes ≤ room
