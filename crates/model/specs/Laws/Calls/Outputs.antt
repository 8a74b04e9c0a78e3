-- How much a call puts out: at most 73 outputs, whose answer fits 4,096 bytes, from any box within 16 neighbours and 4 interfaces.
-- The definitions; the theorems stand in proofs/Laws/Calls/Outputs.
use Rattle.std.specs.Prelude.{ℕ, ◌+◌, ◌≤◌}
use mathlib.Core.List.{List, [], ◌∷◌}
use Rattle.std.proofs.Math.ListN.{length}
use Rattle.model.specs.Engine.{Output}
use Rattle.model.specs.Answer.{content}

-- ---- how large an answer is

-- its kind, its length and its content
abbrev pub size : Output → ℕ
size o = 3 + length (content o)

unfoldable pub sizes : List Output → ℕ
sizes [] = 0
sizes (o ∷ os) = size o + sizes os

-- ---- at most so many outputs, of so many bytes

pub record Upto (n b : ℕ) (os : List Output) : Type 0 where
  pub few : length os ≤ n
  pub small : sizes os ≤ b
