-- The best of a list in two parts, and of nothing more.
use Rattle.std.specs.Prelude.{◌≡◌, cond, ℤ, Option, Some, None}
use Rattle.std.proofs.Math.Path.{refl, ap}
use mathlib.Core.List.{List, [], ◌∷◌, ◌++◌}
use Rattle.std.specs.Int.Signed.{le_z}
use Rattle.lists.specs.Lists.{best_from, best}

module _ {A : Type 0} (value : A → ℤ) where
  from_append : (b : A) (xs ys : List A) → best_from value b (xs ++ ys) ≡ best_from value (best_from value b xs) ys
  unfolding best_from
  from_append b [] ys = refl
  from_append b (x ∷ xs) ys = from_append (cond (le_z (value x) (value b)) b x) xs ys

  pub best_append : (b : Option A) (xs ys : List A) → best value b (xs ++ ys) ≡ best value (best value b xs) ys
  unfolding best
  best_append (Some b) xs ys = ap Some (from_append b xs ys)
  best_append None [] ys = refl
  best_append None (x ∷ xs) ys = ap Some (from_append x xs ys)

  pub best_nil : (b : Option A) → best value b [] ≡ b
  unfolding best best_from
  best_nil (Some b) = refl
  best_nil None = refl
