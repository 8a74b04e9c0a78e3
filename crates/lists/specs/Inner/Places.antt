-- Places in lists: where the first stands for which a test holds.
use Rattle.std.specs.Prelude.{ℕ, suc, Bool, cond, List, [], ◌∷◌, ◌++◌, take, drop, Option, Some, None}

module _ {A : Type 0} (t : A → Bool) where
  -- in a list whose first place is k
  unfoldable pub place_from : ℕ → List A → Option ℕ
  place_from k [] = None
  place_from k (x ∷ xs) = cond (t x) (Some k) (place_from (suc k) xs)

  -- the place of the first for which the test holds
  abbrev pub place_of : List A → Option ℕ
  place_of l = place_from 0 l

-- one more, at a place
abbrev pub put_at : {A : Type 0} → ℕ → A → List A → List A
put_at at x l = take at l ++ (x ∷ drop at l)
