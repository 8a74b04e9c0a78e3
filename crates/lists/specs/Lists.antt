-- What is done with the entries of a list.
use Rattle.std.specs.Prelude.{ℕ, Bool, true, false, not, cond, List, [], ◌∷◌, eqb, ltb, ℤ, Option, Some, None}
use Rattle.std.specs.Int.Signed.{le_z}

module _ {A : Type 0} where
  abbrev pub empty : List A → Bool
  empty [] = true
  empty (x ∷ xs) = false

  abbrev pub found : Option A → Bool
  found None = false
  found (Some x) = true

  -- whether there is one, and the test holds of it
  abbrev pub holds : (A → Bool) → Option A → Bool
  holds t None = false
  holds t (Some x) = t x

  -- the first for which the test holds
  unfoldable pub first : (A → Bool) → List A → Option A
  first t [] = None
  first t (x ∷ xs) = cond (t x) (Some x) (first t xs)

  -- those for which the test holds
  unfoldable pub keep : (A → Bool) → List A → List A
  keep t [] = []
  keep t (x ∷ xs) = cond (t x) (x ∷ keep t xs) (keep t xs)

  -- the first for which the test holds is changed where it stands
  unfoldable pub change : (A → Bool) → (A → A) → List A → List A
  change t f [] = []
  change t f (x ∷ xs) = cond (t x) (f x ∷ xs) (x ∷ change t f xs)

-- ---- entries by ascending key

module _ {A : Type 0} (key : A → ℕ) where
  -- in front of the first with a larger key
  unfoldable pub insert : A → List A → List A
  insert x [] = x ∷ []
  insert x (y ∷ ys) = cond (ltb (key x) (key y)) (x ∷ (y ∷ ys)) (y ∷ insert x ys)

  abbrev pub has_key : ℕ → A → Bool
  has_key k x = eqb (key x) k

  -- In the place of the one with its key, or inserted where none has it: so a list in no order, which no calls lead to and no ordered map is like, grows by
  -- a new key only.
  unfoldable pub upsert : A → List A → List A
  upsert x xs = cond (found (first (has_key (key x)) xs)) (change (has_key (key x)) (λ y. x) xs) (insert x xs)

  -- all but those with this key
  unfoldable pub without : ℕ → List A → List A
  without k xs = keep (λ x. not (has_key k x)) xs

-- ---- the largest

module _ {A : Type 0} (value : A → ℤ) where
  -- of b and of a list the first of the largest value
  unfoldable pub best_from : A → List A → A
  best_from b [] = b
  best_from b (x ∷ xs) = best_from (cond (le_z (value x) (value b)) b x) xs

  -- where there may be none to begin with
  unfoldable pub best : Option A → List A → Option A
  best (Some b) xs = Some (best_from b xs)
  best None [] = None
  best None (x ∷ xs) = Some (best_from x xs)
