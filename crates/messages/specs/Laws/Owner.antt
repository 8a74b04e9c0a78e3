-- The neighbour that a message is from: the first for which a test holds.
use Rattle.std.specs.Prelude.{ℕ, suc, ◌≡◌, Bool, true, false, cond, not, ltb, length, Option, Some, None, is_some}
use Rattle.std.proofs.Math.Path.{refl}
use Rattle.std.proofs.Common.{sym, ap, ◌∙◌, arith, lt-ltb}
use mathlib.Core.List.{List, [], ◌∷◌}
use Rattle.lists.specs.Lists.{empty, found, first}
use Rattle.lists.specs.Inner.Places.{place_from, place_of}

module _ {A : Type 0} where
  pub some_held : (l : List A) → ltb 0 (length l) ≡ not (empty l)
  some_held [] = refl
  some_held (x ∷ xs) = lt-ltb 0 (length (x ∷ xs)) (omega arith)

  is_some_by : (b : Bool) (k : ℕ) (x : A) (p : Option ℕ) (o : Option A) → is_some p ≡ found o → is_some (cond b (Some k) p) ≡ found (cond b (Some x) o)
  is_some_by true k x p o e = refl
  is_some_by false k x p o e = e

  is_some_from : (t : A → Bool) (k : ℕ) (l : List A) → is_some (place_from t k l) ≡ found (first t l)
  unfolding place_from first
  is_some_from t k [] = refl
  is_some_from t k (x ∷ xs) = is_some_by (t x) k x (place_from t (suc k) xs) (first t xs) (is_some_from t (suc k) xs)

  -- there is a place where there is a first
  pub is_held : (t : A → Bool) (l : List A) → is_some (place_of t l) ≡ found (first t l)
  is_held t l = is_some_from t 0 l

  abbrev passes : (A → Bool) → Option A → Bool
  passes t None = true
  passes t (Some x) = t x

  passes_by : (b : Bool) (t : A → Bool) (x : A) (o : Option A) → t x ≡ b → passes t o ≡ true → passes t (cond b (Some x) o) ≡ true
  passes_by true t x o e r = e
  passes_by false t x o e r = r

  first_passes : (t : A → Bool) (l : List A) → passes t (first t l) ≡ true
  unfolding first
  first_passes t [] = refl
  first_passes t (x ∷ xs) = passes_by (t x) t x (first t xs) refl (first_passes t xs)

  -- the test holds of the first
  pub holds : (t : A → Bool) (l : List A) (x : A) → first t l ≡ Some x → t x ≡ true
  holds t l x e = sym (ap (passes t) e) ∙ first_passes t l
