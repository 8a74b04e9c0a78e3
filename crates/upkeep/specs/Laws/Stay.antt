-- Where none goes, all stay.
use Rattle.std.specs.Prelude.{◌≡◌, Bool}
use Rattle.std.proofs.Math.Path.{refl, sym, ap}
use Rattle.std.proofs.Common.{◌∙◌}
use Rattle.std.proofs.Math.Bool.{true, false, cond}
use mathlib.Core.List.{List, [], ◌∷◌}
use Rattle.lists.specs.Lists.{keep}
use Rattle.upkeep.specs.Laws.Kept.{loses, loses_later, loses_first}

module _ {A : Type 0} (t : A → Bool) where
  stay_by : (b : Bool) (x : A) (xs : List A) → t x ≡ b → loses t (x ∷ xs) ≡ false → (loses t xs ≡ false → keep t xs ≡ xs) → keep t (x ∷ xs) ≡ x ∷ xs
  unfolding keep
  stay_by true x xs e h r = ap (λ (b : Bool). cond b (x ∷ keep t xs) (keep t xs)) e ∙ ap (λ (l : List A). x ∷ l) (r (sym (loses_later t x xs e) ∙ h))
  stay_by false x xs e h r = let never : true ≡ false = sym (loses_first t x xs e) ∙ h in cc

  pub all_stay : (l : List A) → loses t l ≡ false → keep t l ≡ l
  unfolding keep
  all_stay [] h = refl
  all_stay (x ∷ xs) h = stay_by (t x) x xs refl h (all_stay xs)
