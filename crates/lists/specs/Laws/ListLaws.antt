-- What holds of each entry of a list holds of each of its parts; and those of a list that pass a test.
use Rattle.std.specs.Prelude.{ℕ, zero, suc, ◌<◌, ◌≡◌, Bool, false, ◌&&◌, length, take, drop, get_or}
use Rattle.std.proofs.Common.{arith, sym, ◌∙◌}
use Rattle.std.proofs.Math.Path.{refl, ap, ap₂}
use Rattle.std.proofs.Math.Bool.{cond}
use mathlib.Core.List.{List, [], ◌∷◌, ◌++◌, map}
use Rattle.lists.specs.Lists.{keep}
use Rattle.lists.specs.Laws.Bools.{split, cond-true, cond-false}
use Rattle.lists.specs.Laws.Each.{Each, nil, ◌▸◌}

module _ {A : Type 0} {P : A → Type 0} where
  pub each_take : (n : ℕ) {xs : List A} → Each P xs → Each P (take n xs)
  each_take zero h = nil
  each_take (suc n) nil = nil
  each_take (suc n) (p ▸ h) = p ▸ each_take n h

  pub each_drop : (n : ℕ) {xs : List A} → Each P xs → Each P (drop n xs)
  each_drop zero h = h
  each_drop (suc n) nil = nil
  each_drop (suc n) (p ▸ h) = each_drop n h

  pub each_get_d : (n : ℕ) (d : A) → P d → {xs : List A} → Each P xs → P (get_or xs n d)
  each_get_d n d q nil = q
  each_get_d zero d q (p ▸ h) = p
  each_get_d (suc n) d q (p ▸ h) = each_get_d n d q h

  pub each_at : (n : ℕ) (d : A) {xs : List A} → Each P xs → n < length xs → P (get_or xs n d)
  each_at n d nil l = absurd (omega arith)
  each_at zero d (p ▸ h) l = p
  each_at (suc n) d (p ▸ h) l = each_at n d h (omega arith)

-- ---- those that pass a test

module _ {A : Type 0} (t : A → Bool) where
  pub keep_append : (xs ys : List A) → keep t (xs ++ ys) ≡ keep t xs ++ keep t ys
  unfolding keep
  keep_append [] ys = refl
  keep_append (x ∷ xs) ys = split (t x)
      (λ e. cond-true _ _ e ∙ ap (λ (l : List A). x ∷ l) (keep_append xs ys) ∙ ap (λ (l : List A). l ++ keep t ys) (sym (cond-true (x ∷ keep t xs) (keep t xs) e)))
      (λ e. cond-false _ _ e ∙ keep_append xs ys ∙ ap (λ (l : List A). l ++ keep t ys) (sym (cond-false (x ∷ keep t xs) (keep t xs) e)))

  pub keep_none : {xs : List A} → Each (λ x. t x ≡ false) xs → keep t xs ≡ []
  unfolding keep
  keep_none nil = refl
  keep_none (e ▸ h) = cond-false _ _ e ∙ keep_none h

module _ {A : Type 0} where
  pub keep_both : (s t : A → Bool) (xs : List A) → keep (λ x. s x && t x) xs ≡ keep t (keep s xs)
  unfolding keep
  keep_both s t [] = refl
  keep_both s t (x ∷ xs) =
      let both = keep (λ y. s y && t y) xs in
      split (s x)
      (λ e. ap (λ (b : Bool). cond (b && t x) (x ∷ both) both) e ∙ ap (λ (l : List A). cond (t x) (x ∷ l) l) (keep_both s t xs) ∙ ap (keep t) (sym (cond-true (x ∷ keep s xs) (keep s xs) e)))
      (λ e. ap (λ (b : Bool). cond (b && t x) (x ∷ both) both) e ∙ keep_both s t xs ∙ ap (keep t) (sym (cond-false (x ∷ keep s xs) (keep s xs) e)))

  pub keep_map : {B : Type 0} (t : B → Bool) (f : A → B) (xs : List A) → keep t (map f xs) ≡ map f (keep (λ x. t (f x)) xs)
  unfolding keep
  keep_map t f [] = refl
  keep_map t f (x ∷ xs) = split (t (f x))
      (λ e. cond-true _ _ e ∙ ap (λ l. f x ∷ l) (keep_map t f xs) ∙ ap (map f) (sym (cond-true (x ∷ keep (λ y. t (f y)) xs) (keep (λ y. t (f y)) xs) e)))
      (λ e. cond-false _ _ e ∙ keep_map t f xs ∙ ap (map f) (sym (cond-false (x ∷ keep (λ y. t (f y)) xs) (keep (λ y. t (f y)) xs) e)))

  -- two tests that agree on the entries
  pub keep_alike : (s t : A → Bool) {xs : List A} → Each (λ x. s x ≡ t x) xs → keep s xs ≡ keep t xs
  unfolding keep
  keep_alike s t nil = refl
  keep_alike s t (◌▸◌ {x = x} e h) = ap₂ (λ (b : Bool) (l : List A). cond b (x ∷ l) l) e (keep_alike s t h)
