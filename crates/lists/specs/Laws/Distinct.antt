-- Lists in which nothing stands twice.
use Rattle.std.specs.Prelude.{ℕ, zero, suc, ◌<◌, ◌≡◌, refl, ◌≢◌, Bool, true, false, List, [], ◌∷◌, ◌++◌, length, take, get_or}
use Rattle.std.proofs.Common.{arith, sym, ap, ◌∙◌}
use Rattle.lists.specs.Lists.{found, first}
use Rattle.lists.specs.Laws.Bools.{clash}
use Rattle.lists.specs.Laws.Each.{Each, nil, ◌▸◌, each, each_append, first_none}
use Rattle.lists.specs.Laws.ListLaws.{each_take, each_at}

module _ {A : Type 0} where
  -- each is unlike all behind it
  pub data Distinct : List A → Type 0 where
    no_two : Distinct []
    apart : {x : A} {xs : List A} → Each (λ y. y ≢ x) xs → Distinct xs → Distinct (x ∷ xs)

  distinct_append : {xs : List A} → Distinct xs → (x : A) → Each (λ y. y ≢ x) xs → Distinct (xs ++ (x ∷ []))
  distinct_append no_two x h = apart nil no_two
  distinct_append (apart {x = y} a d) x (n ▸ h) = apart (each_append a ((λ e. n (sym e)) ▸ nil)) (distinct_append d x h)

  distinct_take : (n : ℕ) {xs : List A} → Distinct xs → Distinct (take n xs)
  distinct_take zero d = no_two
  distinct_take (suc n) no_two = no_two
  distinct_take (suc n) (apart a d) = apart (each_take n a) (distinct_take n d)

  -- what a search does not find may be added, where there is room
  pub distinct_new : (same : A → A → Bool) → ((x : A) → same x x ≡ true) → (n : ℕ) {xs : List A} → Distinct xs → (x : A) → found (first (same x) xs) ≡ false → Distinct (take n (xs ++ (x ∷ [])))
  distinct_new same same_refl n {xs} d x e =
      distinct_take n (distinct_append d x (each (λ y t f. clash (sym (same_refl x) ∙ ap (same x) (sym f) ∙ t)) (first_none (same x) xs e)))

  -- two places that hold the same are one place
  pub distinct_at : {xs : List A} → Distinct xs → (d : A) (i j : ℕ) → i < length xs → j < length xs → get_or xs i d ≡ get_or xs j d → i ≡ j
  distinct_at no_two d i j h k e = absurd (omega arith)
  distinct_at (apart a s) d zero zero h k e = refl
  distinct_at (apart a s) d zero (suc j) h k e = absurd (each_at j d a (omega arith) (sym e))
  distinct_at (apart a s) d (suc i) zero h k e = absurd (each_at i d a (omega arith) e)
  distinct_at (apart a s) d (suc i) (suc j) h k e = ap suc (distinct_at s d i j (omega arith) (omega arith) e)
