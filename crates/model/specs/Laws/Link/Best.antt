-- The best of a list: it is one of them, and none is above it.
use Rattle.std.specs.Prelude.{◌≡◌, refl, ◌⊎◌, true, false, cond, ℤ, ◌≤ℤ◌, ◌<ℤ◌, Option, Some, None}
use Rattle.std.proofs.Common.{sym, inr}
use Rattle.std.proofs.Math.Path.{subst}
use Rattle.std.proofs.Math.Logic.{inl}
use mathlib.Core.List.{List, [], ◌∷◌, Memᴰ}
use Rattle.std.specs.Int.Signed.{le_z, ≤ℤ_refl}
use Rattle.signed.specs.Laws.Signs.{le_z-true, le_z-false}
use Rattle.signed.specs.Laws.Order.{≤ℤ_trans, ≤ℤ_<ℤ_trans, <ℤ-≤ℤ}
use Rattle.lists.specs.Lists.{best_from, best}
use Rattle.lists.specs.Laws.Bools.{by_cond, some_inj, none_some}
use Rattle.lists.specs.Laws.Each.{Each, nil, ◌▸◌}

-- ---- the best

module _ {A : Type 0} (value : A → ℤ) where
  -- r is b, or above it
  abbrev pub AtLeast : A → A → Type 0
  AtLeast b r = (r ≡ b) ⊎ (value b <ℤ value r)

  pub not_below : (b r : A) → AtLeast b r → value b ≤ℤ value r
  not_below b r (inl e) = subst (λ (x : A). value b ≤ℤ value x) (sym e) (≤ℤ_refl (value b))
  not_below b r (inr k) = <ℤ-≤ℤ _ _ k

  -- r is one of xs or what there is before them, and none is above it; where it is not what was before, it is above that
  pub record IsBest (before : Option A) (xs : List A) (r : A) : Type 0 where
    pub among : (before ≡ Some r) ⊎ Memᴰ r xs
    pub over : Each (λ x. value x ≤ℤ value r) xs
    pub over_before : (b : A) → before ≡ Some b → AtLeast b r

  -- what is there to begin with, or one of the list, is passed on
  best_after : (b x : A) (xs : List A) (r : A) → IsBest (Some (cond (le_z (value x) (value b)) b x)) xs r → IsBest (Some b) (x ∷ xs) r
  best_after b x xs r h = by_cond (λ (y : A). IsBest (Some y) xs r → IsBest (Some b) (x ∷ xs) r) (le_z (value x) (value b)) b x stays wins h
    where
      stays : le_z (value x) (value b) ≡ true → IsBest (Some b) xs r → IsBest (Some b) (x ∷ xs) r
      stays t h = record {
        among = go h.among;
        over = ≤ℤ_trans _ _ _ (le_z-true t) (not_below b r (h.over_before b refl)) ▸ h.over;
        over_before = h.over_before;
      }
        where
          go : (Some b ≡ Some r) ⊎ Memᴰ r xs → (Some b ≡ Some r) ⊎ Memᴰ r (x ∷ xs)
          go (inl e) = inl e
          go (inr m) = inr (Memᴰ.tail m)

      wins : le_z (value x) (value b) ≡ false → IsBest (Some x) xs r → IsBest (Some b) (x ∷ xs) r
      wins t h = record {
        among = inr (go h.among);
        over = not_below x r (h.over_before x refl) ▸ h.over;
        over_before = λ c e. inr (subst (λ (y : A). value y <ℤ value r) (some_inj b c e) (above (h.over_before x refl)));
      }
        where
          go : (Some x ≡ Some r) ⊎ Memᴰ r xs → Memᴰ r (x ∷ xs)
          go (inl e) = Memᴰ.head (sym (some_inj x r e))
          go (inr m) = Memᴰ.tail m

          above : AtLeast x r → value b <ℤ value r
          above (inl e) = subst (λ (y : A). value b <ℤ value y) (sym e) (le_z-false t)
          above (inr k) = ≤ℤ_<ℤ_trans _ _ _ (<ℤ-≤ℤ _ _ (le_z-false t)) k

  pub from_is : (b : A) (xs : List A) → IsBest (Some b) xs (best_from value b xs)
  unfolding best_from
  from_is b [] = record { among = inl refl; over = nil; over_before = λ c e. inl (some_inj b c e) }
  from_is b (x ∷ xs) = best_after b x xs (best_from value (cond (le_z (value x) (value b)) b x) xs) (from_is (cond (le_z (value x) (value b)) b x) xs)

  -- with none to begin with
  from_first : (x : A) (xs : List A) (r : A) → IsBest (Some x) xs r → IsBest None (x ∷ xs) r
  from_first x xs r h = record {
    among = inr (go h.among);
    over = not_below x r (h.over_before x refl) ▸ h.over;
    over_before = λ b e. none_some b e;
  }
    where
      go : (Some x ≡ Some r) ⊎ Memᴰ r xs → Memᴰ r (x ∷ xs)
      go (inl e) = Memᴰ.head (sym (some_inj x r e))
      go (inr m) = Memᴰ.tail m

  pub best_is : (before : Option A) (xs : List A) (r : A) → best value before xs ≡ Some r → IsBest before xs r
  unfolding best
  best_is (Some b) xs r e = subst (IsBest (Some b) xs) (some_inj _ r e) (from_is b xs)
  best_is None [] r e = none_some r e
  best_is None (x ∷ xs) r e = from_first x xs r (subst (IsBest (Some x) xs) (some_inj _ r e) (from_is x xs))

  -- there is none only where there is nothing
  pub best_none : (before : Option A) (xs : List A) → best value before xs ≡ None → (before ≡ None) × (xs ≡ [])
  unfolding best
  best_none (Some b) xs e = none_some _ (sym e)
  best_none None [] e = (refl, refl)
  best_none None (x ∷ xs) e = none_some _ (sym e)

  -- what was before stays, or one of the list is above it
  pub best_or_above : {b r : A} {xs : List A} → IsBest (Some b) xs r → (r ≡ b) ⊎ (Memᴰ r xs × (value b <ℤ value r))
  best_or_above {b} {r} {xs} h = go (h.over_before b refl) h.among
    where
      go : AtLeast b r → (Some b ≡ Some r) ⊎ Memᴰ r xs → (r ≡ b) ⊎ (Memᴰ r xs × (value b <ℤ value r))
      go (inl e) m = inl e
      go (inr k) (inl e) = inl (sym (some_inj b r e))
      go (inr k) (inr m) = inr (m, k)

  -- with nothing before the list it is one of the list
  pub best_member : {r : A} {xs : List A} → IsBest None xs r → Memᴰ r xs
  best_member {r} {xs} h = go h.among
    where
      go : (None ≡ Some r) ⊎ Memᴰ r xs → Memᴰ r xs
      go (inl e) = none_some r e
      go (inr m) = m
