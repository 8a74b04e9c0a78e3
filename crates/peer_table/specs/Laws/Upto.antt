-- Lists of what stands at the places from one on: what a walk has left, and what a changed place makes of them.
use Prim.Native.Nat.{ℕ, zero, suc, ◌+◌, ◌-◌, ◌<◌, ◌≤◌}
use native.Mathlib.Omega.{arith}
use Rattle.std.specs.Prelude.{◌≡◌, Bool, true, false, length, get_or, set, take, drop, map, Some}
use Rattle.std.proofs.Math.Path.{refl, ap, ap₂}
use Rattle.std.proofs.Common.{sym, ◌∙◌}
use Rattle.std.proofs.Math.Seq.{drop-cons}
use mathlib.Core.List.{List, [], ◌∷◌, ◌++◌}
use Rattle.lists.specs.Lists.{found, first, keep}
use Rattle.lists.specs.Inner.Places.{place_from}
use Rattle.peer_table.specs.Rows.{upto}

module _ {A : Type 0} where
  pub length-upto : (f : ℕ → A) (i k : ℕ) → length (upto f i k) ≡ k
  unfolding upto
  length-upto f i zero = refl
  length-upto f i (suc k) = ap suc (length-upto f (suc i) k)

  pub map_upto : {B : Type 0} (g : A → B) (f : ℕ → A) (i k : ℕ) → map g (upto f i k) ≡ upto (λ j. g (f j)) i k
  unfolding upto
  map_upto g f i zero = refl
  map_upto g f i (suc k) = ap (λ (l : List _). g (f i) ∷ l) (map_upto g f (suc i) k)

  pub none_left : (f : ℕ → A) (i n : ℕ) → n ≤ i → upto f i (n - i) ≡ []
  unfolding upto
  none_left f i n h = let e : n - i ≡ 0 = omega (arith, h) in rw e

  module _ (f : ℕ → A) (i n : ℕ) (h : i < n) where
    pub rest : upto f i (n - i) ≡ f i ∷ upto f (i + 1) (n - (i + 1))
    unfolding upto
    rest =
        let e : n - i ≡ suc (n - (i + 1)) = omega (arith, h) in
        let s : suc i ≡ i + 1 = omega arith in
        ap (upto f i) e ∙ ap (λ (k : ℕ). f i ∷ upto f k (n - (i + 1))) s

    module _ (t : A → Bool) where
      pub hit : t (f i) ≡ true → place_from t i (upto f i (n - i)) ≡ Some i
      unfolding place_from
      hit e = rw (rest, e)

      pub miss : t (f i) ≡ false → place_from t (i + 1) (upto f (i + 1) (n - (i + 1))) ≡ place_from t i (upto f i (n - i))
      unfolding place_from
      miss e =
          let s : suc i ≡ i + 1 = omega arith in
          rw (rest, e, s)

      -- whether there is one
      pub seen : t (f i) ≡ true → found (first t (upto f i (n - i))) ≡ true
      unfolding first
      seen e = rw (rest, e)

      pub unseen : t (f i) ≡ false → found (first t (upto f (i + 1) (n - (i + 1)))) ≡ found (first t (upto f i (n - i)))
      unfolding first
      unseen e = rw (rest, e)

      pub stay : t (f i) ≡ true → keep t (upto f i (n - i)) ≡ f i ∷ keep t (upto f (i + 1) (n - (i + 1)))
      unfolding keep
      stay e = rw (rest, e)

      pub go : t (f i) ≡ false → keep t (upto f i (n - i)) ≡ keep t (upto f (i + 1) (n - (i + 1)))
      unfolding keep
      go e = rw (rest, e)

    -- r is what was folded so far, with the one at i
    pub folded : {S : Type 0} (fold : S → List A → S) (step : S → A → S) → ((s : S) (x : A) (ys : List A) → fold s (x ∷ ys) ≡ fold (step s x) ys) → (s r : S) → r ≡ step s (f i) → fold r (upto f (i + 1) (n - (i + 1))) ≡ fold s (upto f i (n - i))
    folded fold step each s r e =
        let ys = upto f (i + 1) (n - (i + 1)) in
        ap (λ a. fold a ys) e ∙ sym (each s (f i) ys) ∙ ap (fold s) (sym rest)

  -- functions that are equal from j on, as far as a bound
  pub upto_same : (f g : ℕ → A) (j k : ℕ) → ((m : ℕ) → j ≤ m → m < j + k → g m ≡ f m) → upto g j k ≡ upto f j k
  unfolding upto
  upto_same f g j zero h = refl
  upto_same f g j (suc k) h = ap₂ ◌∷◌ (h j (omega arith) (omega arith)) (upto_same f g (suc j) k (λ m a b. h m (omega (arith, a)) (omega (arith, b))))

  -- functions that are equal but at j + d
  pub upto_set : (f g : ℕ → A) (p : A) (d j k : ℕ) → ((m : ℕ) → (m ≡ j + d → ⊥) → g m ≡ f m) → (d < k → g (j + d) ≡ p) → upto g j k ≡ set (upto f j k) d p
  unfolding upto
  upto_set f g p zero j zero same e = refl
  upto_set f g p (suc d) j zero same e = refl
  upto_set f g p zero j (suc k) same e =
      let s : j ≡ j + 0 = omega arith in
      ap₂ ◌∷◌ (ap g s ∙ e (omega arith)) (upto_same f g (suc j) k (λ m a b. same m (λ q. omega (arith, a, q))))
  upto_set f g p (suc d) j (suc k) same e =
      let s : suc j + d ≡ j + suc d = omega arith in
      ap₂ ◌∷◌ (same j (λ q. omega (arith, q))) (upto_set f g p d (suc j) k (λ m q. same m (λ r. q (omega (arith, r)))) (λ h. ap g s ∙ e (omega (arith, h))))

  -- one more at the end
  pub snoc_from : (f : ℕ → A) (j k : ℕ) → upto f j (suc k) ≡ upto f j k ++ (f (j + k) ∷ [])
  unfolding upto
  snoc_from f j zero = let e : j ≡ j + 0 = omega arith in ap (λ (m : ℕ). f m ∷ []) e
  snoc_from f j (suc k) =
      let e : suc j + k ≡ j + suc k = omega arith in
      ap (λ (l : List A). f j ∷ l) (snoc_from f (suc j) k ∙ ap (λ (m : ℕ). upto f (suc j) k ++ (f m ∷ [])) e)

  pub upto_snoc : (f : ℕ → A) (k : ℕ) → upto f 0 (k + 1) ≡ upto f 0 k ++ (f k ∷ [])
  upto_snoc f k =
      let e : k + 1 ≡ suc k = omega arith in
      let z : 0 + k ≡ k = omega arith in
      ap (upto f 0) e ∙ snoc_from f 0 k ∙ ap (λ (m : ℕ). upto f 0 k ++ (f m ∷ [])) z

  -- the first of them
  pub take-upto : (f : ℕ → A) (j m k : ℕ) → m ≤ k → take m (upto f j k) ≡ upto f j m
  unfolding upto
  take-upto f j zero k h = refl
  take-upto f j (suc m) zero h = absurd (omega arith)
  take-upto f j (suc m) (suc k) h = ap (λ (l : List A). f j ∷ l) (take-upto f (suc j) m k (omega arith))

  -- what stands at a place
  pub get_from : (f : ℕ → A) (j k i : ℕ) (d : A) → i < k → get_or (upto f j k) i d ≡ f (j + i)
  unfolding upto
  get_from f j zero i d h = absurd (omega arith)
  get_from f j (suc k) zero d h = let e : j ≡ j + 0 = omega arith in ap f e
  get_from f j (suc k) (suc i) d h = let e : suc j + i ≡ j + suc i = omega arith in get_from f (suc j) k i d (omega arith) ∙ ap f e

  pub get_upto : (f : ℕ → A) (k i : ℕ) (d : A) → i < k → get_or (upto f 0 k) i d ≡ f i
  get_upto f k i d h = let e : 0 + i ≡ i = omega arith in get_from f 0 k i d h ∙ ap f e

  -- a list that says at each place what the function says
  pub upto_list : (f : ℕ → A) (j : ℕ) (d : A) (xs : List A) → ((i : ℕ) → i < length xs → f (j + i) ≡ get_or xs i d) → upto f j (length xs) ≡ xs
  unfolding upto
  upto_list f j d [] h = refl
  upto_list f j d (x ∷ xs) h =
      let z : j ≡ j + 0 = omega arith in
      ap₂ ◌∷◌ (ap f z ∙ h 0 (omega arith)) (upto_list f (suc j) d xs (λ i b. let e : suc j + i ≡ j + suc i = omega arith in ap f e ∙ h (suc i) (omega (arith, b))))

  -- a run of a list
  pub run_is : (l : List A) (s at n : ℕ) (d : A) → s + at + n ≤ length l → take n (drop (s + at) l) ≡ upto (λ k. get_or l (s + k) d) at n
  unfolding upto
  run_is l s at zero d h = refl
  run_is l s at (suc n) d h =
      let e : suc (s + at) ≡ s + suc at = omega arith in
      ap (take (suc n)) (drop-cons l (s + at) d (omega arith)) ∙ ap (λ (r : List A). get_or l (s + at) d ∷ r) (ap (λ (k : ℕ). take n (drop k l)) e ∙ run_is l s (suc at) n d (omega arith))
