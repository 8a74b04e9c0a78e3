-- What a place that was found says in terms of the model: the first for which the test holds stands there, and to change the first is to set there.
use Prim.Native.Nat.{ℕ, suc, ◌+◌, ◌<◌, ◌≤◌, zero-le, suc-le-suc}
use Rattle.std.proofs.Common.{arith, sym, ap₂, ◌∙◌, subst}
use Rattle.std.specs.Prelude.{◌≡◌, Bool, true, false, ltb, length, get_or, set, Option, Some, None, ℕ, unwrap_or, map, position, find, option_map}
use Rattle.std.specs.List.{position_from}
use Rattle.std.proofs.Math.Numerals.{add-one}
use Rattle.std.proofs.lemmas.Iterator.Adapters.{position_from-zero}
use Rattle.std.proofs.Math.Path.{refl, ap}
use Rattle.std.proofs.Math.Bool.{cond}
use mathlib.Core.List.{List, [], ◌∷◌}
use Rattle.lists.specs.Lists.{found, first, change, insert, has_key, upsert}
use Rattle.lists.specs.Inner.Places.{place_from, place_of, put_at}

module _ {A : Type 0} where
  -- the first for which t holds stands at i
  pub record First (t : A → Bool) (l : List A) (i : ℕ) : Type 0 where
    pub inside : i < length l
    pub is : (d : A) → first t l ≡ Some (get_or l i d)
    pub changed : (f : A → A) (d : A) → change t f l ≡ set l i (f (get_or l i d))

  -- t holds of none
  pub record Missing (t : A → Bool) (l : List A) : Type 0 where
    pub is : first t l ≡ None
    pub same : (f : A → A) → change t f l ≡ l

  here : (t : A → Bool) (x : A) (xs : List A) → t x ≡ true → First t (x ∷ xs) 0
  unfolding first change
  here t x xs e = record {
    inside = suc-le-suc zero-le;
    is = λ d. ap (λ (b : Bool). cond b (Some x) (first t xs)) e;
    changed = λ f d. ap (λ (b : Bool). cond b (f x ∷ xs) (x ∷ change t f xs)) e;
  }

  later : (t : A → Bool) (x : A) (xs : List A) (i : ℕ) → t x ≡ false → First t xs i → First t (x ∷ xs) (suc i)
  unfolding first change
  later t x xs i e r = record {
    inside = suc-le-suc r.inside;
    is = λ d. ap (λ (b : Bool). cond b (Some x) (first t xs)) e ∙ r.is d;
    changed = λ f d. ap (λ (b : Bool). cond b (f x ∷ xs) (x ∷ change t f xs)) e ∙ ap (λ (ys : List A). x ∷ ys) (r.changed f d);
  }

  nowhere : (t : A → Bool) (x : A) (xs : List A) → t x ≡ false → Missing t xs → Missing t (x ∷ xs)
  unfolding first change
  nowhere t x xs e r = record {
    is = ap (λ (b : Bool). cond b (Some x) (first t xs)) e ∙ r.is;
    same = λ f. ap (λ (b : Bool). cond b (f x ∷ xs) (x ∷ change t f xs)) e ∙ ap (λ (ys : List A). x ∷ ys) (r.same f);
  }

  of_empty : (t : A → Bool) → Missing t []
  unfolding first change
  of_empty t = record { is = refl; same = λ f. refl }

  -- what a search that starts at place k says
  abbrev Says : (A → Bool) → List A → ℕ → Option ℕ → Type 0
  Says t l k (Some i) = (j : ℕ) × (i ≡ k + j) × First t l j
  Says t l k None = Missing t l

  beyond : (t : A → Bool) (x : A) (xs : List A) (k : ℕ) → t x ≡ false → (p : Option ℕ) → Says t xs (suc k) p → Says t (x ∷ xs) k p
  beyond t x xs k e (Some i) r = let q : i ≡ suc k + r.0 = r.1 in (suc r.0, omega arith, later t x xs r.0 e r.2)
  beyond t x xs k e None r = nowhere t x xs e r

  says_by : (b : Bool) (t : A → Bool) (x : A) (xs : List A) (k : ℕ) → t x ≡ b → Says t xs (suc k) (place_from t (suc k) xs) → Says t (x ∷ xs) k (cond b (Some k) (place_from t (suc k) xs))
  says_by true t x xs k e r = (0, omega arith, here t x xs e)
  says_by false t x xs k e r = beyond t x xs k e (place_from t (suc k) xs) r

  says : (t : A → Bool) (l : List A) (k : ℕ) → Says t l k (place_from t k l)
  unfolding place_from
  says t [] k = of_empty t
  says t (x ∷ xs) k = says_by (t x) t x xs k refl (says t xs (suc k))

  pub first_at : (t : A → Bool) (l : List A) (i : ℕ) → place_of t l ≡ Some i → First t l i
  first_at t l i e = let r : Says t l 0 (Some i) = subst (Says t l 0) e (says t l 0) in let q : i ≡ r.0 = omega (arith, r.1) in subst (First t l) (sym q) r.2

  pub missing : (t : A → Bool) (l : List A) → place_of t l ≡ None → Missing t l
  missing t l e = subst (Says t l 0) e (says t l 0)

  -- what a read at the place has is the first
  pub first_is : (t : A → Bool) (l : List A) (i : ℕ) (x : A) → place_of t l ≡ Some i → x ≡ get_or l i x → first t l ≡ Some x
  first_is t l i x e g = (first_at t l i e).is x ∙ ap Some (sym g)

  within : (t : A → Bool) (l : List A) (p : Option ℕ) → Says t l 0 p → unwrap_or p (length l) ≤ length l
  within t l (Some i) r = omega (arith, r.1, r.2.inside)
  within t l None r = omega arith

  pub place_within : (t : A → Bool) (l : List A) → unwrap_or (place_of t l) (length l) ≤ length l
  place_within t l = within t l (place_of t l) (says t l 0)

-- ---- what `position` and `find` of an iterator give, where f says what an entry of the array means

module _ {A B : Type 0} (f : A → B) (t : B → Bool) where
  from_position : (k : ℕ) (xs : List A) → position_from (λ x. t (f x)) k xs ≡ place_from t k (map f xs)
  unfolding place_from
  from_position k [] = refl
  from_position k (x ∷ xs) = ap (cond (t (f x)) (Some k)) (ap (λ n. position_from (λ y. t (f y)) n xs) (add-one k) ∙ from_position (suc k) xs)

  pub place_map : (xs : List A) → position (λ x. t (f x)) xs ≡ place_of t (map f xs)
  place_map xs = position_from-zero (λ x. t (f x)) xs ∙ from_position 0 xs

  pub first_map : (xs : List A) → option_map f (find (λ x. t (f x)) xs) ≡ first t (map f xs)
  unfolding first
  first_map [] = refl
  first_map (x ∷ xs) = by_test (t (f x)) ∙ ap (cond (t (f x)) (Some (f x))) (first_map xs)
    where
      by_test : (b : Bool) → option_map f (cond b (Some x) (find (λ y. t (f y)) xs)) ≡ cond b (Some (f x)) (option_map f (find (λ y. t (f y)) xs))
      by_test true = refl
      by_test false = refl

-- ---- entries by key

module _ {A : Type 0} (key : A → ℕ) where
  -- an entry is put in the place of the first with its key, and is inserted where there is none
  pub put_at_first : (x : A) (l : List A) (i : ℕ) → place_of (has_key key (key x)) l ≡ Some i → upsert key x l ≡ set l i x
  unfolding upsert
  put_at_first x l i e =
      let r = first_at (has_key key (key x)) l i e in
      ap (λ o. cond (found o) (change (has_key key (key x)) (λ y. x) l) (insert key x l)) (r.is x) ∙ r.changed (λ y. x) x

  pub put_new : (x : A) (l : List A) → place_of (has_key key (key x)) l ≡ None → upsert key x l ≡ insert key x l
  unfolding upsert
  put_new x l e = ap (λ o. cond (found o) (change (has_key key (key x)) (λ y. x) l) (insert key x l)) (missing (has_key key (key x)) l e).is

  abbrev above : A → A → Bool
  above x y = ltb (key x) (key y)

  shift_by : (b : Bool) (n k : ℕ) (p q : Option ℕ) → unwrap_or p (suc n) ≡ suc (unwrap_or q n) → unwrap_or (cond b (Some (suc k)) p) (suc n) ≡ suc (unwrap_or (cond b (Some k) q) n)
  shift_by true n k p q e = refl
  shift_by false n k p q e = e

  shift : (t : A → Bool) (l : List A) (n k : ℕ) → unwrap_or (place_from t (suc k) l) (suc n) ≡ suc (unwrap_or (place_from t k l) n)
  unfolding place_from
  shift t [] n k = refl
  shift t (x ∷ xs) n k = shift_by (t x) n k (place_from t (suc (suc k)) xs) (place_from t (suc k) xs) (shift t xs n (suc k))

  insert_by : (b : Bool) (x y : A) (ys r : List A) (p : Option ℕ) (m : ℕ) → r ≡ put_at m x ys → unwrap_or p (suc (length ys)) ≡ suc m → cond b (x ∷ (y ∷ ys)) (y ∷ r) ≡ put_at (unwrap_or (cond b (Some 0) p) (suc (length ys))) x (y ∷ ys)
  insert_by true x y ys r p m e q = refl
  insert_by false x y ys r p m e q = ap (λ (l : List A). y ∷ l) e ∙ ap (λ (n : ℕ). put_at n x (y ∷ ys)) (sym q)

  -- to insert is to put in front of the first with a larger key, or at the end
  pub insert_is : (x : A) (l : List A) → insert key x l ≡ put_at (unwrap_or (place_of (above x) l) (length l)) x l
  unfolding insert place_from
  insert_is x [] = refl
  insert_is x (y ∷ ys) =
      insert_by (ltb (key x) (key y)) x y ys (insert key x ys) (place_from (above x) 1 ys) (unwrap_or (place_of (above x) ys) (length ys)) (insert_is x ys) (shift (above x) ys (length ys) 0)

  -- the place that a search gave is a place to insert at
  pub insert_place : (x : A) (l : List A) (n at : ℕ) (p : Option ℕ) → n ≡ length l → p ≡ place_of (above x) l → at ≡ unwrap_or p n → (at ≤ length l) × (put_at at x l ≡ insert key x l)
  insert_place x l n at p hn hp e =
      let place : at ≡ unwrap_or (place_of (above x) l) (length l) = e ∙ ap₂ unwrap_or hp hn in
      (omega (arith, place, place_within (above x) l), ap (λ (m : ℕ). put_at m x l) place ∙ sym (insert_is x l))
