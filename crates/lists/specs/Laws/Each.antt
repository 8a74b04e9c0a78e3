-- What holds of each entry of a list, and lists by ascending key.
use Prim.Native.Nat.{ℕ, suc, ◌<◌, ◌≤◌}
use native.Mathlib.Omega.{arith}
use Rattle.std.specs.Prelude.{◌≡◌, ◌≢◌, Bool, true, false, cond, ltb, Some}
use Rattle.std.proofs.Math.Path.{refl, sym, ap}
use Rattle.std.proofs.Common.{◌∙◌, subst}
use mathlib.Core.List.{List, [], ◌∷◌, ◌++◌, map, flat_map, Memᴰ}
use Rattle.std.proofs.Math.ListN.{length}
use borrow.Author.Tests.{ltb-true, ltb-false, eqb-true, eqb-false}
use Rattle.lists.specs.Lists.{found, first, keep, change, insert, has_key, upsert}
use Rattle.lists.specs.Laws.Bools.{split, by_cond, clash, some_inj, none_some, cond-true, cond-false}

module _ {A : Type 0} where
  -- P holds of each entry
  pub data Each (P : A → Type 0) : List A → Type 0 where
    nil : Each P []
    ◌▸◌ : {x : A} {xs : List A} → P x → Each P xs → Each P (x ∷ xs)

infixr 5 ◌▸◌
module _ {A : Type 0} {P : A → Type 0} where
  pub head : {x : A} {xs : List A} → Each P (x ∷ xs) → P x
  head (p ▸ h) = p

  pub tail : {x : A} {xs : List A} → Each P (x ∷ xs) → Each P xs
  tail (p ▸ h) = h

module _ {A : Type 0} {P : A → Type 0} where
  pub each : {Q : A → Type 0} → ((x : A) → P x → Q x) → {xs : List A} → Each P xs → Each Q xs
  each f nil = nil
  each f (◌▸◌ {x = x} p h) = f x p ▸ each f h

  pub each₂ : {Q R : A → Type 0} → ((x : A) → P x → Q x → R x) → {xs : List A} → Each P xs → Each Q xs → Each R xs
  each₂ f nil k = nil
  each₂ f (◌▸◌ {x = x} p h) k = f x p (head k) ▸ each₂ f h (tail k)

  pub each_mem : {x : A} {xs : List A} → Each P xs → Memᴰ x xs → P x
  each_mem h (Memᴰ.head e) = subst P (sym e) (head h)
  each_mem h (Memᴰ.tail m) = each_mem (tail h) m

  pub each_of_mem : (xs : List A) → ((x : A) → Memᴰ x xs → P x) → Each P xs
  each_of_mem [] f = nil
  each_of_mem (x ∷ xs) f = f x (Memᴰ.head refl) ▸ each_of_mem xs (λ y m. f y (Memᴰ.tail m))

  pub each_keep : (t : A → Bool) {xs : List A} → Each P xs → Each P (keep t xs)
  unfolding keep
  each_keep t nil = nil
  each_keep t (◌▸◌ {x = x} p h) = split (t x) (λ e. rw (e, keep) (p ▸ each_keep t h)) (λ e. rw (e, keep) (each_keep t h))

  -- of those that pass the test, where it holds of each that passes
  pub each_kept : (t : A → Bool) (xs : List A) → ((x : A) → t x ≡ true → P x) → Each P (keep t xs)
  unfolding keep
  each_kept t [] f = nil
  each_kept t (x ∷ xs) f = split (t x) (λ e. rw (e, keep) (f x e ▸ each_kept t xs f)) (λ e. rw (e, keep) (each_kept t xs f))

  pub each_append : {xs ys : List A} → Each P xs → Each P ys → Each P (xs ++ ys)
  each_append nil k = k
  each_append (p ▸ h) k = p ▸ each_append h k

  pub each_left : (xs ys : List A) → Each P (xs ++ ys) → Each P xs
  each_left [] ys h = nil
  each_left (x ∷ xs) ys h = head h ▸ each_left xs ys (tail h)

  pub each_right : (xs ys : List A) → Each P (xs ++ ys) → Each P ys
  each_right [] ys h = h
  each_right (x ∷ xs) ys h = each_right xs ys (tail h)

  pub each_of : ((x : A) → P x) → (xs : List A) → Each P xs
  each_of f [] = nil
  each_of f (x ∷ xs) = f x ▸ each_of f xs

  -- a list by a test
  pub either : (t : Bool) {xs ys : List A} → Each P xs → Each P ys → Each P (cond t xs ys)
  either true p q = p
  either false p q = q

  -- one that is changed where it stands
  pub each_change : (t : A → Bool) (f : A → A) → ((x : A) → t x ≡ true → P x → P (f x)) → {xs : List A} → Each P xs → Each P (change t f xs)
  unfolding change
  each_change t f g nil = nil
  each_change t f g (◌▸◌ {x = x} p h) = split (t x) (λ e. rw (e, change) (g x e p ▸ h)) (λ e. rw (e, change) (p ▸ each_change t f g h))

  -- which is the first that passes
  pub each_change_first : (t : A → Bool) (f : A → A) {xs : List A} → ((x : A) → first t xs ≡ Some x → P x → P (f x)) → Each P xs → Each P (change t f xs)
  unfolding first change
  each_change_first t f g nil = nil
  each_change_first t f g (◌▸◌ {x = x} {xs = xs} p h) =
      by_cond (Each P) (t x) (f x ∷ xs) (x ∷ change t f xs)
      (λ e. g x (cond-true _ _ e) p ▸ h) (λ e. p ▸ each_change_first t f (λ y u. g y (cond-false _ _ e ∙ u)) h)

module _ {A B : Type 0} {P : A → Type 0} {Q : B → Type 0} where
  pub each_map : (f : A → B) → ((x : A) → P x → Q (f x)) → {xs : List A} → Each P xs → Each Q (map f xs)
  each_map f g nil = nil
  each_map f g (◌▸◌ {x = x} p h) = g x p ▸ each_map f g h

  pub each_flat_map : (f : A → List B) → ((x : A) → P x → Each Q (f x)) → {xs : List A} → Each P xs → Each Q (flat_map f xs)
  unfolding flat_map
  each_flat_map f g nil = nil
  each_flat_map f g (◌▸◌ {x = x} p h) = each_append (g x p) (each_flat_map f g h)

module _ {A B : Type 0} {Q : B → Type 0} where
  pub each_of_map : (f : A → B) → ((x : A) → Q (f x)) → (xs : List A) → Each Q (map f xs)
  each_of_map f h [] = nil
  each_of_map f h (x ∷ xs) = h x ▸ each_of_map f h xs

  pub each_of_flat_map : (f : A → List B) → ((x : A) → Each Q (f x)) → (xs : List A) → Each Q (flat_map f xs)
  unfolding flat_map
  each_of_flat_map f h [] = nil
  each_of_flat_map f h (x ∷ xs) = each_append (h x) (each_of_flat_map f h xs)

-- ---- membership and lengths

module _ {A : Type 0} where
  pub mem_left : {x : A} {xs : List A} (ys : List A) → Memᴰ x xs → Memᴰ x (xs ++ ys)
  mem_left ys (Memᴰ.head e) = Memᴰ.head e
  mem_left ys (Memᴰ.tail m) = Memᴰ.tail (mem_left ys m)

  pub mem_right : {x : A} (xs : List A) {ys : List A} → Memᴰ x ys → Memᴰ x (xs ++ ys)
  mem_right [] m = m
  mem_right (y ∷ xs) m = Memᴰ.tail (mem_right xs m)

  pub first_mem : (t : A → Bool) (x : A) (xs : List A) → first t xs ≡ Some x → Memᴰ x xs × (t x ≡ true)
  unfolding first
  first_mem t x [] h = none_some x h
  first_mem t x (y ∷ ys) h = split (t y)
      (λ e. let f : x ≡ y = sym (some_inj y x (sym (cond-true _ _ e) ∙ h)) in (Memᴰ.head f, ap t f ∙ e))
      (λ e. let r = first_mem t x ys (sym (cond-false _ _ e) ∙ h) in (Memᴰ.tail r.0, r.1))

  -- none found: the test holds of none
  pub first_none : (t : A → Bool) (xs : List A) → found (first t xs) ≡ false → Each (λ x. t x ≡ false) xs
  unfolding first
  first_none t [] h = nil
  first_none t (x ∷ xs) h = split (t x)
      (λ e. clash (sym (ap (λ (b : Bool). found (cond b (Some x) (first t xs))) e) ∙ h))
      (λ e. e ▸ first_none t xs (sym (ap (λ (b : Bool). found (cond b (Some x) (first t xs))) e) ∙ h))

  pub length_keep : (t : A → Bool) (xs : List A) → length (keep t xs) ≤ length xs
  unfolding keep
  length_keep t [] = omega arith
  length_keep t (x ∷ xs) = by_cond (λ (l : List A). length l ≤ suc (length xs)) (t x) _ _ (λ e. omega (arith, length_keep t xs)) (λ e. omega (arith, length_keep t xs))

  pub length-change : (t : A → Bool) (f : A → A) (xs : List A) → length (change t f xs) ≡ length xs
  unfolding change
  length-change t f [] = refl
  length-change t f (x ∷ xs) = by_cond (λ (l : List A). length l ≡ suc (length xs)) (t x) _ _ (λ e. refl) (λ e. ap suc (length-change t f xs))

  -- the changed one is there
  pub mem_change : (t : A → Bool) (f : A → A) (x : A) (xs : List A) → first t xs ≡ Some x → Memᴰ (f x) (change t f xs)
  unfolding first change
  mem_change t f x [] h = none_some x h
  mem_change t f x (y ∷ ys) h = split (t y)
      (λ e. let g : x ≡ y = sym (some_inj y x (sym (cond-true _ _ e) ∙ h)) in rw (e, change) (Memᴰ.head (ap f g)))
      (λ e. rw (e, change) (Memᴰ.tail (mem_change t f x ys (sym (cond-false _ _ e) ∙ h))))

-- ---- ascending keys

module _ {A : Type 0} (key : A → ℕ) where
  pub data Ascending : List A → Type 0 where
    none_left : Ascending []
    more : {x : A} {xs : List A} → Each (λ y. key x < key y) xs → Ascending xs → Ascending (x ∷ xs)

  pub length_insert : (x : A) (ys : List A) → length (insert key x ys) ≡ suc (length ys)
  unfolding insert
  length_insert x [] = refl
  length_insert x (y ∷ ys) = by_cond (λ (l : List A). length l ≡ suc (suc (length ys))) (ltb (key x) (key y)) _ _ (λ e. refl) (λ e. ap suc (length_insert x ys))

  pub each_insert : {P : A → Type 0} (x : A) {ys : List A} → P x → Each P ys → Each P (insert key x ys)
  unfolding insert
  each_insert x p nil = p ▸ nil
  each_insert {P} x p (◌▸◌ {x = y} {xs = ys} q h) =
      by_cond (Each P) (ltb (key x) (key y)) (x ∷ (y ∷ ys)) (y ∷ insert key x ys) (λ e. p ▸ q ▸ h) (λ e. q ▸ each_insert x p h)

  pub mem_insert : (x : A) (ys : List A) → Memᴰ x (insert key x ys)
  unfolding insert
  mem_insert x [] = Memᴰ.head refl
  mem_insert x (y ∷ ys) =
      by_cond (Memᴰ x) (ltb (key x) (key y)) (x ∷ (y ∷ ys)) (y ∷ insert key x ys) (λ e. Memᴰ.head refl) (λ e. Memᴰ.tail (mem_insert x ys))

  -- the key is new
  pub ascending_insert : (x : A) {ys : List A} → Each (λ y. has_key key (key x) y ≡ false) ys → Ascending ys → Ascending (insert key x ys)
  unfolding insert
  ascending_insert x n none_left = more nil none_left
  ascending_insert x n (more {x = y} {xs = ys} a as') =
      by_cond Ascending (ltb (key x) (key y)) (x ∷ (y ∷ ys)) (y ∷ insert key x ys)
      (λ e. let l : key x < key y = ltb-true _ _ e in more (l ▸ each (λ z (k : key y < key z). omega arith) a) (more a as'))
      (λ e. let l : key y ≤ key x = ltb-false _ _ e in let d : key y ≢ key x = eqb-false _ _ (head n) in
      more (each_insert x (omega arith) a) (ascending_insert x (tail n) as'))

  -- a change that keeps the key
  pub ascending_change : (t : A → Bool) (f : A → A) → ((x : A) → t x ≡ true → key (f x) ≡ key x) → {ys : List A} → Ascending ys → Ascending (change t f ys)
  unfolding change
  ascending_change t f h none_left = none_left
  ascending_change t f h (more {x = y} {xs = ys} a as') =
      by_cond Ascending (t y) (f y ∷ ys) (y ∷ change t f ys)
      (λ e. let k : key (f y) ≡ key y = h y e in more {x = f y} (each (λ z (l : key y < key z). omega arith) a) as')
      (λ e. more (each_change t f (λ z u (l : key y < key z). let k : key (f z) ≡ key z = h z u in omega arith) a) (ascending_change t f h as'))

  pub ascending_keep : (t : A → Bool) {ys : List A} → Ascending ys → Ascending (keep t ys)
  unfolding keep
  ascending_keep t none_left = none_left
  ascending_keep t (more {x = y} {xs = ys} a as') =
      by_cond Ascending (t y) (y ∷ keep t ys) (keep t ys) (λ e. more (each_keep t a) (ascending_keep t as')) (λ e. ascending_keep t as')

  pub ascending_map : (f : A → A) → ((x : A) → key (f x) ≡ key x) → {ys : List A} → Ascending ys → Ascending (map f ys)
  ascending_map f h none_left = none_left
  ascending_map f h (more {x = y} a as') = more {x = f y} (each_map f (λ z (l : key y < key z). omega (arith, h y, h z)) a) (ascending_map f h as')

  -- ---- `upsert`

  -- by whether the key is held
  module _ (x : A) (ys : List A) where
    pub by_held : (P : List A → Type 0)
        → (found (first (has_key key (key x)) ys) ≡ true → P (change (has_key key (key x)) (λ y. x) ys))
        → (found (first (has_key key (key x)) ys) ≡ false → P (insert key x ys)) → P (upsert key x ys)
    unfolding upsert
    by_held P f g = by_cond P (found (first (has_key key (key x)) ys)) _ _ f g

  pub ascending_upsert : (x : A) {ys : List A} → Ascending ys → Ascending (upsert key x ys)
  ascending_upsert x {ys} a =
      by_held x ys Ascending
      (λ e. ascending_change (has_key key (key x)) (λ y. x) (λ y t. sym (eqb-true _ _ t)) a)
      (λ e. ascending_insert x (first_none (has_key key (key x)) ys e) a)

  -- what holds of the new one and of the others
  pub each_upsert_any : {P : A → Type 0} (x : A) {ys : List A} → P x → Each P ys → Each P (upsert key x ys)
  each_upsert_any {P} x {ys} p h = by_held x ys (Each P) (λ e. each_change (has_key key (key x)) (λ y. x) (λ y t q. p) h) (λ e. each_insert x p h)

  -- what holds of the new one, and of those with another key
  each_replaced : {P : A → Type 0} (x : A) {ys : List A} → Ascending ys → P x → Each (λ y. key y ≢ key x → P y) ys → Each P (change (has_key key (key x)) (λ y. x) ys)
  unfolding change
  each_replaced x none_left p h = nil
  each_replaced {P} x (more {x = y} {xs = ys} a as') p h =
      by_cond (Each P) (has_key key (key x) y) (x ∷ ys) (y ∷ change (has_key key (key x)) (λ z. x) ys)
      (λ e. let k : key y ≡ key x = eqb-true _ _ e in p ▸ each₂ (λ z (l : key y < key z) (q : key z ≢ key x → P z). q (λ f. omega arith)) a (tail h))
      (λ e. head h (eqb-false _ _ e) ▸ each_replaced x as' p (tail h))

  pub each_upsert : {P : A → Type 0} (x : A) {ys : List A} → Ascending ys → P x → Each (λ y. key y ≢ key x → P y) ys → Each P (upsert key x ys)
  each_upsert {P} x {ys} a p h =
      by_held x ys (Each P) (λ e. each_replaced x a p h) (λ e. each_insert x p (each₂ (λ y t (k : key y ≢ key x → P y). k (eqb-false _ _ t)) (first_none (has_key key (key x)) ys e) h))

  pub mem_replaced : (x : A) (ys : List A) → found (first (has_key key (key x)) ys) ≡ true → Memᴰ x (change (has_key key (key x)) (λ y. x) ys)
  unfolding first change
  mem_replaced x [] e = clash (sym e)
  mem_replaced x (y ∷ ys) e =
      by_cond (Memᴰ x) (has_key key (key x) y) (x ∷ ys) (y ∷ change (has_key key (key x)) (λ z. x) ys)
      (λ t. Memᴰ.head refl)
      (λ t. Memᴰ.tail (mem_replaced x ys (sym (ap (λ (b : Bool). found (cond b (Some y) (first (has_key key (key x)) ys))) t) ∙ e)))

  pub mem_upsert : (x : A) (ys : List A) → Memᴰ x (upsert key x ys)
  mem_upsert x ys = by_held x ys (Memᴰ x) (mem_replaced x ys) (λ e. mem_insert x ys)

  pub length_upsert_held : (x : A) (ys : List A) → found (first (has_key key (key x)) ys) ≡ true → length (upsert key x ys) ≡ length ys
  unfolding upsert
  length_upsert_held x ys e = ap length (cond-true _ _ e) ∙ length-change (has_key key (key x)) (λ y. x) ys

  pub length_upsert_new : (x : A) (ys : List A) → found (first (has_key key (key x)) ys) ≡ false → length (upsert key x ys) ≡ suc (length ys)
  unfolding upsert
  length_upsert_new x ys e = ap length (cond-false _ _ e) ∙ length_insert x ys
