-- The first n of an array, each as f reads it: what loops over them cite. One is read from what is left, one is stored behind what is built.
use Prim.Native.Nat.{ℕ, zero, suc, min, ◌+◌, ◌-◌, ◌<◌, ◌≤◌}
use Rattle.std.proofs.Math.Numerals.{add-one}
use native.Mathlib.Omega.{arith}
use Rattle.std.specs.Prelude.{◌≡◌, refl, Bool, true, false, List, [], ◌∷◌, ◌++◌, map, length, take, drop, get_or, set, Some}
use Rattle.std.proofs.Common.{sym, ◌∙◌, append-nil, length-set, length-take, length-drop, drop_of_length-le, drop-cons, drop-set-lt, take-suc-set, take-take, get_or-take}
use Rattle.std.proofs.Math.Path.{ap}
use Rattle.std.proofs.lemmas.List.{length-map, map-append, drop-map, drop-take, set-append_left}
use Rattle.std.proofs.lemmas.List.Edits.{take-paste}
use Rattle.std.specs.List.{copy_within}
use Rattle.std.proofs.Math.ListN.{get_or-map}
use Rattle.std.proofs.Math.Seq.{take-set-lt, append_snoc}
use Rattle.lists.specs.Lists.{keep}
use Rattle.lists.specs.Inner.Places.{place_from, put_at}

-- a read in range does not depend on what stands for a read past the end
get_d_any : {A : Type 0} (l : List A) (i : ℕ) (d e : A) → i < length l → get_or l i d ≡ get_or l i e
get_d_any [] i d e h = absurd (omega arith)
get_d_any (x ∷ xs) zero d e h = refl
get_d_any (x ∷ xs) (suc i) d e h = get_d_any xs i d e (omega arith)

-- one more is stored behind k
pub stored : {A : Type 0} (k : ℕ) (q : List A) (x : A) (ys : List A) → k < length q → take (k + 1) (set q k x) ++ ys ≡ take k q ++ (x ∷ ys)
stored k q x ys h = rw (add-one, take-suc-set q k x h) (append_snoc (take k q) x ys)

-- one more at a place: those from there on are copied one further, and it is stored in front of them
opened_up : {A : Type 0} (n at : ℕ) (xs : List A) (x : A) → at ≤ n → n < length xs → take (n + 1) (set (copy_within xs at n (at + 1)) at x) ≡ take at xs ++ (x ∷ drop at (take n xs))
opened_up n at xs x h k =
    let m = n - at in
    let q = copy_within xs at n (at + 1) in
    let ys = take m (drop at xs) in
    let all : n + 1 ≡ (at + 1) + m = omega arith in
    let left : n ≡ at + m = omega arith in
    let copied : take (n + 1) q ≡ take (at + 1) xs ++ ys = ap (λ j. take j q) all ∙ take-paste xs (at + 1) (drop at xs) m (omega arith) (omega (arith, length-drop at xs)) in
    take-set-lt (n + 1) q at x (omega arith)
    ∙ ap (λ zs. set zs at x) copied
    ∙ set-append_left (take (at + 1) xs) ys at x (omega (arith, length-take (at + 1) xs))
    ∙ ap (λ zs. zs ++ ys) (sym (take-set-lt (at + 1) xs at x (omega arith)))
    ∙ stored at xs x ys (omega arith)
    ∙ ap (λ zs. take at xs ++ (x ∷ zs)) (sym (drop-take at m xs) ∙ ap (λ j. drop at (take j xs)) (sym left))

module _ {A B : Type 0} (f : A → B) where
  map-take : (n : ℕ) (xs : List A) → map f (take n xs) ≡ take n (map f xs)
  map-take zero xs = refl
  map-take (suc n) [] = refl
  map-take (suc n) (x ∷ xs) = ap (λ (l : List B). f x ∷ l) (map-take n xs)

  map-set : (xs : List A) (i : ℕ) (a : A) → map f (set xs i a) ≡ set (map f xs) i (f a)
  map-set [] i a = refl
  map-set (x ∷ xs) zero a = refl
  map-set (x ∷ xs) (suc i) a = ap (λ (l : List B). f x ∷ l) (map-set xs i a)

  abbrev pub part : ℕ → List A → List B
  part n xs = map f (take n xs)

  pub length_part : (n : ℕ) (xs : List A) → length (part n xs) ≡ min n (length xs)
  length_part n xs = length-map (take n xs) f ∙ length-take n xs

  pub get_part : (n : ℕ) (xs : List A) (i : ℕ) (d : A) (e : B) → i < length (part n xs) → get_or (part n xs) i e ≡ f (get_or xs i d)
  get_part n xs i d e h =
      let b : i < n = omega (arith, h, length_part n xs) in
      get_d_any (part n xs) i e (f d) h ∙ get_or-map f (take n xs) i d ∙ ap f (get_or-take n xs i d b)

  -- the rest from i is the one at i and the rest from i + 1
  pub rest : (n : ℕ) (xs : List A) (i : ℕ) (d : A) → i < length (part n xs) → drop i (part n xs) ≡ f (get_or xs i d) ∷ drop (i + 1) (part n xs)
  rest n xs i d h = drop-cons (part n xs) i (f d) h ∙ rw (get_part n xs i d (f d) h, add-one)

  pub rest_none : (n : ℕ) (xs : List A) (i : ℕ) → n ≤ i → drop i (part n xs) ≡ []
  rest_none n xs i h = let b : length (part n xs) ≤ i = omega (arith, length_part n xs) in drop_of_length-le (part n xs) b

  -- a store in range
  pub set_part : (n : ℕ) (xs : List A) (i : ℕ) (x : A) → i < n → part n (set xs i x) ≡ set (part n xs) i (f x)
  set_part n xs i x h = ap (map f) (take-set-lt n xs i x h) ∙ map-set (take n xs) i x

  -- it changes nothing past it
  pub past_set : (n : ℕ) (xs : List A) (m i : ℕ) (x : A) → m < n → m ≤ i → drop (i + 1) (part n (set xs m x)) ≡ drop (i + 1) (part n xs)
  past_set n xs m i x h b = rw (set_part n xs m x h) (drop-set-lt (i + 1) (part n xs) m (f x) (omega arith))

  -- a store behind the k that are built, with what is left
  push : (k : ℕ) (q : List A) (x : A) (ys : List B) → k < length q → part (k + 1) (set q k x) ++ ys ≡ part k q ++ (f x ∷ ys)
  push k q x ys h =
      let b : k < length (map f q) = simp length-map (omega arith) in
      rw (map-take, map-set, map-take) (stored k (map f q) (f x) ys b)

  -- nothing is left: what is built is what was wanted
  finish : (m : ℕ) (q : List A) (r g : List B) → r ≡ [] → part m q ++ r ≡ g → part m q ≡ g
  finish m q r g e h = sym (append-nil (part m q)) ∙ ap (λ (t : List B). part m q ++ t) (sym e) ∙ h

  -- one more at a place of the first n
  pub part_opened : (n at : ℕ) (xs : List A) (x : A) → at ≤ n → n < length xs → part (n + 1) (set (copy_within xs at n (at + 1)) at x) ≡ put_at at (f x) (part n xs)
  part_opened n at xs x h k =
      ap (map f) (opened_up n at xs x h k)
      ∙ map-append f (take at xs) (x ∷ drop at (take n xs))
      ∙ ap (λ zs. map f zs ++ (f x ∷ map f (drop at (take n xs)))) (sym (take-take at n xs h))
      ∙ ap (λ zs. zs ++ (f x ∷ map f (drop at (take n xs)))) (map-take at (take n xs))
      ∙ ap (λ zs. take at (part n xs) ++ (f x ∷ zs)) (sym (drop-map f at (take n xs)))

  -- ---- a turn of a loop, at the one at i: a search, what stays, and a fold

  module _ (n : ℕ) (xs : List A) (i : ℕ) (d : A) (t : B → Bool) (h : i < length (part n xs)) where
    pub hit : t (f (get_or xs i d)) ≡ true → place_from t i (drop i (part n xs)) ≡ Some i
    unfolding place_from
    hit e = rw (rest n xs i d h, e)

    pub miss : t (f (get_or xs i d)) ≡ false → place_from t (i + 1) (drop (i + 1) (part n xs)) ≡ place_from t i (drop i (part n xs))
    unfolding place_from
    miss e = rw (rest n xs i d h, e, ← add-one i)

    pub stay : t (f (get_or xs i d)) ≡ true → keep t (drop i (part n xs)) ≡ f (get_or xs i d) ∷ keep t (drop (i + 1) (part n xs))
    unfolding keep
    stay e = rw (rest n xs i d h, e)

    pub go : t (f (get_or xs i d)) ≡ false → keep t (drop i (part n xs)) ≡ keep t (drop (i + 1) (part n xs))
    unfolding keep
    go e = rw (rest n xs i d h, e)

  -- r is what was folded so far, with the one at i
  module _ {S : Type 0} (fold : S → List B → S) (step : S → B → S) (each : (s : S) (x : B) (ys : List B) → fold s (x ∷ ys) ≡ fold (step s x) ys) where
    pub folded : (n : ℕ) (xs : List A) (i : ℕ) (d : A) (s r : S) → i < length (part n xs) → r ≡ step s (f (get_or xs i d)) → fold r (drop (i + 1) (part n xs)) ≡ fold s (drop i (part n xs))
    folded n xs i d s r h e =
        let ys = drop (i + 1) (part n xs) in
        ap (λ (a : S). fold a ys) e ∙ sym (each s (f (get_or xs i d)) ys) ∙ ap (fold s) (sym (rest n xs i d h))

  -- ---- those that stay move down in their own array

  -- of n in `most` places m are built, what is left starts at i, and both make g
  pub record Keeping (t : B → Bool) (most n : ℕ) (g : List B) (q : List A) (m i : ℕ) : Type 0 where
    pub within : i ≤ n
    pub behind : m ≤ i
    pub few : n ≤ most
    pub room : length q ≡ most
    pub makes : part m q ++ keep t (drop i (part n q)) ≡ g

  module _ (t : B → Bool) (most n : ℕ) (q : List A) where
    pub keeping_start : (count : ℕ) → n ≡ min count most → length q ≡ most → Keeping t most n (keep t (part (min count most) q)) q 0 0
    keeping_start count e h = record { within = omega arith; behind = omega arith; few = omega arith; room = h; makes = ap (λ (k : ℕ). keep t (part k q)) e }

    module _ (g : List B) (m i : ℕ) (k : Keeping t most n g q m i) where
      module _ (d : A) (h : i < n) where
        inside : i < length (part n q)
        inside = omega (arith, length_part n q, k.few, k.room)

        pub keeping_in : t (f (get_or q i d)) ≡ true → Keeping t most n g (set q m (get_or q i d)) (m + 1) (i + 1)
        keeping_in e =
            let x = get_or q i d in
            record {
              within = omega arith;
              behind = omega arith;
              few = k.few;
              room = simp length-set k.room;
              makes = ap (λ (ys : List B). part (m + 1) (set q m x) ++ keep t ys) (past_set n q m i x (omega arith) (omega arith))
                  ∙ push m q x (keep t (drop (i + 1) (part n q))) (omega arith)
                  ∙ ap (λ (ys : List B). part m q ++ ys) (sym (stay n q i d t inside e)) ∙ k.makes;
            }

        pub keeping_out : t (f (get_or q i d)) ≡ false → Keeping t most n g q m (i + 1)
        keeping_out e = record {
          within = omega arith;
          behind = omega arith;
          few = k.few;
          room = k.room;
          makes = ap (λ (ys : List B). part m q ++ ys) (sym (go n q i d t inside e)) ∙ k.makes;
        }

      pub keeping_end : n ≤ i → part (min m most) q ≡ g
      unfolding keep
      keeping_end h =
          let all : min m most ≡ m = omega arith in
          ap (λ (c : ℕ). part c q) all ∙ finish m q (keep t (drop i (part n q))) g (ap (keep t) (rest_none n q i h)) k.makes

  -- ---- one more at a place: each from there on moves up in another array

  -- of n in `most` places, with room for more, one more than j are built, what is left starts at j, and both make g
  pub record Moving (most n : ℕ) (xs : List A) (g : List B) (q : List A) (j : ℕ) : Type 0 where
    pub within : j ≤ n
    pub few : n < most
    pub from : length xs ≡ most
    pub room : length q ≡ most
    pub makes : part (j + 1) q ++ drop j (part n xs) ≡ g

  module _ (most n : ℕ) (xs : List A) (g : List B) (q : List A) (j : ℕ) (k : Moving most n xs g q j) where
    pub moving_on : (d : A) → j < n → Moving most n xs g (set q (j + 1) (get_or xs j d)) (j + 1)
    moving_on d h =
        let inside : j < length (part n xs) = omega (arith, length_part n xs, k.few, k.from) in
        record {
          within = omega arith;
          few = k.few;
          from = k.from;
          room = simp length-set k.room;
          makes = push (j + 1) q (get_or xs j d) (drop (j + 1) (part n xs)) (omega arith) ∙ ap (λ (ys : List B). part (j + 1) q ++ ys) (sym (rest n xs j d inside)) ∙ k.makes;
        }

    ended : n ≤ j → part (n + 1) q ≡ g
    ended h =
        let e : n ≡ j = omega arith in
        ap (λ (m : ℕ). part (m + 1) q) e ∙ finish (j + 1) q (drop j (part n xs)) g (rest_none n xs j h) k.makes

  -- a place among those that are held, or the next
  module _ (most count n : ℕ) (xs : List A) (at : ℕ) (x : A) (held : n ≡ min count most) (len : length xs ≡ most) (within : at ≤ length (part (min count most) xs)) (room : length (part (min count most) xs) < most) where
    -- the new one in its place, and what is left to move
    abbrev opened : List B
    opened = part (at + 1) (set xs at x) ++ drop at (part n xs)

    pub moving_start : Moving most n xs opened (set xs at x) at
    moving_start =
        let l = length_part (min count most) xs in
        record { within = omega (arith, l); few = omega (arith, l); from = len; room = simp length-set len; makes = refl }

    pub moving_end : (q : List A) (j : ℕ) → Moving most n xs opened q j → n ≤ j → part (min (n + 1) most) q ≡ put_at at (f x) (part (min count most) xs)
    moving_end q j k h =
        let all : min (n + 1) most ≡ n + 1 = omega (arith, k.few) in
        let here : at ≤ n = omega (arith, length_part (min count most) xs) in
        ap (λ (m : ℕ). part m q) all
        ∙ ended most n xs opened q j k h
        ∙ push at xs x (drop at (part n xs)) (omega (arith, k.few))
        ∙ ap (λ (ys : List B). ys ++ (f x ∷ drop at (part n xs))) (ap (map f) (sym (take-take at n xs here)) ∙ map-take at (take n xs))
        ∙ ap (λ (m : ℕ). put_at at (f x) (part m xs)) held
