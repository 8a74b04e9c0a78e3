-- The first n of an array, as they are: a count past the end, what is left from a place on, one more at the end, and one more at a place.
use Rattle.std.specs.Prelude.{ℕ, min, ◌+◌, ◌<◌, ◌≤◌, ◌≡◌, refl, Bool, true, false, List, [], ◌∷◌, ◌++◌, leb, length, take, drop, get_or, set}
use Rattle.std.proofs.Common.{arith, sym, ap, ◌∙◌, map-id, leb-true, leb-false, add-one, length-take, length-append, take_all, take-suc-set}
use Rattle.std.proofs.lemmas.List.{take-append-le}
use Rattle.lists.specs.Inner.Places.{put_at}
use Rattle.lists.specs.Laws.Arrays as arrays

module _ {A : Type 0} where
  -- each as it is
  abbrev pub itself : A → A
  itself x = x

  pub part_itself : (n : ℕ) (xs : List A) → arrays.part itself n xs ≡ take n xs
  part_itself n xs = map-id (take n xs)

  cut_by : (n : ℕ) (xs : List A) (t : Bool) → leb n (length xs) ≡ t → take n xs ≡ take (min n (length xs)) xs
  cut_by n xs true e =
      let h = leb-true n (length xs) e in
      let m : n ≡ min n (length xs) = omega arith in
      ap (λ (k : ℕ). take k xs) m
  cut_by n xs false e = let h = leb-false n (length xs) e in take_all n xs (omega arith) ∙ sym (take_all (min n (length xs)) xs (omega arith))

  -- a count past the end counts no more
  pub cut : (n m : ℕ) (xs : List A) → length xs ≡ m → take n xs ≡ take (min n m) xs
  cut n m xs e = cut_by n xs (leb n (length xs)) refl ∙ ap (λ (k : ℕ). take (min n k) xs) e

  -- the rest from i is the one at i and the rest from i + 1
  pub rest : (n : ℕ) (xs : List A) (i : ℕ) (d : A) → i < n → n ≤ length xs → drop i (take n xs) ≡ get_or xs i d ∷ drop (i + 1) (take n xs)
  rest n xs i d h k =
      let inside : i < length (arrays.part itself n xs) = omega (arith, arrays.length_part itself n xs) in
      sym (ap (drop i) (part_itself n xs)) ∙ arrays.rest itself n xs i d inside ∙ ap (λ (l : List A). get_or xs i d ∷ drop (i + 1) l) (part_itself n xs)

  pub rest_none : (n : ℕ) (xs : List A) (i : ℕ) → n ≤ i → drop i (take n xs) ≡ []
  rest_none n xs i h = sym (ap (drop i) (part_itself n xs)) ∙ arrays.rest_none itself n xs i h

  -- ---- one more at the end, of at most m

  module _ (m n : ℕ) (xs : List A) (x : A) (e : length xs ≡ m) where
    pub append_in : n < m → take (n + 1) (set xs n x) ≡ take m (take n xs ++ (x ∷ []))
    append_in h =
        let b : n < length xs = omega arith in
        let l : length (take n xs ++ (x ∷ [])) ≤ m = simp (length-append, length-take) (omega arith) in
        rw add-one (take-suc-set xs n x b) ∙ sym (take_all m (take n xs ++ (x ∷ [])) l)

    pub append_out : m ≤ n → take n xs ≡ take m (take n xs ++ (x ∷ []))
    append_out h =
        let all = take_all n xs (omega arith) in
        let l : m ≤ length xs = omega arith in
        all ∙ sym (ap (λ (ys : List A). take m (ys ++ (x ∷ []))) all ∙ take-append-le m xs (x ∷ []) l ∙ take_all m xs (omega arith))

  -- ---- one more at a place, of n among fewer than `most`

  module _ (most n : ℕ) (xs : List A) (at : ℕ) (x : A) (few : n < most) (len : length xs ≡ most) (within : at ≤ n) where
    held : min n most ≡ n
    held = omega arith

    inside : at ≤ length (arrays.part itself (min n most) xs)
    inside = omega (arith, arrays.length_part itself (min n most) xs)

    room : length (arrays.part itself (min n most) xs) < most
    room = omega (arith, arrays.length_part itself (min n most) xs)

    -- the new one in its place, and what is left to move
    pub moving_start : arrays.Moving itself most n xs (arrays.part itself (at + 1) (set xs at x) ++ drop at (arrays.part itself n xs)) (set xs at x) at
    moving_start = arrays.moving_start itself most n n xs at x (sym held) len inside room

    pub moving_end : (q : List A) (j : ℕ) → arrays.Moving itself most n xs (arrays.part itself (at + 1) (set xs at x) ++ drop at (arrays.part itself n xs)) q j → n ≤ j
        → take (n + 1) q ≡ put_at at x (take n xs)
    moving_end q j k h =
        let all : min (n + 1) most ≡ n + 1 = omega arith in
        sym (ap (λ (m : ℕ). arrays.part itself m q) all ∙ part_itself (n + 1) q)
        ∙ arrays.moving_end itself most n n xs at x (sym held) len inside room q j k h
        ∙ ap (put_at at x) (ap (λ (m : ℕ). arrays.part itself m xs) held ∙ part_itself n xs)
