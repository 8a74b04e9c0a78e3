-- A text piece by piece: the first line or other piece, and what stands behind it.
use Rattle.std.specs.Prelude.{ℕ, suc, ◌+◌, ◌-◌, ◌<◌, ◌≤◌, ◌≡◌, refl, Bool, true, false, cond, List, [], ◌∷◌, ◌++◌, eqb, length, take, drop, get_or}
use Rattle.std.proofs.Common.{zero-le, suc-le-suc, add-one, arith, sym, ap, ◌∙◌, eq-eqb, drop_of_length-le, length-drop, drop-drop}
use Rattle.std.proofs.Math.Seq.{drop-cons}
use Rattle.text.specs.Lines.{in_front, pieces, before}

-- ---- before a separator

-- it is as many bytes of the list
taken_by : (t : Bool) (b : ℕ) (bs r : List ℕ) → take (length r) bs ≡ r → take (length (cond t [] (b ∷ r))) (b ∷ bs) ≡ cond t [] (b ∷ r)
taken_by true b bs r e = refl
taken_by false b bs r e = ap (λ (l : List ℕ). b ∷ l) e

pub take-before : (sep : ℕ) (l : List ℕ) → take (length (before sep l)) l ≡ before sep l
unfolding before
take-before sep [] = refl
take-before sep (b ∷ bs) = taken_by (eqb b sep) b bs (before sep bs) (take-before sep bs)

within_by : (t : Bool) (b : ℕ) (bs r : List ℕ) → length r ≤ length bs → length (cond t [] (b ∷ r)) ≤ suc (length bs)
within_by true b bs r h = zero-le
within_by false b bs r h = suc-le-suc h

pub before_within : (sep : ℕ) (l : List ℕ) → length (before sep l) ≤ length l
unfolding before
before_within sep [] = zero-le
before_within sep (b ∷ bs) = within_by (eqb b sep) b bs (before sep bs) (before_within sep bs)

-- one turn of the search for a byte: it stands at i, or not
module _ (sep : ℕ) (s : List ℕ) (i : ℕ) (h : i < length s) where
  before_at : before sep (drop i s) ≡ cond (eqb (get_or s i 0) sep) [] (get_or s i 0 ∷ before sep (drop (i + 1) s))
  unfolding before
  before_at = rw (add-one, drop-cons s i 0)

  pub found_here : eqb (get_or s i 0) sep ≡ true → i + length (before sep (drop i s)) ≡ i
  found_here e = omega (arith, ap (λ (l : List ℕ). length l) (before_at ∙ ap (λ (t : Bool). cond t [] (get_or s i 0 ∷ before sep (drop (i + 1) s))) e))

  pub found_later : eqb (get_or s i 0) sep ≡ false → (i + 1) + length (before sep (drop (i + 1) s)) ≡ i + length (before sep (drop i s))
  found_later e = omega (arith, ap (λ (l : List ℕ). length l) (before_at ∙ ap (λ (t : Bool). cond t [] (get_or s i 0 ∷ before sep (drop (i + 1) s))) e))

pub found_none : (sep : ℕ) (s : List ℕ) (i : ℕ) → length s ≤ i → i + length (before sep (drop i s)) ≡ i
unfolding before
found_none sep s i h = rw (drop_of_length-le s h) (omega arith)

-- ---- pieces

-- a piece ends before the first separator, and the next begins behind that
piece_by : (t : Bool) (sep b : ℕ) (bs : List ℕ) → in_front b (pieces sep bs) ≡ (b ∷ before sep bs) ∷ pieces sep (drop (suc (length (before sep bs))) bs) → cond t ([] ∷ pieces sep bs) (in_front b (pieces sep bs)) ≡ cond t [] (b ∷ before sep bs) ∷ pieces sep (drop (length (cond t [] (b ∷ before sep bs))) bs)
piece_by true sep b bs e = refl
piece_by false sep b bs e = e

first_piece : (sep b : ℕ) (bs : List ℕ) → pieces sep (b ∷ bs) ≡ before sep (b ∷ bs) ∷ pieces sep (drop (length (before sep (b ∷ bs))) bs)
unfolding pieces before
first_piece sep b [] = piece_by (eqb b sep) sep b [] refl
first_piece sep b (c ∷ cs) = piece_by (eqb b sep) sep b (c ∷ cs) (ap (in_front b) (first_piece sep c cs))

of_cons : (sep b : ℕ) (l bs : List ℕ) → l ≡ b ∷ bs → pieces sep l ≡ before sep l ∷ pieces sep (drop (suc (length (before sep l))) l)
of_cons sep b l bs e = rw e (first_piece sep b bs)

-- the piece that begins at i
pub piece_at : (sep : ℕ) (s : List ℕ) (i : ℕ) → i < length s → pieces sep (drop i s) ≡ before sep (drop i s) ∷ pieces sep (drop (i + length (before sep (drop i s)) + 1) s)
piece_at sep s i h =
    let n = length (before sep (drop i s)) in
    let k : i + suc n ≡ i + n + 1 = omega arith in
    of_cons sep (get_or s i 0) (drop i s) (drop (suc i) s) (drop-cons s i 0 h)
    ∙ ap (λ (l : List ℕ). before sep (drop i s) ∷ pieces sep l) (drop-drop (suc n) i s ∙ ap (λ (m : ℕ). drop m s) k)

-- the piece from `at` to `end`, the next separator
module _ (sep : ℕ) (s : List ℕ) (at end : ℕ) (e : end ≡ at + length (before sep (drop at s))) where
  pub piece_is : take (end - at) (drop at s) ≡ before sep (drop at s)
  piece_is =
      let n : end - at ≡ length (before sep (drop at s)) = omega arith in
      ap (λ (m : ℕ). take m (drop at s)) n ∙ take-before sep (drop at s)

  pub piece_within : at ≤ length s → end ≤ length s
  piece_within h = omega (arith, before_within sep (drop at s), length-drop at s)

  pub pieces_are : at < length s → pieces sep (drop at s) ≡ take (end - at) (drop at s) ∷ pieces sep (drop (end + 1) s)
  pieces_are h =
      piece_at sep s at h
      ∙ ap (λ (m : ℕ). before sep (drop at s) ∷ pieces sep (drop (m + 1) s)) (sym e)
      ∙ ap (λ (l : List ℕ). l ∷ pieces sep (drop (end + 1) s)) (sym piece_is)

-- ---- what a separator ends

-- no such byte
pub data Lacks (sep : ℕ) : List ℕ → Type 0 where
  lacks_none : Lacks sep []
  lacks_one : {b : ℕ} {l : List ℕ} → eqb b sep ≡ false → Lacks sep l → Lacks sep (b ∷ l)

pub before_first : {sep : ℕ} {l : List ℕ} → Lacks sep l → (rest : List ℕ) → before sep (l ++ (sep ∷ rest)) ≡ l
unfolding before
before_first {sep} lacks_none rest = rw (eq-eqb sep sep refl)
before_first (lacks_one {b} {l} e h) rest = rw e (ap (λ (m : List ℕ). b ∷ m) (before_first h rest))

pub first_ended : {sep : ℕ} {l : List ℕ} → Lacks sep l → (rest : List ℕ) → pieces sep (l ++ (sep ∷ rest)) ≡ l ∷ pieces sep rest
unfolding pieces
first_ended {sep} lacks_none rest = rw (eq-eqb sep sep refl)
first_ended (lacks_one {b} {l} e h) rest = rw e (ap (in_front b) (first_ended h rest))
