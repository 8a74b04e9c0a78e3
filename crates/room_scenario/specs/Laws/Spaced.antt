-- A line word by word: the first word, and what stands behind it.
use Rattle.std.specs.Prelude.{ℕ, suc, ◌+◌, ◌<◌, ◌≤◌, ◌≡◌, refl, Bool, true, false, cond, List, [], ◌∷◌, eqb, length, drop, get_or}
use Rattle.std.proofs.Common.{zero-le, suc-le-suc, add-one, arith, sym, ap, ◌∙◌, drop_of_length-le}
use Rattle.std.proofs.Math.Seq.{drop-cons}
use Rattle.text.specs.Lines.{in_front, pieces, before}
use Rattle.room_scenario.specs.Text.{without_empty, spaced}
use Rattle.room_scenario.specs.Fields.{spaces, first_word, other_words, NextWord}

-- one turn of the search for what is no space: a space stands at i, or not
module _ (s : List ℕ) (i : ℕ) (h : i < length s) where
  spaces_at : spaces (drop i s) ≡ cond (eqb (get_or s i 0) 32) (suc (spaces (drop (i + 1) s))) 0
  unfolding spaces
  spaces_at = rw (add-one, drop-cons s i 0)

  pub space_ends : eqb (get_or s i 0) 32 ≡ false → i + spaces (drop i s) ≡ i
  space_ends e = omega (arith, spaces_at ∙ ap (λ (t : Bool). cond t (suc (spaces (drop (i + 1) s))) 0) e)

  pub space_passed : eqb (get_or s i 0) 32 ≡ true → (i + 1) + spaces (drop (i + 1) s) ≡ i + spaces (drop i s)
  space_passed e = omega (arith, spaces_at ∙ ap (λ (t : Bool). cond t (suc (spaces (drop (i + 1) s))) 0) e)

pub spaces_none : (s : List ℕ) (i : ℕ) → length s ≤ i → i + spaces (drop i s) ≡ i
unfolding spaces
spaces_none s i h = rw (drop_of_length-le s h) (omega arith)

-- ---- words

-- all words but empty ones are there
pub data Worded : List (List ℕ) → Type 0 where
  no_word : Worded []
  a_word : {b : ℕ} {w : List ℕ} {ws : List (List ℕ)} → Worded ((b ∷ w) ∷ ws)

pub worded : (ps : List (List ℕ)) → Worded (without_empty ps)
unfolding without_empty
worded [] = no_word
worded ([] ∷ ps) = worded ps
worded ((b ∷ w) ∷ ps) = a_word

front : (b c : ℕ) (ps : List (List ℕ)) → without_empty (in_front b (in_front c ps)) ≡ in_front b (without_empty (in_front c ps))
unfolding without_empty
front b c [] = refl
front b c (p ∷ ps) = refl

-- a word that begins with a byte, with what stands behind it
begun_by : (t : Bool) (b c : ℕ) (cs : List ℕ) → without_empty (in_front c (pieces 32 cs)) ≡ (c ∷ before 32 cs) ∷ spaced (drop (length (before 32 cs)) cs) → (t ≡ true → spaced (c ∷ cs) ≡ spaced cs) → without_empty (in_front b (cond t ([] ∷ pieces 32 cs) (in_front c (pieces 32 cs)))) ≡ (b ∷ cond t [] (c ∷ before 32 cs)) ∷ spaced (drop (length (cond t [] (c ∷ before 32 cs))) (c ∷ cs))
unfolding without_empty spaced
begun_by true b c cs e f = ap (λ (ws : List (List ℕ)). (b ∷ []) ∷ ws) (sym (f refl))
begun_by false b c cs e f = front b c (pieces 32 cs) ∙ ap (in_front b) e

space_skipped : (c : ℕ) (cs : List ℕ) → eqb c 32 ≡ true → spaced (c ∷ cs) ≡ spaced cs
unfolding spaced pieces without_empty
space_skipped c cs e = ap (λ (t : Bool). without_empty (cond t ([] ∷ pieces 32 cs) (in_front c (pieces 32 cs)))) e

begun : (b : ℕ) (bs : List ℕ) → without_empty (in_front b (pieces 32 bs)) ≡ (b ∷ before 32 bs) ∷ spaced (drop (length (before 32 bs)) bs)
unfolding pieces before without_empty spaced
begun b [] = refl
begun b (c ∷ cs) = begun_by (eqb c 32) b c cs (begun c cs) (space_skipped c cs)

-- the words of a list: the first stands behind its spaces
word_by : (t : Bool) (b : ℕ) (bs : List ℕ) → first_word (spaced bs) ≡ before 32 (drop (spaces bs) bs) → (t ≡ true → spaced (b ∷ bs) ≡ spaced bs) → (t ≡ false → spaced (b ∷ bs) ≡ (b ∷ before 32 bs) ∷ spaced (drop (length (before 32 bs)) bs)) → (t ≡ false → before 32 (b ∷ bs) ≡ b ∷ before 32 bs) → first_word (spaced (b ∷ bs)) ≡ before 32 (drop (cond t (suc (spaces bs)) 0) (b ∷ bs))
word_by true b bs e p q r = ap first_word (p refl) ∙ e
word_by false b bs e p q r = ap first_word (q refl) ∙ sym (r refl)

rest_by : (t : Bool) (b : ℕ) (bs : List ℕ) → other_words (spaced bs) ≡ spaced (drop (length (before 32 (drop (spaces bs) bs))) (drop (spaces bs) bs)) → (t ≡ true → spaced (b ∷ bs) ≡ spaced bs) → (t ≡ false → spaced (b ∷ bs) ≡ (b ∷ before 32 bs) ∷ spaced (drop (length (before 32 bs)) bs)) → (t ≡ false → before 32 (b ∷ bs) ≡ b ∷ before 32 bs) → other_words (spaced (b ∷ bs)) ≡ spaced (drop (length (before 32 (drop (cond t (suc (spaces bs)) 0) (b ∷ bs)))) (drop (cond t (suc (spaces bs)) 0) (b ∷ bs)))
rest_by true b bs e p q r = ap other_words (p refl) ∙ e
rest_by false b bs e p q r = ap other_words (q refl) ∙ sym (ap (λ (l : List ℕ). spaced (drop (length l) (b ∷ bs))) (r refl))

word_begins : (b : ℕ) (bs : List ℕ) → eqb b 32 ≡ false → spaced (b ∷ bs) ≡ (b ∷ before 32 bs) ∷ spaced (drop (length (before 32 bs)) bs)
unfolding spaced pieces
word_begins b bs e = ap (λ (t : Bool). without_empty (cond t ([] ∷ pieces 32 bs) (in_front b (pieces 32 bs)))) e ∙ begun b bs

before_other : (b : ℕ) (bs : List ℕ) → eqb b 32 ≡ false → before 32 (b ∷ bs) ≡ b ∷ before 32 bs
unfolding before
before_other b bs e = ap (λ (t : Bool). cond t [] (b ∷ before 32 bs)) e

first_of_none : first_word (spaced []) ≡ before 32 []
unfolding spaced pieces without_empty before
first_of_none = refl

rest_of_none : other_words (spaced []) ≡ spaced (drop (length (before 32 [])) [])
unfolding spaced pieces without_empty before
rest_of_none = refl

pub first_of : (l : List ℕ) → first_word (spaced l) ≡ before 32 (drop (spaces l) l)
unfolding spaces
first_of [] = first_of_none
first_of (b ∷ bs) = word_by (eqb b 32) b bs (first_of bs) (space_skipped b bs) (word_begins b bs) (before_other b bs)

pub rest_of : (l : List ℕ) → other_words (spaced l) ≡ spaced (drop (length (before 32 (drop (spaces l) l))) (drop (spaces l) l))
unfolding spaces
rest_of [] = rest_of_none
rest_of (b ∷ bs) = rest_by (eqb b 32) b bs (rest_of bs) (space_skipped b bs) (word_begins b bs) (before_other b bs)

spaces_by : (t : Bool) (n m : ℕ) → n ≤ m → cond t (suc n) 0 ≤ suc m
spaces_by true n m h = suc-le-suc h
spaces_by false n m h = zero-le

pub spaces_within : (l : List ℕ) → spaces l ≤ length l
unfolding spaces
spaces_within [] = zero-le
spaces_within (b ∷ bs) = spaces_by (eqb b 32) (spaces bs) (length bs) (spaces_within bs)

-- the first word stands behind the spaces, and up to the next one
pub next_word : (l word behind : List ℕ) → word ≡ before 32 (drop (spaces l) l) → behind ≡ drop (length word) (drop (spaces l) l) → NextWord l word behind
next_word l word behind e f = record {
  first = e ∙ sym (first_of l);
  rest = ap spaced f ∙ sym (rest_of l ∙ ap (λ (w : List ℕ). spaced (drop (length w) (drop (spaces l) l))) (sym e));
}

pub worded_line : (l : List ℕ) → Worded (spaced l)
unfolding spaced
worded_line l = worded (pieces 32 l)
