-- The two words of a line, as the code cuts them out.
use Prim.Native.Nat.{ℕ, suc, ◌+◌, ◌-◌, ◌≤◌}
use native.Mathlib.Omega.{arith}
use Rattle.std.specs.Prelude.{cond, ◌≡◌, refl, ℤ, pos, neg_ℤ, drop, get_or, nat_eq, eqb, Option, None, Some}
use mathlib.Core.List.{List, [], ◌∷◌}
use Rattle.std.proofs.Common.{sym, ◌∙◌, eqb-true, eq-eqb, ne_eqb, length-drop, drop_of_length-le, take_all}
use Rattle.std.proofs.Math.Path.{ap, ap₂}
use Rattle.std.proofs.Math.ListN.{length, take}
use Rattle.std.specs.Cmp.Lexicographic.{pointwise}
use Rattle.std.specs.List.{starts_with}
use Rattle.std.proofs.lemmas.Bool.{eqb-false}
use Rattle.midi_file.specs.Laws.Numbers.{by_test}
use Rattle.text.specs.Digits.{value}
use Rattle.text.specs.Lines.{before}
use Rattle.text.specs.Laws.Pieces.{take-before, before_within}
use Rattle.tempo_text.specs.Answer.{is_size, number, both, pair}

-- the part of a list from a place on
pub rest_is : (k : ℕ) (l : List ℕ) → take (length l - k) (drop k l) ≡ drop k l
rest_is k l = let h : length (drop k l) ≤ length l - k = omega (arith, length-drop k l) in take_all (length l - k) (drop k l) h

-- ---- a number, by its first byte

-- whether a byte stands in front
pub first_is : (b : ℕ) (word : List ℕ) → ¬ (b ≡ 0) → pointwise nat_eq (take 1 word) (b ∷ []) ≡ eqb (get_or word 0 0) b
first_is b [] h = sym (ne_eqb 0 b (λ e. h (sym e)))
first_is b (a ∷ word) h = by_test (eqb a b) (λ t. rw t refl) (λ t. rw t refl)

pub starts_as : (b : ℕ) (word : List ℕ) → ¬ (b ≡ 0) → starts_with nat_eq word (b ∷ []) ≡ eqb (get_or word 0 0) b
starts_as b [] h = sym (ne_eqb 0 b (λ e. h (sym e)))
starts_as b (a ∷ word) h =
    by_test (eqb a b)
    (λ t. let e : b ≡ a = sym (eqb-true a b t) in rw (t, eq-eqb b a e) refl)
    (λ t. rw (t, ne_eqb b a (λ e. eqb-false a b t (sym e))) refl)

pub no_number : (word : List ℕ) → length word ≡ 0 → number word ≡ None
unfolding number is_size
no_number [] h = refl
no_number (b ∷ word) h = absurd (omega arith)

pub with_sign : (word : List ℕ) → get_or word 0 0 ≡ 45 → number word ≡ cond (is_size 9_223_372_036_854_775_808 (drop 1 word)) (Some (neg_ℤ (pos (value (drop 1 word))))) None
unfolding number
with_sign word e = rw (eq-eqb (get_or word 0 0) 45 e)

pub without_sign : (word : List ℕ) → (get_or word 0 0 ≡ 45 → ⊥) → number word ≡ cond (is_size 9_223_372_036_854_775_807 word) (Some (pos (value word))) None
unfolding number
without_sign word e = rw (ne_eqb (get_or word 0 0) 45 e)

-- ---- a pair

both_none : (o : Option ℤ) → both o None ≡ None
both_none None = refl
both_none (Some z) = refl

-- the first space stands at `space`
module _ (line : List ℕ) (space : ℕ) (e : space ≡ 0 + length (before 32 line)) where
  pub space_within : space ≤ length line
  space_within = omega (arith, before_within 32 line)

  -- or nowhere
  pub no_pair : space ≡ length line → pair line ≡ None
  unfolding pair
  no_pair h =
      let k : length line ≤ suc (length (before 32 line)) = omega arith in
      ap (both (number (before 32 line))) (ap number (drop_of_length-le line k) ∙ no_number [] refl) ∙ both_none (number (before 32 line))

  pub pair_is : pair line ≡ both (number (take space line)) (number (take (length line - (space + 1)) (drop (space + 1) line)))
  unfolding pair
  pair_is =
      let n : space ≡ length (before 32 line) = omega arith in
      let m : suc (length (before 32 line)) ≡ space + 1 = omega arith in
      ap₂ both
      (ap number (sym (ap (λ (k : ℕ). take k line) n ∙ take-before 32 line)))
      (ap (λ (k : ℕ). number (drop k line)) m ∙ ap number (sym (rest_is (space + 1) line)))

  abbrev tempo_word : List ℕ
  tempo_word = take space line

  abbrev origin_word : List ℕ
  origin_word = take (length line - (space + 1)) (drop (space + 1) line)

  pub no_tempo : None ≡ number tempo_word → None ≡ pair line
  no_tempo f = sym (pair_is ∙ ap (λ (o : Option ℤ). both o (number origin_word)) (sym f))

  module _ (t : ℤ) (f : Some t ≡ number tempo_word) where
    pub no_origin : None ≡ number origin_word → None ≡ pair line
    no_origin g = sym (pair_is ∙ ap₂ both (sym f) (sym g))

    pub pair_found : (o : ℤ) → Some o ≡ number origin_word → Some (record { tempo = record { 0 = t }; beat_origin = record { 0 = o } }) ≡ pair line
    pair_found o g = sym (pair_is ∙ ap₂ both (sym f) (sym g))
