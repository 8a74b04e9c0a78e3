-- What a word says as a number, digit by digit.
use Rattle.std.specs.Prelude.{ℕ, suc, zero, ◌+◌, ◌-◌, ◌*◌, ◌^◌, ◌<◌, ◌≤◌, Bool, true, false, ◌&&◌, cond, List, [], ◌∷◌, ◌≡◌, refl, leb, ltb, length, drop, get_or, ℤ, pos, ◌-ℤ◌, neg_ℤ, FitsSigned, Option, Some, None}
use Rattle.std.specs.Int.{w64}
use Rattle.std.specs.Option.{SomeIff}
use Rattle.std.proofs.Common.{arith, sym, ap, ◌∙◌, add-one, lit<, drop-cons, drop_of_length-le, le-leb, le-ltb, lt-ltb}
use Rattle.std.proofs.lemmas.Bool.{lt-leb}
use Rattle.std.proofs.lemmas.Int.{ints}
use Rattle.big_endian.specs.Laws.Puts.{by_bound}
use Rattle.midi_file.specs.Laws.Numbers.{by_test}
use Rattle.text.specs.Digits.{all_digits, followed, value}
use Rattle.tempo_text.specs.Answer.{is_size}

-- what a word says, where it is a size within `most`
abbrev pub sized : ℕ → List ℕ → Option ℕ
sized most word = cond (is_size most word) (Some (value word)) None

-- the largest number of 64 bits
abbrev word_most : ℕ
word_most = 18_446_744_073_709_551_615

-- ---- the words that say nothing

module _ (word : List ℕ) where
  pub empty_none : length word ≡ 0 → None ≡ sized word_most word
  unfolding is_size
  empty_none h = sym (rw (le-ltb 0 (length word) (omega arith)))

  pub other_none : all_digits word ≡ false → None ≡ sized word_most word
  unfolding is_size
  other_none e =
      by_test (ltb 0 (length word))
      (λ t. sym (rw (t, e)))
      (λ t. sym (rw t))

-- ---- the digits, one after the other

-- digits that follow make no number smaller
followed_least : (n : ℕ) (word : List ℕ) → n ≤ followed n word
unfolding followed
followed_least n [] = omega arith
followed_least n (b ∷ word) = omega (arith, followed_least (n * 10 + (b - 48)) word)

-- the digits that were read say n, and with those that are left the word's value
pub record Read (word rest : List ℕ) (n : ℕ) : Type 0 where
  pub some : 0 < length word
  pub digits : all_digits word ≡ true
  pub fits : n < 2 ^ 64
  pub says : followed n rest ≡ value word

pub read_first : (word : List ℕ) → 0 < length word → all_digits word ≡ true → Read word word 0
read_first word h e = record { some = h; digits = e; fits = lit< tt; says = refl }

-- the digit at a place, and the rest
pub rest_none : (xs : List ℕ) (i : ℕ) → length xs ≤ i → drop i xs ≡ []
rest_none xs i h = drop_of_length-le xs h

pub rest_from : (xs : List ℕ) (i : ℕ) → i < length xs → drop i xs ≡ get_or xs i 0 ∷ drop (i + 1) xs
rest_from xs i h = drop-cons xs i 0 h ∙ rw add-one

module _ {word rest : List ℕ} {n : ℕ} (r : Read word rest n) where
  pub read_last : rest ≡ [] → Some n ≡ sized word_most word
  unfolding followed is_size
  read_last e =
      let v : n ≡ value word = ap (followed n) (sym e) ∙ r.says in
      ap Some v ∙ sym (rw (lt-ltb 0 (length word) r.some, r.digits, le-leb (value word) word_most (omega (arith, r.fits))))

  module _ (b : ℕ) (rest' : List ℕ) (e : rest ≡ b ∷ rest') where
    next_says : followed (n * 10 + (b - 48)) rest' ≡ value word
    unfolding followed
    next_says = ap (followed n) (sym e) ∙ r.says

    pub read_over : 2 ^ 64 ≤ n * 10 + (b - 48) → None ≡ sized word_most word
    unfolding is_size
    read_over h =
        let v : word_most < value word = omega (arith, followed_least (n * 10 + (b - 48)) rest', next_says) in
        sym (rw (lt-ltb 0 (length word) r.some, r.digits, lt-leb (value word) word_most v))

    pub read_next : (m : ℕ) → m ≡ n * 10 + (b - 48) → m < 2 ^ 64 → Read word rest' m
    read_next m i h = record { some = r.some; digits = r.digits; fits = h; says = ap (λ (j : ℕ). followed j rest') i ∙ next_says }

-- ---- a size, and the numbers within one

module _ (word : List ℕ) (most : ℕ) (h : most ≤ word_most) where
  none_within : None ≡ sized word_most word → is_size most word ≡ false
  unfolding is_size
  none_within e =
      by_test (ltb 0 (length word) && all_digits word)
      (λ t. by_test (leb (value word) word_most)
      (λ u. let f : None ≡ Some (value word) = rw (t, u) at e in absurd (cc f))
      (λ u. rw t (lt-leb (value word) most (omega (arith, over u)))))
      (λ t. rw t)
    where
      over : leb (value word) word_most ≡ false → word_most < value word
      over u = by_bound (value word) word_most (λ k. let f : true ≡ false = sym (le-leb (value word) word_most k) ∙ u in absurd (cc f)) (λ k. k)

  some_within : (n : ℕ) → Some n ≡ sized word_most word → (n ≡ value word) × (is_size most word ≡ leb n most)
  unfolding is_size
  some_within n e =
      by_test (ltb 0 (length word) && all_digits word)
      (λ t. by_test (leb (value word) word_most)
      (λ u. let f : Some n ≡ Some (value word) = rw (t, u) at e in
      let v : n ≡ value word = cc f in
      (v, rw t (ap (λ (k : ℕ). leb k most) (sym v))))
      (λ u. let f : Some n ≡ None = rw (t, u) at e in absurd (cc f)))
      (λ t. let f : Some n ≡ None = rw t at e in absurd (cc f))

  -- the number that a size makes, where the word is a size within `most`
  pub no_number_in : None ≡ sized word_most word → (z : ℕ → ℤ) → None ≡ cond (is_size most word) (Some (z (value word))) None
  no_number_in e z = sym (rw (none_within e))

  pub number_in : (n : ℕ) → Some n ≡ sized word_most word → (z : ℕ → ℤ) → cond (leb n most) (Some (z n)) None ≡ cond (is_size most word) (Some (z (value word))) None
  number_in n e z =
      let x = some_within n e in
      ap (λ (b : Bool). cond b (Some (z n)) None) (sym x.1) ∙ ap (λ (k : ℕ). cond (is_size most word) (Some (z k)) None) x.0

less : (n : ℕ) → pos 0 -ℤ pos n ≡ neg_ℤ (pos n)
less zero = omega (arith, ints)
less (suc n) = omega (arith, ints)

less_fits : (n : ℕ) → n ≤ 9_223_372_036_854_775_808 → FitsSigned w64 (neg_ℤ (pos n))
less_fits zero h = record { sfits = omega arith }
less_fits (suc n) h = record { sfits = omega arith }

less_within : (n : ℕ) → FitsSigned w64 (neg_ℤ (pos n)) → n ≤ 9_223_372_036_854_775_808
less_within zero f = omega arith
less_within (suc n) f = omega (arith, f.sfits)

-- 0 less a size, where that is a number of 64 bits
pub negated : (n : ℕ) (r : Option ℤ) → SomeIff r (FitsSigned w64 (pos 0 -ℤ pos n)) (pos 0 -ℤ pos n) → r ≡ cond (leb n 9_223_372_036_854_775_808) (Some (neg_ℤ (pos n))) None
negated n None s =
    by_bound n 9_223_372_036_854_775_808
    (λ k. absurd (s (rw (less n) (less_fits n k))))
    (λ k. sym (rw (lt-leb n 9_223_372_036_854_775_808 k)))
negated n (Some x) s =
    let f : FitsSigned w64 (neg_ℤ (pos n)) = rw (less n) at s.0 in
    ap Some (s.1 ∙ less n) ∙ sym (rw (le-leb n 9_223_372_036_854_775_808 (less_within n f)))
