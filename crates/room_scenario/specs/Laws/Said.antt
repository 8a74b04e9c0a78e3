-- What a single word says: a fault, a number, a letter; and when two words are the same.
use Rattle.std.specs.Prelude.{ℕ, suc, ◌+◌, ◌<◌, ◌≤◌, ◌≡◌, refl, Bool, true, false, cond, ◌&&◌, List, [], ◌∷◌, eqb, leb, length, drop, get_or, Result, Ok, Err, IfOk, IsErrAnd}
use Rattle.std.proofs.Common.{add-one, arith, sym, ap, ◌∙◌, drop_of_length-le}
use Rattle.std.proofs.Math.Seq.{drop-cons}
use lib.Pointwise.{pointwise}
use Rattle.signed.specs.Laws.Tests.{both}
use Rattle.room_scenario.specs.declared.fault.Fault.{Fault}
use Rattle.room_scenario.specs.declared.fault.Fault.TheVariants.{NumberMissing, NotANumber, NumberTooLarge, NumberTooSmall, BoxMissing, NotABox}
use Rattle.text.specs.Digits.{all_digits, value}
use Rattle.room_scenario.specs.Text.{same_word}
use Rattle.room_scenario.specs.Grammar.{Line, faulty, number_word_then}
use Rattle.room_scenario.specs.Fields.{read_then, bounded, number_or_missing, letter_byte, letter_or_missing}

-- a fault, and no value
module _ {r : Result ℕ Fault} {f : Fault} (e : r ≡ Err f) where
  pub no_value : (n : ℕ) → IfOk r (λ v. v ≤ n)
  no_value n = rw e tt

  pub told : (go : ℕ → Line) → read_then r go ≡ faulty f
  told go = ap (λ (s : Result ℕ Fault). read_then s go) e

-- a number, and no fault
module _ {r : Result ℕ Fault} {n : ℕ} (e : r ≡ Ok n) where
  pub its_value : (m : ℕ) → n ≤ m → IfOk r (λ v. v ≤ m)
  its_value m h = rw e h

  pub said : (go : ℕ → Line) → read_then r go ≡ go n
  said go = ap (λ (s : Result ℕ Fault). read_then s go) e

-- what was called stopped at a fault, and so does its caller
pub stops : {A : Type 0} {f : Fault} (r : Result A Fault) → IsErrAnd r (λ y. y ≡ f) → (go : A → Line) → read_then r go ≡ faulty f
stops (Ok v) e go = absurd e
stops (Err y) e go = ap faulty e

-- ---- numbers

module _ (least most : ℕ) where
  pub number_none : (w : List ℕ) (go : ℕ → Line) → length w ≡ 0 → number_or_missing least most w go ≡ faulty NumberMissing
  number_none [] go h = refl
  number_none (b ∷ w) go h = let n : ⊥ = omega arith in absurd n

  number_some : (w : List ℕ) (go : ℕ → Line) → (length w ≡ 0 → ⊥) → number_or_missing least most w go ≡ number_word_then least most w go
  number_some [] go h = absurd (h refl)
  number_some (b ∷ w) go h = refl

  module _ (w : List ℕ) (go : ℕ → Line) (h : length w ≡ 0 → ⊥) where
    pub number_other : all_digits w ≡ false → number_or_missing least most w go ≡ faulty NotANumber
    number_other e = number_some w go h ∙ ap (λ (t : Bool). cond t (cond (leb (length w) 15 && leb (value w) most) (cond (leb least (value w)) (go (value w)) (faulty NumberTooSmall)) (faulty NumberTooLarge)) (faulty NotANumber)) e

    number_by : (t u : Bool) → all_digits w ≡ t → leb (length w) 15 ≡ u → number_or_missing least most w go ≡ cond t (cond (u && leb (value w) most) (cond (leb least (value w)) (go (value w)) (faulty NumberTooSmall)) (faulty NumberTooLarge)) (faulty NotANumber)
    number_by t u e f = number_some w go h ∙ rw (e, f)

    pub number_long : all_digits w ≡ true → leb (length w) 15 ≡ false → number_or_missing least most w go ≡ faulty NumberTooLarge
    number_long e f = number_by true false e f

    pub number_short : all_digits w ≡ true → leb (length w) 15 ≡ true → number_or_missing least most w go ≡ bounded least most (value w) go
    number_short e f = number_by true true e f

-- ---- letters

pub letter_none : (w : List ℕ) (go : ℕ → Line) → length w ≡ 0 → letter_or_missing w go ≡ faulty BoxMissing
letter_none [] go h = refl
letter_none (b ∷ w) go h = let n : ⊥ = omega arith in absurd n

pub letter_long : (w : List ℕ) (go : ℕ → Line) → 1 < length w → letter_or_missing w go ≡ faulty NotABox
letter_long [] go h = let n : ⊥ = omega arith in absurd n
letter_long (b ∷ []) go h = let n : ⊥ = omega arith in absurd n
letter_long (b ∷ (c ∷ w)) go h = refl

pub letter_one : (w : List ℕ) (go : ℕ → Line) → (length w ≡ 0 → ⊥) → length w ≤ 1 → letter_or_missing w go ≡ letter_byte (get_or w 0 0) go
letter_one [] go h k = absurd (h refl)
letter_one (b ∷ []) go h k = refl
letter_one (b ∷ (c ∷ w)) go h k = let n : ⊥ = omega arith in absurd n

-- ---- the same word

same_lengths : (a b : List ℕ) → same_word a b ≡ true → length a ≡ length b
unfolding same_word
same_lengths [] [] e = refl
same_lengths [] (b ∷ bs) e = let z : ◌≡◌ {A = ℕ} 0 1 = cc in let n : ⊥ = omega arith in absurd n
same_lengths (a ∷ as') [] e = let z : ◌≡◌ {A = ℕ} 0 1 = cc in let n : ⊥ = omega arith in absurd n
same_lengths (a ∷ as') (b ∷ bs) e = ap suc (same_lengths as' bs (both (eqb a b) (same_word as' bs) e).1)

never : (t : Bool) → (t ≡ true → ⊥) → t ≡ false
never true h = absurd (h refl)
never false h = refl

pub other_length : (a b : List ℕ) → (length a ≡ length b → ⊥) → same_word a b ≡ false
other_length a b h = never (same_word a b) (λ e. h (same_lengths a b e))

module _ (a b : List ℕ) (i : ℕ) (h : i < length a) (k : i < length b) where
  same_at : same_word (drop i a) (drop i b) ≡ (eqb (get_or a i 0) (get_or b i 0) && same_word (drop (i + 1) a) (drop (i + 1) b))
  unfolding same_word
  same_at = rw (add-one, drop-cons a i 0, drop-cons b i 0)

  pub same_ends : eqb (get_or a i 0) (get_or b i 0) ≡ false → same_word (drop i a) (drop i b) ≡ false
  same_ends e = same_at ∙ ap (λ (t : Bool). t && same_word (drop (i + 1) a) (drop (i + 1) b)) e

  pub same_passed : eqb (get_or a i 0) (get_or b i 0) ≡ true → same_word (drop (i + 1) a) (drop (i + 1) b) ≡ same_word (drop i a) (drop i b)
  same_passed e = sym (same_at ∙ ap (λ (t : Bool). t && same_word (drop (i + 1) a) (drop (i + 1) b)) e)

pub same_all : (a b : List ℕ) (i : ℕ) → length a ≤ i → length b ≤ i → same_word (drop i a) (drop i b) ≡ true
unfolding same_word
same_all a b i h k = rw (drop_of_length-le a h, drop_of_length-le b k)

-- as two slices are compared
same_bytes : (a b : List ℕ) → pointwise eqb a b ≡ same_word a b
unfolding same_word
same_bytes [] [] = refl
same_bytes [] (b ∷ bs) = refl
same_bytes (a ∷ as') [] = refl
same_bytes (a ∷ as') (b ∷ bs) = ap (λ (t : Bool). eqb a b && t) (same_bytes as' bs)

pub compared : (a b : List ℕ) {c : List ℕ} {t : Bool} → c ≡ b → t ≡ pointwise eqb a c → t ≡ same_word a b
compared a b h e = e ∙ ap (pointwise eqb a) h ∙ same_bytes a b
