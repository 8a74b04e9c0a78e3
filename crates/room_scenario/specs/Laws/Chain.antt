-- A word behind a word: what is read next of a line.
use Rattle.std.specs.Prelude.{ℕ, ◌≡◌, refl, Bool, true, false, cond, List, [], ◌∷◌, length, Result, Ok, Err}
use Rattle.std.proofs.Common.{arith, sym, ap, ap₂, ◌∙◌}
use Rattle.room_scenario.specs.declared.fault.Fault.{Fault}
use Rattle.room_scenario.specs.declared.fault.Fault.TheVariants.{UnknownStatement, UnexpectedWord}
use Rattle.room_scenario.specs.Text.{spaced, same_word}
use Rattle.room_scenario.specs.Words.{ports_word}
use Rattle.room_scenario.specs.Grammar.{Line, faulty, number_then, letter_then, keyword_then, at_end, ports_then, Verb, verb_word_then, verb_then}
use Rattle.room_scenario.specs.Fields.{first_word, other_words, NextWord, read_then, number_or_missing, letter_or_missing}
use Rattle.room_scenario.specs.Laws.Spaced.{Worded, no_word, a_word, worded_line}

-- ---- the four kinds of words

abbrev pub keyword_word : List ℕ → List ℕ → (ℕ → Line) → Line
keyword_word keyword word go = cond (same_word word keyword) (go 0) (faulty UnknownStatement)

pub number_view : (least most : ℕ) (ws : List (List ℕ)) → Worded ws → (go : ℕ → List (List ℕ) → Line) → number_or_missing least most (first_word ws) (λ n. go n (other_words ws)) ≡ number_then least most ws go
number_view least most _ no_word go = refl
number_view least most _ a_word go = refl

pub letter_view : (ws : List (List ℕ)) → Worded ws → (go : ℕ → List (List ℕ) → Line) → letter_or_missing (first_word ws) (λ n. go n (other_words ws)) ≡ letter_then ws go
letter_view _ no_word go = refl
letter_view _ a_word go = refl

pub verb_view : (ws : List (List ℕ)) → Worded ws → (go : Verb → List (List ℕ) → Line) → verb_word_then (first_word ws) (λ v. go v (other_words ws)) ≡ verb_then ws go
unfolding same_word
verb_view _ no_word go = refl
verb_view _ a_word go = refl

pub keyword_view : (keyword : List ℕ) → same_word [] keyword ≡ false → (ws : List (List ℕ)) → Worded ws → (go : ℕ → List (List ℕ) → Line) → keyword_word keyword (first_word ws) (λ v. go v (other_words ws)) ≡ keyword_then keyword ws (go 0)
keyword_view keyword e _ no_word go = ap (λ (t : Bool). cond t (go 0 []) (faulty UnknownStatement)) e
keyword_view keyword e _ a_word go = refl

-- what a test for the keyword says
pub keyword_said : (keyword word : List ℕ) (t : Bool) (r : Result ℕ Fault) → t ≡ same_word word keyword → r ≡ cond t (Ok 0) (Err UnknownStatement) → (go : ℕ → Line) → read_then r go ≡ keyword_word keyword word go
keyword_said keyword word t r e f go = ap (λ (m : Result ℕ Fault). read_then m go) f ∙ by t ∙ ap (λ (b : Bool). cond b (go 0) (faulty UnknownStatement)) e
  where
    by : (b : Bool) → read_then (cond b (Ok 0) (Err UnknownStatement)) go ≡ cond b (go 0) (faulty UnknownStatement)
    by true = refl
    by false = refl

-- ---- the first word of a line, and the line behind it

module _ {line word behind : List ℕ} (n : NextWord line word behind) where
  -- its words
  abbrev left : List (List ℕ)
  left = spaced line

  module _ {A B : Type 0} (meaning : B → A) (one : List ℕ → (A → Line) → Line) (all : List (List ℕ) → (A → List (List ℕ) → Line) → Line) (view : (ws : List (List ℕ)) → Worded ws → (go : A → List (List ℕ) → Line) → one (first_word ws) (λ v. go v (other_words ws)) ≡ all ws go) where
    pub word_behind : (said : Result B Fault) → ((go : A → Line) → read_then said (λ v. go (meaning v)) ≡ one word go)
        → (go : A → List (List ℕ) → Line) → read_then said (λ v. go (meaning v) (spaced behind)) ≡ all left go
    word_behind said h go =
        h (λ v. go v (spaced behind))
        ∙ ap₂ (λ (w : List ℕ) (ws : List (List ℕ)). one w (λ v. go v ws)) n.first n.rest
        ∙ view left (worded_line line) go

  -- ---- no word, or one

  none_by : (ws : List (List ℕ)) → Worded ws → length (first_word ws) ≡ 0 → ws ≡ []
  none_by _ no_word e = refl
  none_by _ a_word e = let n : ⊥ = omega arith in absurd n

  pub none_left : length word ≡ 0 → left ≡ []
  none_left e = none_by left (worded_line line) (sym (ap (λ (w : List ℕ). length w) n.first) ∙ e)

  end_by : (ws : List (List ℕ)) → Worded ws → (length (first_word ws) ≡ 0 → ⊥) → (l : Line) → at_end ws l ≡ faulty UnexpectedWord
  end_by _ no_word h l = absurd (h refl)
  end_by _ a_word h l = refl

  ports_by : (ws : List (List ℕ)) → Worded ws → (length (first_word ws) ≡ 0 → ⊥) → (go : ℕ → List (List ℕ) → Line) → ports_then ws go ≡ keyword_then ports_word ws (λ rest. number_then 1 4 rest go)
  ports_by _ no_word h go = absurd (h refl)
  ports_by _ a_word h go = refl

  some_left : (length word ≡ 0 → ⊥) → length (first_word left) ≡ 0 → ⊥
  some_left h e = h (ap (λ (w : List ℕ). length w) n.first ∙ e)

  there_by : (ws : List (List ℕ)) → Worded ws → (length (first_word ws) ≡ 0 → ⊥) → first_word ws ∷ other_words ws ≡ ws
  there_by _ no_word h = absurd (h refl)
  there_by _ a_word h = refl

  pub word_there : (length word ≡ 0 → ⊥) → word ∷ spaced behind ≡ left
  word_there h = ap₂ (λ (w : List ℕ) (ws : List (List ℕ)). w ∷ ws) n.first n.rest ∙ there_by left (worded_line line) (some_left h)

  pub word_left : (length word ≡ 0 → ⊥) → (l : Line) → at_end left l ≡ faulty UnexpectedWord
  word_left h l = end_by left (worded_line line) (some_left h) l

  pub ports_left : (length word ≡ 0 → ⊥) → (go : ℕ → List (List ℕ) → Line) → ports_then left go ≡ keyword_then ports_word left (λ rest. number_then 1 4 rest go)
  ports_left h go = ports_by left (worded_line line) (some_left h) go
