-- What the contracts of the private functions cite, and that of `read` does not: what their values mean, and a line's words as they read them.
use Rattle.std.specs.Prelude.{ℕ, suc, ◌≡◌, cond, ◌&&◌, List, [], ◌∷◌, eqb, leb, take, Result, Ok, Err}
use Rattle.room_scenario.specs.declared.Event.{Event}
use Rattle.room_scenario.specs.declared.fault.Fault.{Fault}
use Rattle.room_scenario.specs.declared.fault.Fault.TheVariants.{NumberMissing, NumberTooLarge, NumberTooSmall, BoxMissing, NotABox}
use Rattle.room_scenario.specs.declared.draft.Draft.{Draft}
use Rattle.room_scenario.specs.Text.{spaced}
use Rattle.room_scenario.specs.Script.{Script}
use Rattle.room_scenario.specs.Grammar.{Line, faulty, number_word_then, letter_word_then}

-- ---- the words of a line

-- how many spaces it begins with
unfoldable pub spaces : List ℕ → ℕ
spaces [] = 0
spaces (byte ∷ rest) = cond (eqb byte 32) (suc (spaces rest)) 0

-- an empty word where there is none
abbrev pub first_word : List (List ℕ) → List ℕ
first_word [] = []
first_word (word ∷ rest) = word

-- the words behind the first
abbrev pub other_words : List (List ℕ) → List (List ℕ)
other_words [] = []
other_words (word ∷ rest) = rest

-- the first word of a line, or an empty one where there is none, and the line behind it
pub record NextWord (line word behind : List ℕ) : Type 0 where
  pub first : word ≡ first_word (spaced line)
  pub rest : spaced behind ≡ other_words (spaced line)

-- ---- what a word says

-- goes on with what was read where there is no fault
abbrev pub read_then : {A : Type 0} → Result A Fault → (A → Line) → Line
read_then (Ok v) go = go v
read_then (Err f) go = faulty f

-- a number within its bounds
abbrev pub bounded : ℕ → ℕ → ℕ → (ℕ → Line) → Line
bounded least most n go = cond (leb n most) (cond (leb least n) (go n) (faulty NumberTooSmall)) (faulty NumberTooLarge)

-- an empty word is none
abbrev pub number_or_missing : ℕ → ℕ → List ℕ → (ℕ → Line) → Line
number_or_missing least most [] go = faulty NumberMissing
number_or_missing least most (byte ∷ rest) go = number_word_then least most (byte ∷ rest) go

-- a letter's byte
abbrev pub letter_byte : ℕ → (ℕ → Line) → Line
letter_byte byte go = cond (leb 65 byte && leb byte 80) (go byte) (faulty NotABox)

-- an empty word is none
abbrev pub letter_or_missing : List ℕ → (ℕ → Line) → Line
letter_or_missing [] go = faulty BoxMissing
letter_or_missing (byte ∷ rest) go = letter_word_then (byte ∷ rest) go

-- ---- what is known so far

-- what the code's value means: array places past a count are free
unfoldable pub script : Draft → Script
script s = record { delay = s.delay; end = s.end; boxes = take s.box_count s.boxes; events = take s.event_count s.events }

-- how many events stand before the first that is later
unfoldable pub no_later : ℕ → List Event → ℕ
no_later time [] = 0
no_later time (e ∷ es) = cond (leb e.time time) (suc (no_later time es)) 0
