-- The statements of a scenario (docs/ROOM.md). The words of a line are read from left to right, and the first fault counts: a definition `..-then` reads what
-- its name says and goes on with the words behind it.
use Rattle.std.specs.Prelude.{ℕ, ◌+◌, ◌*◌, ◌&&◌, cond, List, [], ◌∷◌, ltb, leb, length, Option, None, Some}
use Rattle.room_scenario.specs.declared.Action.{Action}
use Rattle.room_scenario.specs.declared.Action.TheVariants.{On, Off, Silent, Heard, Tempo, Preview}
use Rattle.room_scenario.specs.declared.fault.Fault.{Fault}
use Rattle.room_scenario.specs.declared.fault.Fault.TheVariants.{UnknownStatement, NumberMissing, NotANumber, NumberTooLarge, NumberTooSmall, BoxMissing, NotABox, NoSuchBox, BoxThereAlready, UnexpectedWord, TooManyEvents, SecondEnd, EndMissing}
use Rattle.text.specs.Digits.{all_digits, value}
use Rattle.text.specs.Lines.{lines}
use Rattle.room_scenario.specs.Text.{words, same_word}
use Rattle.room_scenario.specs.Words.{delay_word, box_word, at_word, end_word, shift_word, ports_word, on_word, off_word, silent_word, heard_word, tempo_word, preview_word}
use Rattle.room_scenario.specs.Script.{Script, nothing_said, with_delay, with_end, with_box, with_event, number_of_box, Outcome, good, bad}

-- what a line makes of the script: the script after it, or a fault
pub data Line : Type 0 where
  fine : Script → Line
  faulty : Fault → Line

-- ---- the words of a line

-- a number from `least` to `most`, of at most 15 digits
abbrev pub number_word_then : ℕ → ℕ → List ℕ → (ℕ → Line) → Line
number_word_then least most word go =
    cond (all_digits word)
    (cond (leb (length word) 15 && leb (value word) most) (cond (leb least (value word)) (go (value word)) (faulty NumberTooSmall)) (faulty NumberTooLarge))
    (faulty NotANumber)

abbrev pub number_then : ℕ → ℕ → List (List ℕ) → (ℕ → List (List ℕ) → Line) → Line
number_then least most [] go = faulty NumberMissing
number_then least most (word ∷ rest) go = number_word_then least most word (λ n. go n rest)

-- a box's letter, A to P
abbrev pub letter_word_then : List ℕ → (ℕ → Line) → Line
letter_word_then [] go = faulty NotABox
letter_word_then (byte ∷ []) go = cond (leb 65 byte && leb byte 80) (go byte) (faulty NotABox)
letter_word_then (byte ∷ (b ∷ bs)) go = faulty NotABox

abbrev pub letter_then : List (List ℕ) → (ℕ → List (List ℕ) → Line) → Line
letter_then [] go = faulty BoxMissing
letter_then (word ∷ rest) go = letter_word_then word (λ name. go name rest)

-- this word
abbrev pub keyword_then : List ℕ → List (List ℕ) → (List (List ℕ) → Line) → Line
keyword_then keyword [] go = faulty UnknownStatement
keyword_then keyword (word ∷ rest) go = cond (same_word word keyword) (go rest) (faulty UnknownStatement)

-- no word
abbrev pub at_end : List (List ℕ) → Line → Line
at_end [] l = l
at_end (word ∷ rest) l = faulty UnexpectedWord

-- ---- delay N

unfoldable pub delay_line : Script → List (List ℕ) → Line
delay_line s ws = number_then 0 100_000 ws (λ n rest. at_end rest (fine (with_delay n s)))

-- ---- box X shift N, box X shift N ports M

-- 1 where the ports are not said
abbrev pub ports_then : List (List ℕ) → (ℕ → List (List ℕ) → Line) → Line
ports_then [] go = go 1 []
ports_then (word ∷ rest) go = keyword_then ports_word (word ∷ rest) (λ rest'. number_then 1 4 rest' go)

-- a letter that no box has yet
abbrev pub if_new : Option ℕ → Line → Line
if_new None l = l
if_new (Some n) l = faulty BoxThereAlready

unfoldable pub box_line : Script → List (List ℕ) → Line
box_line s ws =
    letter_then ws (λ name rest₁. if_new (number_of_box name s.boxes)
    (keyword_then shift_word rest₁ (λ rest₂. number_then 0 100_000_000_000_000 rest₂ (λ shift rest₃. ports_then rest₃ (λ ports rest₄.
    at_end rest₄ (fine (with_box (record { name = name; shift = shift; ports = ports }) s)))))))

-- ---- at T on X, and its like

-- what happens: where it has a tempo, the beats a minute stand behind the box
pub data Verb : Type 0 where
  plain : Action → Verb
  with_tempo : (ℕ → Action) → Verb

abbrev pub verb_word_then : List ℕ → (Verb → Line) → Line
verb_word_then word go =
    cond (same_word word on_word) (go (plain On))
    (cond (same_word word off_word) (go (plain Off))
    (cond (same_word word silent_word) (go (plain Silent))
    (cond (same_word word heard_word) (go (plain Heard))
    (cond (same_word word tempo_word) (go (with_tempo Tempo))
    (cond (same_word word preview_word) (go (with_tempo Preview))
    (faulty UnknownStatement))))))

abbrev pub verb_then : List (List ℕ) → (Verb → List (List ℕ) → Line) → Line
verb_then [] go = faulty UnknownStatement
verb_then (word ∷ rest) go = verb_word_then word (λ v. go v rest)

abbrev pub action_then : Verb → List (List ℕ) → (Action → List (List ℕ) → Line) → Line
action_then (plain a) ws go = go a ws
action_then (with_tempo a) ws go = number_then 20 999 ws (λ n rest. go (a n) rest)

-- a box that was declared
abbrev pub if_declared : Option ℕ → (ℕ → Line) → Line
if_declared None go = faulty NoSuchBox
if_declared (Some n) go = go n

-- the time is given in milliseconds
unfoldable pub at_line : Script → List (List ℕ) → Line
at_line s ws =
    number_then 0 600_000 ws (λ time rest₁. verb_then rest₁ (λ v rest₂. letter_then rest₂ (λ name rest₃.
    if_declared (number_of_box name s.boxes) (λ n. action_then v rest₃ (λ a rest₄.
    at_end rest₄
    (cond (ltb (length s.events) 64) (fine (with_event (record { time = time * 1000; number = n; action = a }) s)) (faulty TooManyEvents)))))))

-- ---- end T

abbrev pub if_first : Option ℕ → Line → Line
if_first None l = l
if_first (Some t) l = faulty SecondEnd

unfoldable pub end_line : Script → List (List ℕ) → Line
end_line s ws = number_then 0 600_000 ws (λ time rest. at_end rest (if_first s.end (fine (with_end (time * 1000) s))))

-- ---- a line, and the text

unfoldable pub statement : Script → List (List ℕ) → Line
statement s [] = fine s
statement s (word ∷ rest) =
    cond (same_word word delay_word) (delay_line s rest)
    (cond (same_word word box_word) (box_line s rest)
    (cond (same_word word at_word) (at_line s rest)
    (cond (same_word word end_word) (end_line s rest)
    (faulty UnknownStatement))))

-- goes on with the script after a line that is fine; line k is the first bad one otherwise
abbrev pub read_on : ℕ → Line → (Script → Outcome) → Outcome
read_on k (fine s) go = go s
read_on k (faulty f) go = bad k f

-- the whole script, which needs an end
abbrev pub whole : ℕ → Option ℕ → Script → Outcome
whole k None s = bad k EndMissing
whole k (Some t) s = good s.delay t s.boxes s.events

-- what the lines from line k on make of the script
unfoldable pub read_lines : ℕ → Script → List (List ℕ) → Outcome
read_lines k s [] = whole k s.end s
read_lines k s (line ∷ rest) = read_on k (statement s (words line)) (λ s'. read_lines (k + 1) s' rest)

abbrev pub read_text : List ℕ → Outcome
read_text text = read_lines 1 nothing_said (lines text)
