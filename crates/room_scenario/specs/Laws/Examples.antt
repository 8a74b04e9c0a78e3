-- Worked examples of docs/ROOM.md: statements that are good, faults of its table, and whole texts.
use Rattle.std.specs.Prelude.{ℕ, ◌≡◌, refl, List, [], ◌∷◌, ◌++◌}
use Rattle.room_scenario.specs.declared.Event.{Event}
use Rattle.room_scenario.specs.declared.Action.TheVariants.{On, Tempo, Preview}
use Rattle.room_scenario.specs.declared.fault.Fault.TheVariants.{UnknownStatement, NumberMissing, NotANumber, NumberTooLarge, NumberTooSmall, BoxMissing, NotABox, NoSuchBox, BoxThereAlready, UnexpectedWord, SecondEnd, EndMissing}
use Rattle.text.specs.Digits.{all_digits, followed}
use Rattle.text.specs.Lines.{pieces, before}
use Rattle.room_scenario.specs.Text.{without_empty, spaced, words, same_word}
use Rattle.room_scenario.specs.Words.{delay_word, box_word, at_word, end_word, shift_word, on_word, tempo_word, preview_word}
use Rattle.room_scenario.specs.Script.{Script, nothing_said, in_order, number_from, with_delay, with_box, with_event, good, bad}
use Rattle.room_scenario.specs.Grammar.{fine, faulty, delay_line, box_line, at_line, end_line, statement, read_lines, read_text}

-- opens every definition, so that a closed statement computes
unfoldable everything : ℕ
unfolding all_digits followed pieces before without_empty spaced same_word nothing_said in_order number_from delay_line box_line at_line end_line statement read_lines
everything = 0

-- ---- words

-- `A`, `B`, `Q`
abbrev box_a : List ℕ
box_a = 65 ∷ []

abbrev box_b : List ℕ
box_b = 66 ∷ []

abbrev box_q : List ℕ
box_q = 81 ∷ []

-- `5`, `19`, `90`, `100000`, `100001`
abbrev five : List ℕ
five = 53 ∷ []

abbrev nineteen : List ℕ
nineteen = 49 ∷ 57 ∷ []

abbrev ninety : List ℕ
ninety = 57 ∷ 48 ∷ []

abbrev most_delay : List ℕ
most_delay = 49 ∷ 48 ∷ 48 ∷ 48 ∷ 48 ∷ 48 ∷ []

abbrev over_delay : List ℕ
over_delay = 49 ∷ 48 ∷ 48 ∷ 48 ∷ 48 ∷ 49 ∷ []

abbrev space : List ℕ
space = 32 ∷ []

abbrev newline : List ℕ
newline = 10 ∷ []

-- `#`
abbrev comment : List ℕ
comment = 35 ∷ []

-- `  on A # 5` has two words
pub two_words : words (space ++ space ++ on_word ++ space ++ box_a ++ space ++ comment ++ space ++ five) ≡ on_word ∷ box_a ∷ []
unfolding everything
two_words = refl

-- ---- statements

-- after `box A shift 5`: one port
abbrev with_a : Script
with_a = with_box (record { name = 65; shift = 5; ports = 1 }) nothing_said

-- `delay 100000`, and `delay 100001`, `delay`, `delay A`, `delay 5 5`
pub delays :
    (statement nothing_said (delay_word ∷ most_delay ∷ []) ≡ fine (with_delay 100_000 nothing_said))
    × (statement nothing_said (delay_word ∷ over_delay ∷ []) ≡ faulty NumberTooLarge)
    × (statement nothing_said (delay_word ∷ []) ≡ faulty NumberMissing)
    × (statement nothing_said (delay_word ∷ box_a ∷ []) ≡ faulty NotANumber)
    × (statement nothing_said (delay_word ∷ five ∷ five ∷ []) ≡ faulty UnexpectedWord)
unfolding everything
delays = (refl, refl, refl, refl, refl)

-- `box A shift 5`, and the same again, `box Q shift 5`, `box A`
pub boxes :
    (statement nothing_said (box_word ∷ box_a ∷ shift_word ∷ five ∷ []) ≡ fine with_a)
    × (statement with_a (box_word ∷ box_a ∷ shift_word ∷ five ∷ []) ≡ faulty BoxThereAlready)
    × (statement nothing_said (box_word ∷ box_q ∷ shift_word ∷ five ∷ []) ≡ faulty NotABox)
    × (statement nothing_said (box_word ∷ box_a ∷ []) ≡ faulty UnknownStatement)
unfolding everything
boxes = (refl, refl, refl, refl)

-- `at 5 tempo A 90` is at 5000 microseconds; and `at 5 tempo A 19`, `at 5 on B`, `at 5 on`
pub events :
    (statement with_a (at_word ∷ five ∷ tempo_word ∷ box_a ∷ ninety ∷ []) ≡ fine (with_event (record { time = 5000; number = 0; action = Tempo 90 }) with_a))
    × (statement with_a (at_word ∷ five ∷ tempo_word ∷ box_a ∷ nineteen ∷ []) ≡ faulty NumberTooSmall)
    × (statement with_a (at_word ∷ five ∷ on_word ∷ box_b ∷ []) ≡ faulty NoSuchBox)
    × (statement with_a (at_word ∷ five ∷ on_word ∷ []) ≡ faulty BoxMissing)
unfolding everything
events = (refl, refl, refl, refl)

-- `at 5 preview A 90`, `at 5 preview A 19`, `at 5 preview A`, `at 5 preview A 90 5`
pub previews :
    (statement with_a (at_word ∷ five ∷ preview_word ∷ box_a ∷ ninety ∷ []) ≡ fine (with_event (record { time = 5000; number = 0; action = Preview 90 }) with_a))
    × (statement with_a (at_word ∷ five ∷ preview_word ∷ box_a ∷ nineteen ∷ []) ≡ faulty NumberTooSmall)
    × (statement with_a (at_word ∷ five ∷ preview_word ∷ box_a ∷ []) ≡ faulty NumberMissing)
    × (statement with_a (at_word ∷ five ∷ preview_word ∷ box_a ∷ ninety ∷ five ∷ []) ≡ faulty UnexpectedWord)
unfolding everything
previews = (refl, refl, refl, refl)

-- events of one time stay in the order of their lines, and a later line's may come first
abbrev event_at : ℕ → ℕ → Event
event_at time number = record { time = time; number = number; action = On }

pub ordered : in_order (event_at 5 3) (event_at 4 0 ∷ event_at 5 1 ∷ event_at 6 2 ∷ []) ≡ event_at 4 0 ∷ event_at 5 1 ∷ event_at 5 3 ∷ event_at 6 2 ∷ []
unfolding everything
ordered = refl

-- ---- texts

-- `end 5`
abbrev end_5 : List ℕ
end_5 = end_word ++ space ++ five

-- the last line needs no newline
pub ends : (read_text end_5 ≡ good 0 5000 [] []) × (read_text (end_5 ++ newline) ≡ good 0 5000 [] [])
unfolding everything
ends = (refl, refl)

-- no line, one empty line, and two ends
pub bad_ends : (read_text [] ≡ bad 1 EndMissing) × (read_text newline ≡ bad 2 EndMissing) × (read_text (end_5 ++ newline ++ end_5) ≡ bad 2 SecondEnd)
unfolding everything
bad_ends = (refl, refl, refl)
