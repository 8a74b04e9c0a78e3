-- A line, and the lines behind it: the tests of a statement as the code makes them, and what becomes of a text.
use Rattle.std.specs.Prelude.{ℕ, min, ◌+◌, ◌-◌, ◌<◌, ◌≤◌, ◌≡◌, refl, Bool, true, false, cond, List, ◌∷◌, ltb, leb, length, take, drop, Option, None, Some, is_some, Result, Ok, Err, ok_or}
use Rattle.std.proofs.Common.{arith, sym, ◌∙◌, le-ltb, lt-ltb, leb-true, leb-false, drop_of_length-le}
use Rattle.std.proofs.Math.Path.{ap}
use Rattle.room_scenario.specs.declared.fault.Fault.{Fault}
use Rattle.room_scenario.specs.declared.fault.Fault.TheVariants.{UnknownStatement, NoSuchBox, BoxThereAlready, TooManyEvents, SecondEnd}
use Rattle.room_scenario.specs.declared.draft.Draft.{Draft}
use Rattle.text.specs.Lines.{lines, before, pieces}
use Rattle.text.specs.Laws.Pieces.{piece_within, pieces_are}
use Rattle.room_scenario.specs.Text.{words, same_word}
use Rattle.room_scenario.specs.Words.{delay_word, box_word, at_word, end_word}
use Rattle.room_scenario.specs.Script.{Script, bad}
use Rattle.room_scenario.specs.Grammar.{Line, faulty, if_new, if_declared, if_first, delay_line, box_line, at_line, end_line, statement, read_on, whole, read_lines}
use Rattle.room_scenario.specs.Fields.{read_then, script}
use Rattle.room_scenario.specs.Inner.Fields.{line_of}

-- ---- the tests of a statement

pub new_box : (o : Option ℕ) (l : Line) → cond (is_some o) (faulty BoxThereAlready) l ≡ if_new o l
new_box (Some n) l = refl
new_box None l = refl

pub known_box : (o : Option ℕ) (go : ℕ → Line) → read_then (ok_or o NoSuchBox) go ≡ if_declared o go
known_box (Some n) go = refl
known_box None go = refl

pub first_end : (o : Option ℕ) (l : Line) → cond (is_some o) (faulty SecondEnd) l ≡ if_first o l
first_end (Some t) l = refl
first_end None l = refl

-- a 65th event is not taken
room_by : (n m : ℕ) (l : Line) (t : Bool) → leb 64 n ≡ t → m ≡ min n 64 → cond t (faulty TooManyEvents) l ≡ cond (ltb m 64) l (faulty TooManyEvents)
room_by n m l true e k =
    let b = leb-true 64 n e in
    sym (ap (λ (b : Bool). cond b l (faulty TooManyEvents)) (le-ltb m 64 (omega arith)))
room_by n m l false e k =
    let b = leb-false 64 n e in
    sym (ap (λ (b : Bool). cond b l (faulty TooManyEvents)) (lt-ltb m 64 (omega arith)))

pub room_left : (n m : ℕ) (l : Line) → m ≡ min n 64 → cond (leb 64 n) (faulty TooManyEvents) l ≡ cond (ltb m 64) l (faulty TooManyEvents)
room_left n m l k = room_by n m l (leb 64 n) refl k

-- the first word says which statement it is
pub begun_with : (s : Script) (w : List ℕ) (ws : List (List ℕ)) {a b c d : Bool} → same_word w delay_word ≡ a → same_word w box_word ≡ b → same_word w at_word ≡ c → same_word w end_word ≡ d
    → statement s (w ∷ ws) ≡ cond a (delay_line s ws) (cond b (box_line s ws) (cond c (at_line s ws) (cond d (end_line s ws) (faulty UnknownStatement))))
unfolding statement
begun_with s w ws e f g h = rw (e, f, g, h)

-- ---- a text

-- the line of a text that begins at `at`
module _ (text : List ℕ) (k at end : ℕ) (s : Script) (h : at < length text) (e : end ≡ at + length (before 10 (drop at text))) where
  abbrev line : List ℕ
  line = take (end - at) (drop at text)

  abbrev behind : List (List ℕ)
  behind = lines (drop (end + 1) text)

  pub line_within : end ≤ length text
  line_within = piece_within 10 text at end e (omega arith)

  read_first : read_lines k s (lines (drop at text)) ≡ read_on k (statement s (words line)) (λ s'. read_lines (k + 1) s' (behind))
  unfolding read_lines
  read_first = ap (read_lines k s) (pieces_are 10 text at end e h)

  module _ (p : Result Draft Fault) (w : line_of p ≡ statement s (words line)) where
    pub stopped : (f : Fault) → p ≡ Err f → bad k f ≡ read_lines k s (lines (drop at text))
    stopped f t =
        ap (λ (r : Result Draft Fault). read_on k (line_of r) (λ s'. read_lines (k + 1) s' (behind))) (sym t)
        ∙ ap (λ (l : Line). read_on k l (λ s'. read_lines (k + 1) s' (behind))) w ∙ sym read_first

    pub went_on : (d : Draft) → p ≡ Ok d → read_lines (k + 1) (script d) (lines (drop (end + 1) text)) ≡ read_lines k s (lines (drop at text))
    went_on d t =
        ap (λ (r : Result Draft Fault). read_on k (line_of r) (λ s'. read_lines (k + 1) s' (behind))) (sym t)
        ∙ ap (λ (l : Line). read_on k l (λ s'. read_lines (k + 1) s' (behind))) w ∙ sym read_first

-- behind the last line
pub ended : (k : ℕ) (s : Script) (text : List ℕ) (at : ℕ) → length text ≤ at → whole k s.end s ≡ read_lines k s (lines (drop at text))
unfolding read_lines pieces
ended k s text at h = ap (λ (l : List ℕ). read_lines k s (lines l)) (sym (drop_of_length-le text h))
