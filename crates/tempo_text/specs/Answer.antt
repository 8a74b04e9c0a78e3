-- What `tempolist` answers to its input: the file of a tempo list that is given in lines, and the lines of one that is given as a file.
-- `ascii` gives the codes of a quoted text.
use Rattle.std.specs.Prelude.{ℕ, suc, ◌+◌, Bool, ◌&&◌, cond, List, [], ◌∷◌, ◌++◌, eqb, ltb, leb, ℤ, pos, neg_ℤ, length, drop, get_or, Option, None, Some}
use Prim.Native.Char.{code}
use Rattle.text.specs.Ascii.{ascii}
use Rattle.text.specs.Digits.{all_digits, value}
use Rattle.text.specs.Lines.{before, lines}
use Rattle.text.specs.Numerals.{decimal, integer}
use Rattle.midi_file.specs.Layout.{file}
use Rattle.midi_file.specs.Reading.{read_file}
use Rattle.midi_file.specs.Refusal.{refusal}
use Rattle.midi_file.specs.declared.TempoChange.{TempoChange}

-- ---- a line

-- whether a word is one or more digits, zeros in front among them, that say no more than `most`
unfoldable pub is_size : ℕ → List ℕ → Bool
is_size most word = (ltb 0 (length word) && all_digits word) && leb (value word) most

-- a minus sign or none, and digits: a number from −9,223,372,036,854,775,808 to 9,223,372,036,854,775,807
unfoldable pub number : List ℕ → Option ℤ
number word =
    cond (eqb (get_or word 0 0) (code "-"))
    (cond (is_size 9_223_372_036_854_775_808 (drop 1 word)) (Some (neg_ℤ (pos (value (drop 1 word))))) None)
    (cond (is_size 9_223_372_036_854_775_807 word) (Some (pos (value word))) None)

-- a pair, where both numbers are there
abbrev pub both : Option ℤ → Option ℤ → Option TempoChange
both None origin = None
both (Some tempo) None = None
both (Some tempo) (Some origin) = Some (record { tempo = record { 0 = tempo }; beat_origin = record { 0 = origin } })

-- the tempo stands before the first space, the beat origin after it
unfoldable pub pair : List ℕ → Option TempoChange
pair line = both (number (before (code " ") line)) (number (drop (suc (length (before (code " ") line))) line))

-- ---- all lines

-- the pairs of all lines, or the number of the first line that is no pair
pub data Listed : Type 0 where
  bad_line : ℕ → Listed
  all_pairs : List TempoChange → Listed

-- line n, and what the lines after it give
abbrev pub line_then : ℕ → Option TempoChange → Listed → Listed
line_then n None rest = bad_line n
line_then n (Some p) (bad_line m) = bad_line m
line_then n (Some p) (all_pairs ps) = all_pairs (p ∷ ps)

-- the first of these lines is line n
unfoldable pub listed : ℕ → List (List ℕ) → Listed
listed n [] = all_pairs []
listed n (line ∷ rest) = line_then n (pair line) (listed (n + 1) rest)

-- ---- the answers

-- a line of words that ends with a number
unfoldable pub numbered : List ℕ → ℕ → List ℕ
numbered words n = words ++ decimal n ++ ascii "\n"

unfoldable pub refused : ℕ → List ℕ
refused number = numbered (ascii "refused ") number

-- to lines: the file of their pairs
unfoldable pub file_of : Listed → List ℕ
file_of (bad_line n) = numbered (ascii "bad line ") n
file_of (all_pairs ps) = cond (eqb (refusal ps) 0) (file ps) (refused (refusal ps))

-- `TEMPO BEAT`
abbrev pub pair_line : TempoChange → List ℕ
pair_line p = integer p.tempo.0 ++ ascii " " ++ integer p.beat_origin.0 ++ ascii "\n"

unfoldable pub pair_lines : List TempoChange → List ℕ
pair_lines [] = []
pair_lines (p ∷ ps) = pair_line p ++ pair_lines ps

-- to a file: a line for each of its pairs
unfoldable pub lines_of : Option (List TempoChange) → List ℕ
lines_of None = refused 10
lines_of (Some ps) = pair_lines ps

-- a file begins with 4D
unfoldable pub answer_to : List ℕ → List ℕ
answer_to input =
    cond (leb (length input) 65_536)
    (cond (eqb (get_or input 0 0) 0x4d) (lines_of (read_file input)) (file_of (listed 1 (lines input))))
    (ascii "input too long\n")
