-- Answers to given inputs: the definitions compute.
use Rattle.std.specs.Prelude.{ℕ, zero, suc, List, [], ◌∷◌, ◌++◌, ◌≡◌, refl, pos, negsuc, length, replicate, None, Some}
use Rattle.text.specs.Ascii.{ascii}
use Rattle.text.specs.Digits.{all_digits, followed}
use Rattle.text.specs.Lines.{pieces, before}
use Rattle.text.specs.Numerals.{digits, places, places_within, decimal, integer}
use Rattle.midi_file.specs.Laws.Open as midi_file
use Rattle.tempo_text.specs.Answer.{is_size, number, pair, listed, numbered, refused, file_of, pair_lines, lines_of, answer_to}

-- opens every definition, so that a closed statement computes
unfoldable everything : ℕ
unfolding ascii all_digits followed pieces before digits places places_within decimal integer midi_file.everything is_size number pair listed numbered refused file_of pair_lines lines_of answer_to
everything = 0

-- ---- a list there and back

-- the header, and the head of a track of n bytes
abbrev heads : ℕ → List ℕ
heads n = 0x4d ∷ 0x54 ∷ 0x68 ∷ 0x64 ∷ 0 ∷ 0 ∷ 0 ∷ 6 ∷ 0 ∷ 0 ∷ 0 ∷ 1 ∷ 0x03 ∷ 0xe8 ∷ 0x4d ∷ 0x54 ∷ 0x72 ∷ 0x6b ∷ 0 ∷ 0 ∷ 0 ∷ n ∷ []

abbrev two_file : List ℕ
two_file = heads 19 ++ (0 ∷ 0xff ∷ 0x51 ∷ 0x03 ∷ 0x07 ∷ 0xa1 ∷ 0x20 ∷ 0x9f ∷ 0x20 ∷ 0xff ∷ 0x51 ∷ 0x03 ∷ 0x07 ∷ 0x27 ∷ 0x0e ∷ 0 ∷ 0xff ∷ 0x2f ∷ 0 ∷ [])

abbrev two_lines : List ℕ
two_lines = ascii "500000 0\n468750 4000000\n"

pub two_to_file : answer_to two_lines ≡ two_file
unfolding everything
two_to_file = refl

pub two_to_lines : answer_to two_file ≡ two_lines
unfolding everything
two_to_lines = refl

-- the last line may lack its newline
pub newline_missing : answer_to (ascii "500000 0\n468750 4000000") ≡ two_file
unfolding everything
newline_missing = refl

-- no lines are the empty list
abbrev none_file : List ℕ
none_file = heads 4 ++ (0 ∷ 0xff ∷ 0x2f ∷ 0 ∷ [])

pub none_to_file : (answer_to [] ≡ none_file) × (length none_file ≡ 26)
unfolding everything
none_to_file = (refl, refl)

pub none_to_lines : answer_to none_file ≡ []
unfolding everything
none_to_lines = refl

-- ---- bad lines

pub bad_lines :
    (answer_to (ascii "500000 0\nx\ny\n") ≡ ascii "bad line 2\n")
    × (answer_to (ascii "\n") ≡ ascii "bad line 1\n")
    × (answer_to (ascii "500000 0\n\n468750 4000000\n") ≡ ascii "bad line 2\n")
    × (answer_to (ascii "500000 0 \n") ≡ ascii "bad line 1\n")
    × (answer_to (ascii " 500000 0\n") ≡ ascii "bad line 1\n")
    × (answer_to (ascii "500000  0\n") ≡ ascii "bad line 1\n")
    × (answer_to (ascii "500000\n") ≡ ascii "bad line 1\n")
    × (answer_to (ascii "500000 9223372036854775808\n") ≡ ascii "bad line 1\n")
unfolding everything
bad_lines = (refl, refl, refl, refl, refl, refl, refl, refl)

-- a bad line counts before any refusal
pub bad_line_first : answer_to (ascii "0 0\n1 -1\n1\n") ≡ ascii "bad line 3\n"
unfolding everything
bad_line_first = refl

-- ---- refusals

-- all tempos are tested before any beat origin
pub refused_8 : (answer_to (ascii "0 0\n") ≡ ascii "refused 8\n") × (answer_to (ascii "500000 -1\n0 0\n") ≡ ascii "refused 8\n")
unfolding everything
refused_8 = (refl, refl)

pub refused_9 : (answer_to (ascii "500000 -1\n") ≡ ascii "refused 9\n") × (answer_to (ascii "500000 1000\n500000 0\n") ≡ ascii "refused 9\n")
unfolding everything
refused_9 = (refl, refl)

pub refused_10 : (answer_to (ascii "M") ≡ ascii "refused 10\n") × (answer_to (ascii "M 0\n") ≡ ascii "refused 10\n")
unfolding everything
refused_10 = (refl, refl)

-- lines `1 0`
unfoldable pub lines_of_ones : ℕ → List ℕ
lines_of_ones zero = []
lines_of_ones (suc n) = ascii "1 0\n" ++ lines_of_ones n

pub lines_65 : answer_to (lines_of_ones 65) ≡ ascii "refused 8\n"
unfolding everything lines_of_ones
lines_65 = refl

-- 64 are not refused: seven bytes a pair
pub lines_64 : length (answer_to (lines_of_ones 64)) ≡ 474
unfolding everything lines_of_ones
lines_64 = refl

-- ---- numbers

pub numbers :
    (number (ascii "9223372036854775807") ≡ Some (pos 9223372036854775807))
    × (number (ascii "9223372036854775808") ≡ None)
    × (number (ascii "-9223372036854775808") ≡ Some (negsuc 9223372036854775807))
    × (number (ascii "-9223372036854775809") ≡ None)
    × (number (ascii "007") ≡ Some (pos 7))
    × (number (ascii "-0") ≡ Some (pos 0))
    × (number (ascii "0") ≡ Some (pos 0))
unfolding everything
numbers = (refl, refl, refl, refl, refl, refl, refl)

pub no_numbers :
    (number (ascii "-") ≡ None)
    × (number [] ≡ None)
    × (number (ascii "+5") ≡ None)
    × (number (ascii "--5") ≡ None)
    × (number (ascii "5-") ≡ None)
    × (number (ascii "0x5") ≡ None)
unfolding everything
no_numbers = (refl, refl, refl, refl, refl, refl)

-- ---- the length

pub too_long : answer_to (replicate 65_537 0x4d) ≡ ascii "input too long\n"
unfolding everything
too_long = refl
