-- Examples of files by computation: deltas at each width, a file of two pairs, one of none, and what `write` and `read` answer.
use Rattle.std.specs.Prelude.{ℕ, ◌≡◌, refl, List, [], ◌∷◌, ◌++◌, pos, negsuc, length, replicate, Some}
use Rattle.big_endian.specs.Written.{as_written}
use Rattle.midi_file.specs.declared.TempoChange.{TempoChange}
use Rattle.midi_file.specs.Layout.{vlq, file}
use Rattle.midi_file.specs.Refusal.{refusal}
use Rattle.midi_file.specs.Reading.{read_file}
use Rattle.midi_file.specs.Answers.{filed, filed_size, list_of, read_answer}
use Rattle.midi_file.specs.Laws.Open.{everything}
use Rattle.midi_file.specs.Laws.Refusals.{at, farthest}

pub deltas :
    (vlq 0 ≡ 0 ∷ [])
    × (vlq 127 ≡ 0x7f ∷ [])
    × (vlq 128 ≡ 0x81 ∷ 0 ∷ [])
    × (vlq 16_383 ≡ 0xff ∷ 0x7f ∷ [])
    × (vlq 16_384 ≡ 0x81 ∷ 0x80 ∷ 0 ∷ [])
    × (vlq 268_435_455 ≡ 0xff ∷ 0xff ∷ 0xff ∷ 0x7f ∷ [])
unfolding everything
deltas = (refl, refl, refl, refl, refl, refl)

-- the bytes before the events, with a track length below 256
abbrev pub heads : ℕ → List ℕ
heads n = 0x4d ∷ 0x54 ∷ 0x68 ∷ 0x64 ∷ 0 ∷ 0 ∷ 0 ∷ 6 ∷ 0 ∷ 0 ∷ 0 ∷ 1 ∷ 0x03 ∷ 0xe8 ∷ 0x4d ∷ 0x54 ∷ 0x72 ∷ 0x6b ∷ 0 ∷ 0 ∷ 0 ∷ n ∷ []

abbrev pub end : List ℕ
end = 0 ∷ 0xff ∷ 0x2f ∷ 0 ∷ []

abbrev pub two : List TempoChange
two = at (pos 500_000) (pos 0) ∷ at (pos 468_750) (pos 4_000_000) ∷ []

abbrev pub two_events : List ℕ
two_events = 0 ∷ 0xff ∷ 0x51 ∷ 0x03 ∷ 0x07 ∷ 0xa1 ∷ 0x20 ∷ 0x9f ∷ 0x20 ∷ 0xff ∷ 0x51 ∷ 0x03 ∷ 0x07 ∷ 0x27 ∷ 0x0e ∷ []

abbrev pub two_bytes : List ℕ
two_bytes = heads 19 ++ (two_events ++ end)

-- 41 bytes, there and back
pub two_filed :
    (refusal two ≡ 0)
    × (file two ≡ two_bytes)
    × (length (file two) ≡ 41)
    × (read_file two_bytes ≡ Some two)
unfolding everything
two_filed = (refl, refl, refl, refl)

-- no pairs
pub none_filed : (file [] ≡ heads 4 ++ end) × (read_file (heads 4 ++ end) ≡ Some [])
unfolding everything
none_filed = (refl, refl)

-- ---- answers

-- bytes past the file stay
pub two_answered :
    (filed (list_of two) (replicate 43 7) ≡ as_written 0 (two_bytes ++ (7 ∷ 7 ∷ [])))
    × (filed_size (list_of two) 0 ≡ 41)
    × (read_answer (read_file two_bytes) ≡ record { number = 0; list = list_of two })
    × (read_answer (read_file []) ≡ record { number = 10; list = list_of [] })
unfolding everything
two_answered = (refl, refl, refl, refl)

-- 8 and 9 go before 7; 665 bytes are too few for the largest file
abbrev number_into : List TempoChange → ℕ → ℕ
number_into ps room = (filed (list_of ps) (replicate room 0)).number

pub room_last :
    (number_into (at (pos 0) (pos 0) ∷ []) 0 ≡ 8)
    × (number_into (at (pos 1) (negsuc 0) ∷ []) 0 ≡ 9)
    × (number_into [] 25 ≡ 7)
    × (number_into [] 26 ≡ 0)
    × (number_into (farthest 64 0) 665 ≡ 7)
    × (number_into (farthest 64 0) 666 ≡ 0)
unfolding everything farthest
room_last = (refl, refl, refl, refl, refl, refl)
