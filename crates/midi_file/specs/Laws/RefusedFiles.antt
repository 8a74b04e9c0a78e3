-- Files that are refused, by computation: each differs in one thing from one that is read.
use Rattle.std.specs.Prelude.{ℕ, ◌≡◌, refl, List, [], ◌∷◌, ◌++◌, take, drop, None}
use Rattle.midi_file.specs.Layout.{file}
use Rattle.midi_file.specs.Reading.{read_file}
use Rattle.midi_file.specs.Laws.Open.{everything}
use Rattle.midi_file.specs.Laws.Refusals.{farthest}
use Rattle.midi_file.specs.Laws.Examples.{heads, end, two_events, two_bytes}

abbrev refused : List ℕ → Type 0
refused bs = read_file bs ≡ None

-- ---- the whole

pub empty_refused : refused []
unfolding everything
empty_refused = refl

pub cut_refused : refused (take 40 two_bytes)
unfolding everything
cut_refused = refl

pub longer_refused : refused (two_bytes ++ (0 ∷ []))
unfolding everything
longer_refused = refl

-- ---- the header: length, format, track count and division, before the track of the example

abbrev under : ℕ → ℕ → ℕ → ℕ → ℕ → List ℕ
under size format tracks high low =
    0x4d ∷ 0x54 ∷ 0x68 ∷ 0x64 ∷ 0 ∷ 0 ∷ 0 ∷ size ∷ 0 ∷ format ∷ 0 ∷ tracks ∷ high ∷ low ∷ drop 14 two_bytes

pub header_as_written : under 6 0 1 0x03 0xe8 ≡ two_bytes
header_as_written = refl

pub header_refused :
    refused (under 7 0 1 0x03 0xe8)
    × refused (under 6 1 1 0x03 0xe8)
    × refused (under 6 0 2 0x03 0xe8)
    × refused (under 6 0 1 0x03 0xc0)
unfolding everything
header_refused = (refl, refl, refl, refl)

-- a header of eight bytes, with two more behind the division
pub long_header_refused :
    refused (take 7 two_bytes ++ (8 ∷ take 6 (drop 8 two_bytes)) ++ (0 ∷ 0 ∷ drop 14 two_bytes))
unfolding everything
long_header_refused = refl

-- ---- the track's length: one less and one more

pub length-refused : refused (heads 18 ++ (two_events ++ end)) × refused (heads 20 ++ (two_events ++ end))
unfolding everything
length-refused = (refl, refl)

-- ---- the events

pub no_end_refused : refused (heads 15 ++ two_events)
unfolding everything
no_end_refused = refl

-- an end of track with another delta
pub late_end_refused : refused (heads 4 ++ (1 ∷ 0xff ∷ 0x2f ∷ 0 ∷ []))
unfolding everything
late_end_refused = refl

-- a byte, counted by the track's length, behind the end of track
pub counted_byte_refused : refused (heads 20 ++ (two_events ++ (end ++ (0 ∷ []))))
unfolding everything
counted_byte_refused = refl

pub tempo_0_refused : refused (heads 11 ++ (0 ∷ 0xff ∷ 0x51 ∷ 0x03 ∷ 0 ∷ 0 ∷ 0 ∷ end))
unfolding everything
tempo_0_refused = refl

-- a delta of 0 in two bytes, and one of five bytes
pub long_delta_refused :
    refused (heads 12 ++ (0x80 ∷ 0 ∷ 0xff ∷ 0x51 ∷ 0x03 ∷ 0 ∷ 0 ∷ 1 ∷ end))
    × refused (heads 15 ++ (0x81 ∷ 0x80 ∷ 0x80 ∷ 0x80 ∷ 0 ∷ 0xff ∷ 0x51 ∷ 0x03 ∷ 0 ∷ 0 ∷ 1 ∷ end))
unfolding everything
long_delta_refused = (refl, refl)

-- a time signature, FF 58 04
pub other_event_refused : refused (heads 12 ++ (0 ∷ 0xff ∷ 0x58 ∷ 0x04 ∷ 4 ∷ 2 ∷ 24 ∷ 8 ∷ end))
unfolding everything
other_event_refused = refl

-- a second track behind the first
pub second_track_refused : refused (two_bytes ++ (drop 14 two_bytes))
unfolding everything
second_track_refused = refl

-- a 65th pair
pub pair_65_refused : refused (file (farthest 65 0))
unfolding everything farthest
pair_65_refused = refl
