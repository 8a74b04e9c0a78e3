-- Theorems: what is printed of a list is read back to it, and what is printed of a file gives the same file.
use Rattle.std.specs.Prelude.{ℕ, suc, ◌+◌, ◌<◌, ◌≤◌, true, false, ◌&&◌, List, [], ◌∷◌, ◌++◌, ◌≡◌, refl, leb, eqb, ℤ, pos, negsuc, nat_abs, length, drop, get_or, Some}
use Rattle.std.proofs.Common.{arith, append_assoc, sym, ap, ap₂, ◌∙◌, le-leb, leb-true, lt-ltb, ne_eqb, SFits}
use Rattle.std.specs.Int.Signed.{le_z}
use Rattle.std.specs.Int.{w64}
use Rattle.signed.specs.Laws.Tests.{both as both_true}
use Rattle.big_endian.specs.Bytes.{bytes}
use Rattle.text.specs.Ascii.{ascii}
use Rattle.text.specs.Digits.{is_digit, all_digits}
use Rattle.text.specs.Lines.{before, lines, pieces}
use Rattle.text.specs.Numerals.{decimal, integer}
use Rattle.text.specs.Laws.Decimals.{length-decimal, places_pos}
use Rattle.text.specs.Laws.Digits.{digit_from, digit_to}
use Rattle.text.specs.Laws.Pieces.{Lacks, lacks_none, lacks_one, before_first, first_ended}
use Rattle.text.specs.Laws.ReadBack.{all_digits_decimal, value_decimal}
use Rattle.midi_file.specs.Layout.{micros, head, file}
use Rattle.midi_file.specs.Reading.{read_file}
use Rattle.midi_file.specs.Refusal.{good_tempo, good_tempos, good_origin, good_origins, refusal}
use Rattle.midi_file.specs.declared.TempoChange.{TempoChange}
use Rattle.midi_file.specs.Laws.Numbers.{Bytes}
use Rattle.midi_file.specs.Laws.Sizes.{Within, one_within}
use Rattle.midi_file.proofs.Laws.Sizes.{file_most, origins_within}
use Rattle.midi_file.specs.Laws.Refusals.{Accepted, accepted}
use Rattle.midi_file.specs.Laws.Theorems.{read_sound}
use Rattle.midi_file.proofs.Laws.Theorems.{written_reads_back}
use Rattle.tempo_text.specs.Answer.{is_size, number, both, pair, all_pairs, line_then, listed, file_of, pair_line, pair_lines, lines_of, answer_to}
use Rattle.tempo_text.specs.Laws.Answering.{answer_file, answer_lines}
use Rattle.tempo_text.specs.Laws.Lengths.{pair_lines_most}
use Rattle.tempo_text.specs.Laws.Words.{with_sign, without_sign}

-- ---- the bytes of a number

-- a minus sign and digits alone
data Numeral : List ℕ → Type 0 where
  no_more : Numeral []
  one : {b : ℕ} {l : List ℕ} → 45 ≤ b → b ≤ 57 → Numeral l → Numeral (b ∷ l)

digits_numeral : (l : List ℕ) → all_digits l ≡ true → Numeral l
unfolding all_digits
digits_numeral [] e = no_more
digits_numeral (b ∷ l) e =
    let f = both_true (is_digit b) (all_digits l) e in
    one {b = b} (omega (arith, digit_from b f.0)) (digit_to b f.0) (digits_numeral l f.1)

integer_numeral : (z : ℤ) → Numeral (integer z)
unfolding integer
integer_numeral (pos n) = digits_numeral (decimal n) (all_digits_decimal n)
integer_numeral (negsuc n) = one {b = 45} (omega arith) (omega arith) (digits_numeral (decimal (suc n)) (all_digits_decimal (suc n)))

-- which no space and no newline is
lacking : {l : List ℕ} (sep : ℕ) → sep < 45 → Numeral l → Lacks sep l
lacking sep h no_more = lacks_none
lacking sep h (one {b} from to r) = lacks_one (ne_eqb b sep (λ e. omega arith)) (lacking sep h r)

-- nor a file's first byte
first_other : {l : List ℕ} → Numeral l → (rest : List ℕ) → 0 < length l → eqb (get_or (l ++ rest) 0 0) 0x4d ≡ false
first_other no_more rest h = absurd (omega arith)
first_other (one {b} from to r) rest h = ne_eqb b 0x4d (λ e. omega arith)

decimal_some : (n : ℕ) → 0 < length (decimal n)
decimal_some n = omega (arith, length-decimal n, places_pos n)

integer_some : (z : ℤ) → 0 < length (integer z)
unfolding integer
integer_some (pos n) = decimal_some n
integer_some (negsuc n) = omega arith

-- ---- a number

decimal_size : (most n : ℕ) → n ≤ most → is_size most (decimal n) ≡ true
unfolding is_size
decimal_size most n h = rw (lt-ltb 0 (length (decimal n)) (decimal_some n), all_digits_decimal n, value_decimal n) (le-leb n most h)

unsigned : (l : List ℕ) → all_digits l ≡ true → get_or l 0 0 ≡ 45 → ⊥
unfolding all_digits
unsigned [] e f = omega arith
unsigned (b ∷ l) e f = omega (arith, digit_from b (both_true (is_digit b) (all_digits l) e).0)

pub number_read_back : (z : ℤ) → SFits w64 z → number (integer z) ≡ Some z
unfolding integer
number_read_back (pos n) f =
    without_sign (decimal n) (unsigned (decimal n) (all_digits_decimal n))
    ∙ rw (decimal_size 9_223_372_036_854_775_807 n (omega (arith, f.sfits)), value_decimal n)
number_read_back (negsuc n) f =
    with_sign (45 ∷ decimal (suc n)) refl
    ∙ rw (decimal_size 9_223_372_036_854_775_808 (suc n) (omega (arith, f.sfits)), value_decimal (suc n))

-- ---- a line

-- a pair of 64-bit numbers, as every pair of the code's
pub record Fits (p : TempoChange) : Type 0 where
  pub tempo : SFits w64 p.tempo.0
  pub origin : SFits w64 p.beat_origin.0

pub data AllFit : List TempoChange → Type 0 where
  none_fit : AllFit []
  one_fits : {p : TempoChange} {ps : List TempoChange} → Fits p → AllFit ps → AllFit (p ∷ ps)

-- a line without its newline
abbrev words : TempoChange → List ℕ
words p = integer p.tempo.0 ++ (32 ∷ integer p.beat_origin.0)

pub pair_read_back : (p : TempoChange) → Fits p → pair (words p) ≡ Some p
unfolding pair
pair_read_back p f =
    let t : List ℕ = integer p.tempo.0 in
    let o : List ℕ = integer p.beat_origin.0 in
    let b : before 32 (t ++ (32 ∷ o)) ≡ t = before_first (lacking 32 (omega arith) (integer_numeral p.tempo.0)) o in
    ap (λ (w : List ℕ). both (number w) (number (drop (suc (length w)) (t ++ (32 ∷ o))))) b
    ∙ ap₂ both (number_read_back p.tempo.0 f.tempo) (ap number (behind t o) ∙ number_read_back p.beat_origin.0 f.origin)
  where
    behind : (t o : List ℕ) → drop (suc (length t)) (t ++ (32 ∷ o)) ≡ o
    behind [] o = refl
    behind (b ∷ t) o = behind t o

lacking_both : {l m : List ℕ} → Lacks 10 l → Lacks 10 m → Lacks 10 (l ++ (32 ∷ m))
lacking_both lacks_none h = lacks_one refl h
lacking_both (lacks_one e g) h = lacks_one e (lacking_both g h)

words_lack : (p : TempoChange) → Lacks 10 (words p)
words_lack p = lacking_both (lacking 10 (omega arith) (integer_numeral p.tempo.0)) (lacking 10 (omega arith) (integer_numeral p.beat_origin.0))

-- ---- all lines

line_is : (p : TempoChange) (rest : List ℕ) → pair_line p ++ rest ≡ words p ++ (10 ∷ rest)
unfolding ascii
line_is p rest = simp append_assoc

-- what is printed of pairs is read back to them
pub lines_read_back : {ps : List TempoChange} → AllFit ps → (n : ℕ) → listed n (lines (pair_lines ps)) ≡ all_pairs ps
unfolding listed pair_lines pieces
lines_read_back none_fit n = refl
lines_read_back (one_fits {p} {ps} f r) n =
    ap (λ (l : List ℕ). listed n (lines l)) (line_is p (pair_lines ps))
    ∙ ap (listed n) (first_ended (words_lack p) (pair_lines ps))
    ∙ ap₂ (line_then n) (pair_read_back p f) (lines_read_back r (n + 1))

lines_no_file : (ps : List TempoChange) → eqb (get_or (pair_lines ps) 0 0) 0x4d ≡ false
unfolding pair_lines
lines_no_file [] = refl
lines_no_file (p ∷ ps) =
    ap (λ (l : List ℕ). eqb (get_or l 0 0) 0x4d) (line_is p (pair_lines ps) ∙ append_assoc (integer p.tempo.0) (32 ∷ integer p.beat_origin.0) (10 ∷ pair_lines ps))
    ∙ first_other (integer_numeral p.tempo.0) _ (integer_some p.tempo.0)

-- ---- the answers

tempo_fits : (z : ℤ) → le_z (pos 1) z && le_z z (pos 16_777_215) ≡ true → SFits w64 z
tempo_fits (pos n) e = record { sfits = omega (arith, leb-true n 16_777_215 (both_true (leb 1 n) (leb n 16_777_215) e).1) }
tempo_fits (negsuc n) e = let z : ◌≡◌ {A = ℕ} 0 1 = cc in absurd (omega arith)

origin_fits : (from : ℕ) (z : ℤ) → le_z (pos from) z ≡ true → nat_abs z ≤ 17_179_869_120_000 → SFits w64 z
origin_fits from (pos n) e h = record { sfits = omega arith }
origin_fits from (negsuc n) e h = let z : ◌≡◌ {A = ℕ} 0 1 = cc in absurd (omega arith)

fits_from : (from : ℕ) (ps : List TempoChange) → good_tempos ps ≡ true → good_origins from ps ≡ true → Within 17_179_869_120_000 ps → AllFit ps
unfolding good_tempos good_origins good_tempo good_origin
fits_from from [] e f w = none_fit
fits_from from (p ∷ ps) e f (one_within h w) =
    let e₀ = both_true (good_tempo p) (good_tempos ps) e in
    let f₀ = both_true (good_origin from p) (good_origins (micros p) ps) f in
    let o : ℤ = p.beat_origin.0 in
    one_fits
    (record { tempo = tempo_fits p.tempo.0 e₀.0; origin = origin_fits from o (both_true (le_z (pos from) o) _ f₀.0).0 h })
    (fits_from (micros p) ps e₀.1 f₀.1 w)

accepted_fit : (ps : List TempoChange) → refusal ps ≡ 0 → AllFit ps
accepted_fit ps e = let a : Accepted ps = accepted ps e in fits_from 0 ps a.tempos a.origins (origins_within ps e)

file_first : (ps : List TempoChange) → eqb (get_or (file ps) 0 0) 0x4d ≡ true
unfolding file head bytes
file_first ps = refl

-- to a list's file its lines
pub file_to_lines : (ps : List TempoChange) → refusal ps ≡ 0 → answer_to (file ps) ≡ pair_lines ps
unfolding lines_of
file_to_lines ps e = answer_file (file ps) (omega (arith, file_most ps e)) (file_first ps) ∙ ap lines_of (written_reads_back ps e)

listed_file : (ps : List TempoChange) → refusal ps ≡ 0 → file_of (all_pairs ps) ≡ file ps
unfolding file_of
listed_file ps e = rw e

-- to its lines its file
pub lines_to_file : (ps : List TempoChange) → refusal ps ≡ 0 → answer_to (pair_lines ps) ≡ file ps
lines_to_file ps e =
    answer_lines (pair_lines ps) (omega (arith, pair_lines_most ps e)) (lines_no_file ps)
    ∙ ap file_of (lines_read_back (accepted_fit ps e) 1)
    ∙ listed_file ps e

-- ---- there and back

-- a file that is accepted comes back byte by byte
pub file_comes_back : {bs : List ℕ} → Bytes bs → (ps : List TempoChange) → read_file bs ≡ Some ps → answer_to (answer_to bs) ≡ bs
file_comes_back b ps e =
    let x = read_sound b ps e in
    ap (λ (l : List ℕ). answer_to (answer_to l)) x.1 ∙ ap answer_to (file_to_lines ps x.0) ∙ lines_to_file ps x.0 ∙ sym x.1

-- lines that are accepted come back as their pairs are printed
pub lines_come_back : (input : List ℕ) (ps : List TempoChange) → length input ≤ 65_536 → eqb (get_or input 0 0) 0x4d ≡ false → listed 1 (lines input) ≡ all_pairs ps → refusal ps ≡ 0 → answer_to (answer_to input) ≡ pair_lines ps
lines_come_back input ps h f l e = ap answer_to (answer_lines input h f ∙ ap file_of l ∙ listed_file ps e) ∙ file_to_lines ps e
