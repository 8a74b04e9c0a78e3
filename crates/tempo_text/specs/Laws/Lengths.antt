-- No answer is longer than 1,536 bytes.
use Rattle.std.specs.Prelude.{ℕ, ◌+◌, ◌*◌, ◌^◌, ◌<◌, ◌≤◌, true, ◌&&◌, List, [], ◌∷◌, ◌++◌, ◌≡◌, leb, eqb, ℤ, pos, negsuc, nat_abs, length, Some}
use Rattle.std.proofs.Common.{arith, leb-true, eqb-true, length-append}
use Rattle.std.specs.Int.Signed.{le_z}
use Rattle.signed.specs.Laws.Tests.{both}
use Rattle.text.specs.Ascii.{ascii}
use Rattle.text.specs.Numerals.{decimal, integer}
use Rattle.text.specs.Laws.Decimals.{length-decimal, places_most}
use Rattle.text.specs.Laws.ReadBack.{decimal_at_most_20}
use Rattle.midi_file.specs.Answers.{pairs, list_refusal}
use Rattle.midi_file.specs.Layout.{micros}
use Rattle.midi_file.specs.Reading.{read_file}
use Rattle.midi_file.specs.Refusal.{good_tempo, good_tempos, good_origin, good_origins, refusal}
use Rattle.midi_file.specs.declared.TempoChange.{TempoChange}
use Rattle.midi_file.specs.declared.TempoList.{TempoList}
use Rattle.midi_file.specs.Laws.Numbers.{Bytes, by_test}
use Rattle.midi_file.specs.Laws.Sizes.{Within, one_within}
use Rattle.midi_file.proofs.Laws.Sizes.{file_most, origins_within}
use Rattle.midi_file.specs.Laws.Refusals.{Accepted, accepted}
use Rattle.midi_file.specs.Laws.Theorems.{read_sound}
use Rattle.tempo_text.specs.Answer.{numbered, refused, pair_line, pair_lines}
use Rattle.tempo_text.specs.Values.{list_text}

-- a number of 64 bits after words
pub numbered_most : (words : List ℕ) (n : ℕ) → n < 2 ^ 64 → length (numbered words n) ≤ length words + 21
unfolding numbered ascii
numbered_most words n h =
    omega (arith, length-append (words ++ decimal n) (10 ∷ []), length-append words (decimal n), decimal_at_most_20 n h)

pub refused_most : (n : ℕ) → n < 2 ^ 64 → length (refused n) ≤ 29
unfolding refused ascii
refused_most n h = numbered_most (ascii "refused ") n h

-- ---- the file of a list

number_small : (ps : List TempoChange) → refusal ps ≤ 9
unfolding refusal
number_small ps = by_test (leb (length ps) 64 && good_tempos ps) (λ t. by_test (good_origins 0 ps) (λ u. rw (t, u) (omega arith)) (λ u. rw (t, u) (omega arith))) (λ t. rw t (omega arith))

listed_small : (l : TempoList) → list_refusal l ≤ 9
unfolding list_refusal
listed_small l = by_test (leb l.count 64) (λ t. rw t (number_small (pairs l))) (λ t. rw t (omega arith))

accepted_list : (l : TempoList) → list_refusal l ≡ 0 → refusal (pairs l) ≡ 0
unfolding list_refusal
accepted_list l e = by_test (leb l.count 64) (λ t. rw t at e) (λ t. absurd (omega (arith, rw t at e)))

pub list_short : (l : TempoList) → length (list_text l) ≤ 666
unfolding list_text
list_short l =
    by_test (eqb (list_refusal l) 0)
    (λ t. rw t (file_most (pairs l) (accepted_list l (eqb-true (list_refusal l) 0 t))))
    (λ t. rw t (omega (arith, refused_most (list_refusal l) (omega (arith, listed_small l)))))

-- ---- the lines of a file

tempo_short : (z : ℤ) → le_z (pos 1) z && le_z z (pos 16_777_215) ≡ true → length (integer z) ≤ 8
unfolding integer
tempo_short (pos n) e =
    let h : n ≤ 16_777_215 = leb-true n 16_777_215 (both (leb 1 n) (leb n 16_777_215) e).1 in
    omega (arith, length-decimal n, places_most 8 n (omega arith) (omega arith))
tempo_short (negsuc n) e = let z : ◌≡◌ {A = ℕ} 0 1 = cc in absurd (omega arith)

origin_short : (before : ℕ) (z : ℤ) → le_z (pos before) z ≡ true → nat_abs z ≤ 17_179_869_120_000 → length (integer z) ≤ 14
unfolding integer
origin_short before (pos n) e h = omega (arith, length-decimal n, places_most 14 n (omega arith) (omega arith))
origin_short before (negsuc n) e h = let z : ◌≡◌ {A = ℕ} 0 1 = cc in absurd (omega arith)

pair_short : (before : ℕ) (p : TempoChange) → good_tempo p ≡ true → good_origin before p ≡ true → micros p ≤ 17_179_869_120_000 → length (pair_line p) ≤ 24
unfolding good_tempo good_origin ascii
pair_short before p e f h =
    let t : List ℕ = integer p.tempo.0 in
    let o : List ℕ = integer p.beat_origin.0 in
    omega (arith, length-append ((t ++ (32 ∷ [])) ++ o) (10 ∷ []), length-append (t ++ (32 ∷ [])) o, length-append t (32 ∷ []), tempo_short p.tempo.0 e, origin_short before p.beat_origin.0 (both (le_z (pos before) p.beat_origin.0) _ f).0 h)

pairs_short : (before : ℕ) (ps : List TempoChange) → good_tempos ps ≡ true → good_origins before ps ≡ true → Within 17_179_869_120_000 ps → length (pair_lines ps) ≤ 24 * length ps
unfolding good_tempos good_origins pair_lines
pairs_short before [] e f w = omega arith
pairs_short before (p ∷ ps) e f (one_within h w) =
    let e₀ = both (good_tempo p) (good_tempos ps) e in
    let f₀ = both (good_origin before p) (good_origins (micros p) ps) f in
    omega (arith, length-append (pair_line p) (pair_lines ps), pair_short before p e₀.0 f₀.0 h, pairs_short (micros p) ps e₀.1 f₀.1 w)

-- a line has at most 24 characters, and a list that is not refused at most 64 lines
pub pair_lines_most : (ps : List TempoChange) → refusal ps ≡ 0 → length (pair_lines ps) ≤ 1536
pair_lines_most ps e =
    let a : Accepted ps = accepted ps e in
    omega (arith, a.few, pairs_short 0 ps a.tempos a.origins (origins_within ps e))

-- those of a file
pub file_few : {bs : List ℕ} → Bytes bs → (ps : List TempoChange) → read_file bs ≡ Some ps → length ps ≤ 64
file_few b ps e = (accepted ps (read_sound b ps e).0).few

pub file_lines_most : {bs : List ℕ} → Bytes bs → (ps : List TempoChange) → read_file bs ≡ Some ps → length (pair_lines ps) ≤ 1536
file_lines_most b ps e = pair_lines_most ps (read_sound b ps e).0
