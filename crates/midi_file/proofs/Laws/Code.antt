-- The theorems of the code. A call stands as its contract has it: the list, the part before it (old) and after it (p), the number n and the
-- size of `write`; the bytes and the answer r of `read`.
use Rattle.std.specs.Prelude.{ℕ, ◌+◌, ◌≤◌, ◌↔◌, ◌≡◌, refl, List, ◌++◌, length, take, drop, Option, None, Some}
use Rattle.std.proofs.Common.{arith, sym, ap, ◌∙◌, le-leb}
use Rattle.std.proofs.Math.Seq.{take-append_seam}
use Rattle.big_endian.specs.Written.{as_written}
use Rattle.midi_file.specs.declared.TempoChange.{TempoChange}
use Rattle.midi_file.specs.declared.TempoList.{TempoList}
use Rattle.midi_file.specs.Layout.{file}
use Rattle.midi_file.specs.Refusal.{refusal}
use Rattle.midi_file.specs.Reading.{read_file}
use Rattle.midi_file.specs.Answers.{pairs, list_refusal, filed, filed_size, list_of, ReadList, read_answer}
use Rattle.midi_file.specs.Laws.Numbers.{Bytes}
use Rattle.midi_file.specs.Laws.Refusals.{accepted}
use Rattle.midi_file.specs.Laws.Theorems.{read_sound}
use Rattle.midi_file.proofs.Laws.Theorems.{written_reads_back}
use Rattle.midi_file.specs.Laws.Sizes.{sizes, file_size, Within}
use Rattle.midi_file.proofs.Laws.Sizes.{file_most, origins_within}
use Rattle.midi_file.specs.Laws.Code.{code_writes, Filed, filed_is}

-- the size that is answered: 26 and six more than the delta's for each pair, at most 666
pub code_size :
    (l : TempoList) (old p : List ℕ) (n size : ℕ)
    → as_written n p ≡ filed l old → size ≡ filed_size l n → n ≡ 0
    → (size ≡ 26 + sizes 0 (pairs l)) × (size ≤ 666)
code_size l old p n size e s z =
    let x : Filed l old p size = filed_is l old p n size e s z in
    (x.length_is ∙ file_size (pairs l), omega (arith, x.length_is, file_most (pairs l) x.good))

-- no beat origin that is written passes 64 times the farthest step
pub code_written_within :
    (l : TempoList) (old p : List ℕ) (n size : ℕ)
    → as_written n p ≡ filed l old → size ≡ filed_size l n → n ≡ 0
    → Within 17_179_869_120_000 (pairs l)
code_written_within l old p n size e s z = origins_within (pairs l) (filed_is l old p n size e s z).good

-- ---- what `read` answers

pairs_of : (ps : List TempoChange) → pairs (list_of ps) ≡ ps
unfolding list_of
pairs_of ps = take-append_seam ps _

-- what a 0 tells
answered_list : (o : Option (List TempoChange)) (r : ReadList) → r ≡ read_answer o → r.number ≡ 0 → (ps : List TempoChange) × (o ≡ Some ps) × (r.list ≡ list_of ps)
unfolding read_answer
answered_list None r e z = absurd (omega (arith, ap (λ (x : ReadList). x.number) e))
answered_list (Some ps) r e z = (ps, refl, ap (λ (x : ReadList). x.list) e)

-- theorem 1: a list is answered exactly where it is not refused and the bytes are its file
pub code_reads_exactly_files :
    (bs : List ℕ) (r : ReadList) (ps : List TempoChange)
    → Bytes bs → r ≡ read_answer (read_file bs)
    → r ≡ record { number = 0; list = list_of ps } ↔ (refusal ps ≡ 0) × (bs ≡ file ps)
unfolding read_answer
code_reads_exactly_files bs r ps b e = (
  λ h. let (qs, o, i) = answered_list (read_file bs) r e (ap (λ (x : ReadList). x.number) h) in
      let l : list_of qs ≡ list_of ps = sym i ∙ ap (λ (x : ReadList). x.list) h in
      let q : qs ≡ ps = sym (pairs_of qs) ∙ ap pairs l ∙ pairs_of ps in
      read_sound b ps (o ∙ ap Some q),
  λ h. e ∙ ap read_answer (ap read_file h.1 ∙ written_reads_back ps h.0),
)

-- nor does one that is read
pub code_read_within :
    (bs : List ℕ) (r : ReadList)
    → Bytes bs → r ≡ read_answer (read_file bs) → r.number ≡ 0
    → Within 17_179_869_120_000 (pairs r.list)
code_read_within bs r b e z =
    let (ps, o, i) = answered_list (read_file bs) r e z in
    let q : pairs r.list ≡ ps = ap pairs i ∙ pairs_of ps in
    rw q (origins_within ps (read_sound b ps o).0)

-- ---- there and back

-- what is written reads back to the same pairs, with zeros behind them
pub code_reads_back :
    (l : TempoList) (old p : List ℕ) (n size : ℕ) (r : ReadList)
    → as_written n p ≡ filed l old → size ≡ filed_size l n → n ≡ 0
    → r ≡ read_answer (read_file (take size p))
    → r ≡ record { number = 0; list = list_of (pairs l) }
unfolding read_answer
code_reads_back l old p n size r e s z h =
    let x : Filed l old p size = filed_is l old p n size e s z in
    h ∙ ap read_answer (ap read_file x.bytes ∙ written_reads_back (pairs l) x.good)

counted : (ps : List TempoChange) → length ps ≤ 64 → (list_of ps).count ≤ 64
unfolding list_of
counted ps h = h

-- a list that was read is not refused
read_good : (ps : List TempoChange) → refusal ps ≡ 0 → list_refusal (list_of ps) ≡ 0
unfolding list_refusal
read_good ps e = rw (le-leb (list_of ps).count 64 (counted ps (accepted ps e).few), pairs_of ps) e

-- what is read writes to the same bytes, where they fit
pub code_writes_back :
    (bs old p : List ℕ) (n size : ℕ) (r : ReadList)
    → Bytes bs → r ≡ read_answer (read_file bs) → r.number ≡ 0
    → as_written n p ≡ filed r.list old → size ≡ filed_size r.list n
    → length bs ≤ length old
    → (n ≡ 0) × (size ≡ length bs) × (p ≡ bs ++ drop (length bs) old)
code_writes_back bs old p n size r b h z e s k =
    let (ps, o, i) = answered_list (read_file bs) r h z in
    let x = read_sound b ps o in
    let g : list_refusal r.list ≡ 0 = ap list_refusal i ∙ read_good ps x.0 in
    let f : file (pairs r.list) ≡ bs = ap (λ (l : TempoList). file (pairs l)) i ∙ ap file (pairs_of ps) ∙ sym x.1 in
    let w = code_writes r.list old p n size e s g (omega (arith, ap length f)) in
    (w.0, w.1 ∙ ap length f, w.2 ∙ ap (λ (t : List ℕ). t ++ drop (length t) old) f)

-- lists that were written to the same bytes have the same pairs
pub code_injective :
    (l l' : TempoList) (old old' p p' : List ℕ) (n n' size size' : ℕ)
    → as_written n p ≡ filed l old → size ≡ filed_size l n → n ≡ 0
    → as_written n' p' ≡ filed l' old' → size' ≡ filed_size l' n' → n' ≡ 0
    → take size p ≡ take size' p'
    → pairs l ≡ pairs l'
code_injective l l' old old' p p' n n' size size' e s z e' s' z' h =
    let x : Filed l old p size = filed_is l old p n size e s z in
    let y : Filed l' old' p' size' = filed_is l' old' p' n' size' e' s' z' in
    let f : Some (pairs l) ≡ Some (pairs l') = sym (written_reads_back (pairs l) x.good) ∙ ap read_file (sym x.bytes ∙ h ∙ y.bytes) ∙ written_reads_back (pairs l') y.good in
    cc f
