-- The theorems of the code. A call stands as its contract has it: the list, the part before it (old) and after it (p), the number n and the
-- size of `write`; the bytes and the answer r of `read`.
-- What rests on `accepted` stands in proofs/Laws/Code.
use Rattle.std.specs.Prelude.{ℕ, ◌<◌, ◌≤◌, ◌⊎◌, ◌≡◌, List, [], ◌++◌, leb, eqb, length, take, drop, Option, None, Some}
use Rattle.std.proofs.Common.{arith, inl, inr, sym, ap, ap₂, ◌∙◌, le-leb, eqb-true, ne_eqb}
use Rattle.std.proofs.lemmas.Bool.{lt-leb, eqb-false}
use Rattle.std.proofs.Math.Seq.{take-append_seam}
use Rattle.big_endian.specs.Written.{Written, written, as_written}
use Rattle.big_endian.specs.Laws.Puts.{by_bound}
use Rattle.midi_file.specs.declared.TempoChange.{TempoChange}
use Rattle.midi_file.specs.declared.TempoList.{TempoList}
use Rattle.midi_file.specs.Layout.{file}
use Rattle.midi_file.specs.Refusal.{refusal}
use Rattle.midi_file.specs.Reading.{read_file}
use Rattle.midi_file.specs.Answers.{pairs, list_refusal, filed, filed_size, list_of, ReadList, read_answer}
use Rattle.midi_file.specs.Laws.Numbers.{by_test}

-- ---- what `write` answers

-- more than 64 pairs are 8, whatever they are
pub many_refused : (l : TempoList) → 64 < l.count → list_refusal l ≡ 8
unfolding list_refusal
many_refused l h = rw (lt-leb l.count 64 h)

-- a refused list: its number, whatever the room, and every byte of the part as it was
pub code_refuses :
    (l : TempoList) (old p : List ℕ) (n size : ℕ)
    → as_written n p ≡ filed l old → size ≡ filed_size l n
    → ¬ (list_refusal l ≡ 0)
    → (n ≡ list_refusal l) × (p ≡ old) × (size ≡ 0)
unfolding filed filed_size
code_refuses l old p n size e s h =
    let w : as_written n p ≡ as_written (list_refusal l) old = e ∙ rw (ne_eqb (list_refusal l) 0 h) in
    let y : n ≡ list_refusal l = ap (λ (v : Written). v.number) w in
    (y, ap (λ (v : Written). v.part) w, s ∙ rw (y, ne_eqb (list_refusal l) 0 h))

-- no room: 7, and every byte of the part as it was
pub code_short :
    (l : TempoList) (old p : List ℕ) (n size : ℕ)
    → as_written n p ≡ filed l old → size ≡ filed_size l n
    → list_refusal l ≡ 0 → length old < length (file (pairs l))
    → (n ≡ 7) × (p ≡ old) × (size ≡ 0)
unfolding filed filed_size written
code_short l old p n size e s g h =
    let w : as_written n p ≡ as_written 7 old = e ∙ rw (g, lt-leb (length (file (pairs l))) (length old) h) in
    let y : n ≡ 7 = ap (λ (v : Written). v.number) w in
    (y, ap (λ (v : Written). v.part) w, s ∙ rw y)

-- otherwise 0, the file, and the bytes past it as they were
pub code_writes :
    (l : TempoList) (old p : List ℕ) (n size : ℕ)
    → as_written n p ≡ filed l old → size ≡ filed_size l n
    → list_refusal l ≡ 0 → length (file (pairs l)) ≤ length old
    → (n ≡ 0) × (size ≡ length (file (pairs l))) × (p ≡ file (pairs l) ++ drop (length (file (pairs l))) old)
unfolding filed filed_size written
code_writes l old p n size e s g h =
    let f : List ℕ = file (pairs l) in
    let w : as_written n p ≡ as_written 0 (f ++ drop (length f) old) = e ∙ rw (g, le-leb (length f) (length old) h) in
    let y : n ≡ 0 = ap (λ (v : Written). v.number) w in
    (y, s ∙ rw y, ap (λ (v : Written). v.part) w)

-- what a 0 tells
pub record Filed (l : TempoList) (old p : List ℕ) (size : ℕ) : Type 0 where
  pub good : refusal (pairs l) ≡ 0
  pub length_is : size ≡ length (file (pairs l))
  pub bytes : take size p ≡ file (pairs l)
  pub rest : p ≡ file (pairs l) ++ drop (length (file (pairs l))) old

not_8 : (l : TempoList) → list_refusal l ≡ 0 → refusal (pairs l) ≡ 0
unfolding list_refusal
not_8 l e =
    by_test (leb l.count 64)
    (λ t. rw t at e)
    (λ t. absurd (omega (arith, rw t at e)))

pub filed_is :
    (l : TempoList) (old p : List ℕ) (n size : ℕ)
    → as_written n p ≡ filed l old → size ≡ filed_size l n → n ≡ 0
    → Filed l old p size
filed_is l old p n size e s z =
    let f : List ℕ = file (pairs l) in
    by_test (eqb (list_refusal l) 0)
    (λ t. let g : list_refusal l ≡ 0 = eqb-true _ _ t in
    by_bound (length f) (length old)
    (λ h. let (a, k, q) = code_writes l old p n size e s g h in
    record { good = not_8 l g; length_is = k; bytes = ap₂ take k q ∙ take-append_seam f (drop (length f) old); rest = q })
    (λ h. absurd (omega (arith, (code_short l old p n size e s g h).0))))
    (λ t. let h : ¬ (list_refusal l ≡ 0) = eqb-false _ _ t in
    absurd (h (sym (code_refuses l old p n size e s h).0 ∙ z)))

by_answer : (o : Option (List TempoChange)) (r : ReadList) → r ≡ read_answer o → (r.number ≡ 0) ⊎ (r ≡ record { number = 10; list = list_of [] })
unfolding read_answer
by_answer None r e = inr e
by_answer (Some ps) r e = inl (ap (λ (x : ReadList). x.number) e)

-- 0, or 10 with no pairs
pub code_reads_0_or_10 :
    (bs : List ℕ) (r : ReadList)
    → r ≡ read_answer (read_file bs)
    → (r.number ≡ 0) ⊎ (r ≡ record { number = 10; list = list_of [] })
code_reads_0_or_10 bs r e = by_answer (read_file bs) r e
