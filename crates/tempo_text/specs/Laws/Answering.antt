-- What the code finds and puts is the answer.
use Prim.Native.Nat.{ℕ, ◌+◌, ◌<◌, ◌≤◌}
use Rattle.std.proofs.Common.{zero-add, arith, ap, ap₂, ◌∙◌}
use Rattle.std.specs.Prelude.{true, false, cond, ◌≡◌, refl, eqb, get_or, Option, None, Some, Ok, Err}
use mathlib.Core.List.{List, [], ◌∷◌}
use Rattle.std.proofs.Math.Path.{sym, subst}
use borrow.Author.Tests.{le-leb, lt-leb, eqb-true, eqb-false}
use Rattle.std.proofs.Math.ListN.{length}
use Rattle.std.proofs.Math.Seq.{take-append_seam}
use Rattle.big_endian.specs.Written.{as_written}
use Rattle.big_endian.specs.Laws.Puts.{by_bound, put_front}
use Rattle.text.specs.Ascii.{ascii}
use Rattle.text.specs.Lines.{lines}
use Rattle.text.specs.Placed.{Laid}
use Rattle.text.specs.Laws.Placing.{behind_within}
use Rattle.midi_file.specs.Answers.{refusal_number, pairs, list_refusal, filed, filed_size, list_of, ReadList, as_read, read_answer}
use Rattle.midi_file.specs.Layout.{file}
use Rattle.midi_file.specs.Reading.{read_file}
use Rattle.midi_file.specs.Refusal.{refusal}
use Rattle.midi_file.specs.declared.TempoChange.{TempoChange}
use Rattle.midi_file.specs.declared.TempoList.{TempoList}
use Rattle.midi_file.specs.declared.Refusal.{Refusal}
use Rattle.midi_file.specs.declared.Refusal.TheVariants.{PartTooSmall, BadTempo, BadBeatOrigin, NotSuchAFile}
use Rattle.midi_file.specs.Laws.Numbers.{by_test}
use Rattle.midi_file.specs.Laws.Code.{many_refused, code_refuses, code_writes}
use Rattle.tempo_text.specs.declared.lists.BadLine.{BadLine}
use Rattle.tempo_text.specs.Answer.{Listed, bad_line, all_pairs, numbered, refused, file_of, pair_lines, lines_of, answer_to, listed}
use Rattle.tempo_text.specs.Values.{Holds, list_text}

-- ---- lines

pub holds_bad : (x : Listed) (b : BadLine) → Holds x (Err b) → file_of x ≡ numbered (ascii "bad line ") b.0
unfolding file_of
holds_bad (bad_line n) b h = ap (numbered (ascii "bad line ")) (sym h)
holds_bad (all_pairs ps) b h = absurd h

-- a list's file, by the number with which it is refused
abbrev by_number : ℕ → List TempoChange → List ℕ
by_number n ps = cond (eqb n 0) (file ps) (refused n)

many : (ps : List TempoChange) → 64 < length ps → refusal ps ≡ 8
unfolding refusal
many ps h = rw (lt-leb (length ps) 64 h)

few_listed : (l : TempoList) (n : ℕ) → l.count ≡ n → n ≤ 64 → list_refusal l ≡ refusal (pairs l)
unfolding list_refusal
few_listed l n e h = rw (le-leb l.count 64 (omega arith))

pub holds_all : (x : Listed) (l : TempoList) → Holds x (Ok l) → file_of x ≡ list_text l
unfolding file_of list_text
holds_all (bad_line n) l h = absurd h
holds_all (all_pairs ps) l h =
    by_bound (length ps) 64
    (λ k. let e : pairs l ≡ ps = h.1 k in ap₂ by_number (sym (few_listed l (length ps) h.0 k ∙ ap refusal e)) (sym e))
    (λ k. ap (λ (n : ℕ). by_number n ps) (many ps k) ∙ ap (λ (n : ℕ). by_number n (pairs l)) (sym (many_refused l (omega (arith, h.0)))))

-- no refusal has the number 0
pub not_done : (e : Refusal) → ¬ (refusal_number e ≡ 0)
not_done PartTooSmall z = omega arith
not_done BadTempo z = omega arith
not_done BadBeatOrigin z = omega arith
not_done NotSuchAFile z = omega arith

-- ---- a list, as `write` answers it

module _ (l : TempoList) (old p : List ℕ) (n size : ℕ) (e : as_written n p ≡ filed l old) (s : size ≡ filed_size l n) where
  -- the file is there
  pub file_laid : n ≡ 0 → Laid 0 (list_text l) old size p
  unfolding list_text
  file_laid z h =
      let f : List ℕ = file (pairs l) in
      by_test (eqb (list_refusal l) 0)
      (λ t. let k : 0 + length f ≤ length old = rw t at h in
      let w = code_writes l old p n size e s (eqb-true (list_refusal l) 0 t) (omega arith) in
      rw t (record { bytes = w.2 ∙ sym (put_front f old (omega arith)); place = w.1 ∙ sym (zero-add (length f)) ∙ sym (behind_within (length old) 0 (length f) k) }))
      (λ t. let g = eqb-false (list_refusal l) 0 t in absurd (g (sym (code_refuses l old p n size e s g).0 ∙ z)))

  -- or a number, where there is no file that fits
  pub refused_laid : (n ≡ 0 → ⊥) → {r : ℕ} {q : List ℕ} → Laid 0 (refused n) p r q → Laid 0 (list_text l) old r q
  unfolding list_text
  refused_laid z {r} {q} placed h =
      by_test (eqb (list_refusal l) 0)
      (λ t. let k : 0 + length (file (pairs l)) ≤ length old = rw t at h in
      absurd (z (code_writes l old p n size e s (eqb-true (list_refusal l) 0 t) (omega arith)).0))
      (λ t. let c = code_refuses l old p n size e s (eqb-false (list_refusal l) 0 t) in
      let k : 0 + length (refused (list_refusal l)) ≤ length old = rw t at h in
      let m : Laid 0 (refused (list_refusal l)) old r q = subst (λ (x : List ℕ). Laid 0 (refused (list_refusal l)) x r q) c.1 (subst (λ (x : ℕ). Laid 0 (refused x) p r q) c.0 placed) in
      rw t (m k))

-- ---- a file, as `read` answers it

pub read_refused : (o : Option (List TempoChange)) (e : Refusal) → as_read (Err e) ≡ read_answer o → lines_of o ≡ refused (refusal_number e)
unfolding lines_of read_answer
read_refused None e h = ap refused (sym (ap (λ (x : ReadList). x.number) h))
read_refused (Some ps) e h = absurd (not_done e (ap (λ (x : ReadList). x.number) h))

-- pairs that were read
pub record Pairs (o : Option (List TempoChange)) (l : TempoList) : Type 0 where
  pub all : List TempoChange
  pub are : o ≡ Some all
  pub held : pairs l ≡ all
  pub counted : l.count ≡ length all

pub read_pairs : (o : Option (List TempoChange)) (l : TempoList) → as_read (Ok l) ≡ read_answer o → Pairs o l
unfolding read_answer list_of
read_pairs None l e = absurd (omega (arith, ap (λ (x : ReadList). x.number) e))
read_pairs (Some ps) l e =
    record { all = ps; are = refl; held = ap (λ (x : ReadList). pairs x.list) e ∙ take-append_seam ps _; counted = ap (λ (x : ReadList). x.list.count) e }

pub lines_are : (o : Option (List TempoChange)) (ps : List TempoChange) → o ≡ Some ps → lines_of o ≡ pair_lines ps
unfolding lines_of
lines_are o ps e = ap lines_of e

-- ---- by the length and the first byte

module _ (input : List ℕ) where
  pub answer_long : 65_536 < length input → answer_to input ≡ ascii "input too long\n"
  unfolding answer_to
  answer_long h = rw (lt-leb (length input) 65_536 h)

  pub answer_file : length input ≤ 65_536 → eqb (get_or input 0 0) 0x4d ≡ true → answer_to input ≡ lines_of (read_file input)
  unfolding answer_to
  answer_file h e = rw (le-leb (length input) 65_536 h, e)

  pub answer_lines : length input ≤ 65_536 → eqb (get_or input 0 0) 0x4d ≡ false → answer_to input ≡ file_of (listed 1 (lines input))
  unfolding answer_to
  answer_lines h e = rw (le-leb (length input) 65_536 h, e)

-- an empty input has no first byte
pub empty_lines : (input : List ℕ) → length input ≤ 0 → eqb (get_or input 0 0) 0x4d ≡ false
empty_lines [] h = refl
empty_lines (b ∷ input) h = absurd (omega arith)
