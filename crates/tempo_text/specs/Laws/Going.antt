-- The lines of a list, read one after the other: what is known before each line, and at the end.
use Prim.Native.Nat.{ℕ, suc, ◌+◌, ◌-◌, ◌<◌, ◌≤◌}
use Rattle.std.proofs.Common.{add-one, arith, sym, subst, ◌∙◌, length-append, length-set, drop_of_length-le, take-suc-set}
use mathlib.Core.List.{List, [], ◌∷◌, ◌++◌, append_assoc, append-nil}
use Rattle.std.specs.Prelude.{◌≡◌, refl, take, drop, set, Option, None, Some, Result, Ok, Err}
use Rattle.std.proofs.Math.Path.{ap}
use Rattle.std.proofs.Math.ListN.{length}
use Rattle.text.specs.Lines.{pieces, before, lines}
use Rattle.text.specs.Laws.Pieces.{piece_within, pieces_are}
use Rattle.midi_file.specs.Answers.{list_of}
use Rattle.midi_file.specs.declared.TempoChange.{TempoChange}
use Rattle.midi_file.specs.declared.TempoList.{TempoList}
use Rattle.tempo_text.specs.declared.lists.BadLine.{BadLine}
use Rattle.tempo_text.specs.Answer.{pair, Listed, bad_line, all_pairs, line_then, listed}
use Rattle.tempo_text.specs.Values.{Holds}

-- pairs, before those of the lines after them
abbrev ahead : List TempoChange → Listed → Listed
ahead ps (bad_line n) = bad_line n
ahead ps (all_pairs qs) = all_pairs (ps ++ qs)

ahead_none : (x : Listed) → ahead [] x ≡ x
ahead_none (bad_line n) = refl
ahead_none (all_pairs qs) = refl

ahead_one : (ps : List TempoChange) (p : TempoChange) (n : ℕ) (x : Listed) → ahead (ps ++ (p ∷ [])) x ≡ ahead ps (line_then n (Some p) x)
ahead_one ps p n (bad_line m) = refl
ahead_one ps p n (all_pairs qs) = ap all_pairs (append_assoc ps (p ∷ []) qs)

-- the lines before `at` were read to the pairs `done`, of which the list keeps 64
pub record Going (input : List ℕ) (list : TempoList) (at : ℕ) : Type 0 where
  pub done : List TempoChange
  pub places : length list.changes ≡ 64
  pub counted : list.count ≡ length done
  pub kept : length done ≤ 64 → take (length done) list.changes ≡ done
  pub left : ahead done (listed (length done + 1) (lines (drop at input))) ≡ listed 1 (lines input)
  pub few : length done ≤ at
  pub within : at ≤ length input + 1

pub going_first : (input : List ℕ) (list : TempoList) → list ≡ list_of [] → Going input list 0
unfolding list_of
going_first input list e =
    record {
      done = [];
      places = ap (λ (l : TempoList). length l.changes) e;
      counted = ap (λ (l : TempoList). l.count) e;
      kept = λ h. refl;
      left = ahead_none (listed 1 (lines input));
      few = omega arith;
      within = omega arith;
    }

-- after the last line
pub going_end : {input : List ℕ} {list : TempoList} {at : ℕ} → Going input list at → length input ≤ at → Holds (listed 1 (lines input)) (Ok list)
unfolding listed pieces
going_end {input} {list} {at} g h =
    let n : ℕ = length g.done + 1 in
    let e : all_pairs g.done ≡ listed 1 (lines input) =
    ap all_pairs (sym (append-nil g.done))
    ∙ ap (λ (l : List ℕ). ahead g.done (listed n (lines l))) (sym (drop_of_length-le input h))
    ∙ g.left in
    subst (λ (x : Listed). Holds x (Ok list)) e (g.counted, λ k. ap (λ (m : ℕ). take m list.changes) g.counted ∙ g.kept k)

-- the line from `at` to `end`
module _ {input : List ℕ} {list : TempoList} {at : ℕ} (g : Going input list at) (h : at < length input) (end : ℕ) (e : end ≡ at + length (before 10 (drop at input))) where
  abbrev line : List ℕ
  line = take (end - at) (drop at input)

  pub going_within : end ≤ length input
  going_within = piece_within 10 input at end e (omega arith)

  next_line : (o : Option TempoChange) → pair line ≡ o → ahead g.done (line_then (length g.done + 1) o (listed (length g.done + 1 + 1) (lines (drop (end + 1) input)))) ≡ listed 1 (lines input)
  unfolding listed
  next_line o f =
      let n : ℕ = length g.done + 1 in
      ap (λ (q : Option TempoChange). ahead g.done (line_then n q (listed (n + 1) (lines (drop (end + 1) input))))) (sym f)
      ∙ ap (λ (ls : List (List ℕ)). ahead g.done (listed n ls)) (sym (pieces_are 10 input at end e h))
      ∙ g.left

  pub going_bad : pair line ≡ None → Holds (listed 1 (lines input)) (Err (record { 0 = list.count + 1 }))
  going_bad f =
      let r : Result TempoList BadLine = Err (record { 0 = list.count + 1 }) in
      subst (λ (x : Listed). Holds x r) (next_line None f) (ap (λ (m : ℕ). m + 1) g.counted)

  module _ (p : TempoChange) (f : pair line ≡ Some p) (more : TempoList) (m : more ≡ record { changes = set list.changes list.count p; count = list.count + 1 }) where
    abbrev done_now : List TempoChange
    done_now = g.done ++ (p ∷ [])

    one_more : length done_now ≡ length g.done + 1
    one_more = length-append g.done (p ∷ [])

    kept_now : length done_now ≤ 64 → take (length done_now) more.changes ≡ done_now
    kept_now k =
        let n : ℕ = length g.done in
        let b : n < length list.changes = omega (arith, one_more, g.places) in
        ap (λ (l : TempoList). take (length done_now) l.changes) m
        ∙ ap (λ (j : ℕ). take j (set list.changes list.count p)) (one_more ∙ add-one n)
        ∙ ap (λ (j : ℕ). take (suc n) (set list.changes j p)) g.counted
        ∙ take-suc-set list.changes n p b
        ∙ ap (λ (l : List TempoChange). l ++ (p ∷ [])) (g.kept (omega (arith, one_more)))

    pub going_next : Going input more (end + 1)
    going_next =
        let n : ℕ = length g.done + 1 in
        let rest : List (List ℕ) = lines (drop (end + 1) input) in
        record {
          done = done_now;
          places = ap (λ (l : TempoList). length l.changes) m ∙ length-set list.changes list.count p ∙ g.places;
          counted = ap (λ (l : TempoList). l.count) m ∙ ap (λ (j : ℕ). j + 1) g.counted ∙ sym one_more;
          kept = kept_now;
          left =
              ap (λ (j : ℕ). ahead done_now (listed (j + 1) rest)) one_more
              ∙ ahead_one g.done p n (listed (n + 1) rest)
              ∙ next_line (Some p) f;
          few = omega (arith, one_more, g.few);
          within = omega (arith, going_within);
        }
