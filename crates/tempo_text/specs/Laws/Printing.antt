-- The lines of a list of pairs, one after the other.
use Rattle.std.specs.Prelude.{ℕ, ◌+◌, ◌<◌, List, [], ◌∷◌, ◌++◌, ◌≡◌, refl, length, take, get_or}
use Rattle.std.proofs.Common.{add-one, append_assoc, append-nil, sym, ap, ◌∙◌, take-suc}
use Rattle.big_endian.specs.Laws.Puts.{put_empty}
use Rattle.text.specs.Placed.{Laid}
use Rattle.text.specs.Laws.Placing.{behind_within}
use Rattle.midi_file.specs.Answers.{no_change}
use Rattle.midi_file.specs.declared.TempoChange.{TempoChange}
use Rattle.tempo_text.specs.Answer.{pair_line, pair_lines}

side_by_side : (ps qs : List TempoChange) → pair_lines (ps ++ qs) ≡ pair_lines ps ++ pair_lines qs
unfolding pair_lines
side_by_side [] qs = refl
side_by_side (p ∷ ps) qs = ap (λ (l : List ℕ). pair_line p ++ l) (side_by_side ps qs) ∙ sym (append_assoc (pair_line p) (pair_lines ps) (pair_lines qs))

pub one_line_more : (ps : List TempoChange) (i : ℕ) → i < length ps → pair_lines (take i ps) ++ pair_line (get_or ps i no_change) ≡ pair_lines (take (i + 1) ps)
unfolding pair_lines
one_line_more ps i h =
    let p : TempoChange = get_or ps i no_change in
    ap (λ (l : List ℕ). pair_lines (take i ps) ++ l) (sym (append-nil (pair_line p)))
    ∙ sym (side_by_side (take i ps) (p ∷ []))
    ∙ ap pair_lines (sym (take-suc ps i no_change h) ∙ ap (λ (k : ℕ). take k ps) (sym (add-one i)))

-- no lines
pub none_laid : (l : List ℕ) → Laid 0 (pair_lines []) l 0 l
unfolding pair_lines
none_laid l h = record { bytes = sym (put_empty 0 l); place = sym (behind_within (length l) 0 0 h) }
