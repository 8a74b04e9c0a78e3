-- What the values of the private functions mean.
use Rattle.std.specs.Prelude.{ℕ, ◌≤◌, cond, List, ◌≡◌, eqb, length, Result, Ok, Err}
use Rattle.midi_file.specs.Answers.{pairs, list_refusal}
use Rattle.midi_file.specs.Layout.{file}
use Rattle.midi_file.specs.declared.TempoList.{TempoList}
use Rattle.tempo_text.specs.declared.lists.BadLine.{BadLine}
use Rattle.tempo_text.specs.Answer.{Listed, bad_line, all_pairs, refused}

-- a bad line's number; or a list of all pairs, of which at most 64 are kept
abbrev pub Holds : Listed → Result TempoList BadLine → Type 0
Holds (bad_line n) (Err b) = b.0 ≡ n
Holds (bad_line n) (Ok l) = ⊥
Holds (all_pairs ps) (Ok l) = (l.count ≡ length ps) × (length ps ≤ 64 → pairs l ≡ ps)
Holds (all_pairs ps) (Err b) = ⊥

-- the file of a list, or the number with which it is refused
unfoldable pub list_text : TempoList → List ℕ
list_text l = cond (eqb (list_refusal l) 0) (file (pairs l)) (refused (list_refusal l))
