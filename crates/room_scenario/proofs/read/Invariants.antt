-- What the lines from here on make of what is known is what the whole text makes of nothing.
use Rattle.std.proofs.Common.{◌≡◌, ◌+◌, ◌-◌, ◌≤◌, length, drop}
use Rattle.text.specs.Lines.{lines}
use Rattle.room_scenario.specs.Grammar.{read_lines, read_text}
use Rattle.room_scenario.specs.Fields.{script}
use Rattle.room_scenario.proofs.read.Given as goal

abbrev pub invariant-loop-at : goal.invariant-loop-at
invariant-loop-at l =
    (l.at ≤ length l.text + 1) × (l.line ≤ l.at + 1) × (read_lines l.line (script l.draft) (lines (drop l.at l.text)) ≡ read_text l.text)

abbrev pub decreases-loop-at : goal.decreases-loop-at
decreases-loop-at l = length l.text - l.at
