-- The sizes that the program's contracts cite.
use Rattle.std.specs.Prelude.{ℕ, ◌+◌, ◌≤◌}
use Rattle.replay.specs.declared.sizes.Size.{Size}
use Rattle.replay.specs.declared.sizes.Size.TheVariants.{Whole, Cut, Unknown}

-- the largest room of a record
abbrev pub most_room : ℕ
most_room = 8192

-- the most bytes that one answer has: a number, a length, a whole room, and whether the rest of it is untouched
abbrev pub most_answer : ℕ
most_answer = 1 + 2 + most_room + 1

-- where a record is whole, its fields lie within the bytes at hand
abbrev pub Within : ℕ → Size → Type 0
Within hand (Whole size) = size ≤ hand
Within hand Cut = Unit {0}
Within hand Unknown = Unit {0}
