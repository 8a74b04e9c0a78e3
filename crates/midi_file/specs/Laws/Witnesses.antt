-- That the premises of the theorems can be met: by the largest file, and by a spelling that is not the shortest.
-- What rests on `accepted` stands in proofs/Laws/Witnesses.
use Rattle.std.specs.Prelude.{◌≡◌, refl, [], ◌∷◌, pos, length, drop}
use Rattle.std.proofs.Common.{lit<, lit≤}
use Rattle.midi_file.specs.Layout.{file}
use Rattle.midi_file.specs.Reading.{spelled, quantity_size}
use Rattle.midi_file.specs.Laws.Open.{everything}
use Rattle.midi_file.specs.Laws.Refusals.{at, farthest}
use Rattle.midi_file.specs.Laws.Shortest.{Spelling, last, more}

-- the largest file: the bound of its size and that of its last beat origin are met
pub largest_size : length (file (farthest 64 0)) ≡ 666
unfolding everything farthest
largest_size = refl

pub largest_last : drop 63 (farthest 64 0) ≡ at (pos 16_777_215) (pos 17_179_869_120_000) ∷ []
unfolding farthest
largest_last = refl

-- 0 in two bytes spells 0, and is no quantity that a file may have
pub long_zero : Spelling (0x80 ∷ 0 ∷ [])
long_zero = more (lit≤ tt) (lit< tt) (last (lit< tt))

pub long_zero_is : (spelled (0x80 ∷ 0 ∷ []) ≡ 0) × (quantity_size (0x80 ∷ 0 ∷ []) ≡ 0)
unfolding everything
long_zero_is = (refl, refl)
