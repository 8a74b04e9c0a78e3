-- The layout in the 16- and 32-bit numbers that the code writes and reads.
use Rattle.std.specs.Prelude.{ℕ, ◌+◌, ◌^◌, ◌<◌, ◌≡◌, refl, List, ◌∷◌, ◌++◌}
use Rattle.std.proofs.Common.{arith, ap}
use Rattle.big_endian.specs.Bytes.{bytes}
use Rattle.midi_file.specs.Layout.{vlq, event, end_of_track, head}
use Rattle.midi_file.specs.Laws.Numbers.{pair}

-- the length 03 and the 24 bits behind it are one number
pub event_fields : (d t : ℕ) → t < 2 ^ 24 → event d t ≡ vlq d ++ (bytes 2 0xff51 ++ bytes 4 (0x0300_0000 + t))
unfolding event bytes
event_fields d t h = ap (λ (l : List ℕ). vlq d ++ (0xff ∷ 0x51 ∷ l)) (pair (omega arith) (pair (omega arith) (pair (omega arith) (pair (omega arith) refl))))

pub end_fields : end_of_track ≡ bytes 4 0x00ff_2f00
unfolding end_of_track bytes
end_fields = refl

-- format and track count are one number
pub head_fields : (n : ℕ) → head n ≡ bytes 4 0x4d54_6864 ++ (bytes 4 6 ++ (bytes 4 0x0000_0001 ++ (bytes 2 1000 ++ (bytes 4 0x4d54_726b ++ bytes 4 n))))
unfolding head bytes
head_fields n = refl
