-- Big-endian numbers in lists of bytes. A byte is a number below 256.
use Rattle.std.specs.Prelude.{ℕ, zero, suc, ◌+◌, ◌*◌, ◌/◌, ◌%◌, ◌^◌, cond, List, [], ◌∷◌, ◌++◌, leb, length, take, drop}

-- the w low bytes of n, the highest first
unfoldable pub bytes : ℕ → ℕ → List ℕ
bytes zero n = []
bytes (suc w) n = n / 256 ^ w % 256 ∷ bytes w n

-- the number that bytes spell, the highest first
unfoldable pub number : List ℕ → ℕ
number [] = 0
number (b ∷ bs) = b * 256 ^ length bs + number bs

-- l with bs from place at on, where they fit; otherwise l as it was
unfoldable pub put : ℕ → List ℕ → List ℕ → List ℕ
put at bs l = cond (leb (at + length bs) (length l)) (take at l ++ (bs ++ drop (at + length bs) l)) l

-- the number in the w bytes from place at on, 0 where they do not all lie within l
unfoldable pub number_at : ℕ → ℕ → List ℕ → ℕ
number_at w at l = cond (leb (at + w) (length l)) (number (take w (drop at l))) 0
