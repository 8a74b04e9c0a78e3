-- The lines of a text, and other pieces between separators.
use Rattle.std.specs.Prelude.{ℕ, cond, List, [], ◌∷◌, eqb}

-- a byte in front of the first piece
abbrev pub in_front : ℕ → List (List ℕ) → List (List ℕ)
in_front byte [] = (byte ∷ []) ∷ []
in_front byte (piece ∷ pieces) = (byte ∷ piece) ∷ pieces

-- what stands between the separators; behind a last separator there is no piece
unfoldable pub pieces : ℕ → List ℕ → List (List ℕ)
pieces separator [] = []
pieces separator (byte ∷ rest) = cond (eqb byte separator) ([] ∷ pieces separator rest) (in_front byte (pieces separator rest))

-- a line ends with a newline, which the last may lack
abbrev pub lines : List ℕ → List (List ℕ)
lines text = pieces 10 text

-- what stands before the first such byte
unfoldable pub before : ℕ → List ℕ → List ℕ
before separator [] = []
before separator (byte ∷ rest) = cond (eqb byte separator) [] (byte ∷ before separator rest)
