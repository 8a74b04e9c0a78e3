-- The words of a line.
use Rattle.std.specs.Prelude.{ℕ, Bool, true, false, ◌&&◌, List, [], ◌∷◌, eqb}
use Rattle.text.specs.Lines.{pieces, before}

-- what stands before the first `#`
abbrev pub uncommented : List ℕ → List ℕ
uncommented line = before 35 line

unfoldable pub without_empty : List (List ℕ) → List (List ℕ)
without_empty [] = []
without_empty ([] ∷ rest) = without_empty rest
without_empty ((byte ∷ word) ∷ rest) = (byte ∷ word) ∷ without_empty rest

-- words are separated by one or more spaces
unfoldable pub spaced : List ℕ → List (List ℕ)
spaced line = without_empty (pieces 32 line)

abbrev pub words : List ℕ → List (List ℕ)
words line = spaced (uncommented line)

-- whether two words are the same
unfoldable pub same_word : List ℕ → List ℕ → Bool
same_word [] [] = true
same_word [] (b ∷ bs) = false
same_word (a ∷ as') [] = false
same_word (a ∷ as') (b ∷ bs) = eqb a b && same_word as' bs
