-- What a word says as a decimal number.
use Rattle.std.specs.List.{list_all}
use Rattle.std.specs.Prelude.{Bool, ◌&&◌, List, [], ◌∷◌, ℕ, ◌+◌, ◌*◌, ◌-◌, leb}

-- the bytes of 0 to 9
abbrev pub is_digit : ℕ → Bool
is_digit byte = leb 48 byte && leb byte 57

unfoldable pub all_digits : List ℕ → Bool
all_digits word = list_all is_digit word

-- n, with these digits written behind it
unfoldable pub followed : ℕ → List ℕ → ℕ
followed n [] = n
followed n (byte ∷ rest) = followed (n * 10 + (byte - 48)) rest

abbrev pub value : List ℕ → ℕ
value word = followed 0 word
