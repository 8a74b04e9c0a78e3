-- A quoted text as the codes of its characters.
use Rattle.std.specs.Prelude.{ℕ, List, [], ◌∷◌, ◌≡◌, refl}
use Prim.Native.Char.{code}
use Prim.Native.String.{String, [] as no_text, ◌∷◌ as ◌before◌}

unfoldable pub ascii : String → List ℕ
ascii no_text = []
ascii (c before s) = code c ∷ ascii s

-- it computes
newline : ascii "a\n" ≡ 97 ∷ 10 ∷ []
unfolding ascii
newline = refl
