-- The words that a scenario is written in, as their bytes.
use Rattle.std.specs.Prelude.{ℕ, List, [], ◌∷◌}

-- `delay`, `box`, `at`, `end`
abbrev pub delay_word : List ℕ
delay_word = 100 ∷ 101 ∷ 108 ∷ 97 ∷ 121 ∷ []

abbrev pub box_word : List ℕ
box_word = 98 ∷ 111 ∷ 120 ∷ []

abbrev pub at_word : List ℕ
at_word = 97 ∷ 116 ∷ []

abbrev pub end_word : List ℕ
end_word = 101 ∷ 110 ∷ 100 ∷ []

-- `shift`, `ports`
abbrev pub shift_word : List ℕ
shift_word = 115 ∷ 104 ∷ 105 ∷ 102 ∷ 116 ∷ []

abbrev pub ports_word : List ℕ
ports_word = 112 ∷ 111 ∷ 114 ∷ 116 ∷ 115 ∷ []

-- `on`, `off`, `silent`, `heard`, `tempo`, `preview`
abbrev pub on_word : List ℕ
on_word = 111 ∷ 110 ∷ []

abbrev pub off_word : List ℕ
off_word = 111 ∷ 102 ∷ 102 ∷ []

abbrev pub silent_word : List ℕ
silent_word = 115 ∷ 105 ∷ 108 ∷ 101 ∷ 110 ∷ 116 ∷ []

abbrev pub heard_word : List ℕ
heard_word = 104 ∷ 101 ∷ 97 ∷ 114 ∷ 100 ∷ []

abbrev pub tempo_word : List ℕ
tempo_word = 116 ∷ 101 ∷ 109 ∷ 112 ∷ 111 ∷ []

abbrev pub preview_word : List ℕ
preview_word = 112 ∷ 114 ∷ 101 ∷ 118 ∷ 105 ∷ 101 ∷ 119 ∷ []
