-- What a slice is after a text was put at a place of it, and which place is given as the next.
use Rattle.std.specs.Prelude.{ℕ, ◌+◌, ◌≤◌, cond, List, ◌≡◌, leb, length}
use Rattle.big_endian.specs.Bytes.{put}

-- the place behind `width` places from `at` on, where they lie within the first `len`; otherwise `at`
unfoldable pub behind : ℕ → ℕ → ℕ → ℕ
behind len at width = cond (leb (at + width) len) (at + width) at

-- a text at place `at` of `l`: where it fits it stands there and the next place is behind it; otherwise `l` and the place are as they were
pub record Placed (at : ℕ) (text l : List ℕ) (next : ℕ) (l' : List ℕ) : Type 0 where
  pub bytes : l' ≡ put at text l
  pub place : next ≡ behind (length l) at (length text)

-- the same, said only for a text that fits: a text that is put in several parts
abbrev pub Laid : ℕ → List ℕ → List ℕ → ℕ → List ℕ → Type 0
Laid at text l next l' = at + length text ≤ length l → Placed at text l next l'
