-- A row that is copied to another place, in a table of rows of one width.
use Rattle.std.specs.Prelude.{ℕ, ◌+◌, ◌*◌, ◌<◌, ◌≡◌, List, get_or}

module _ {A : Type 0} (d : A) (w : ℕ) where
  -- row `to` is row `from` of before, and the others are as they were; d is what stands past the end
  pub record Moved (l l' : List A) (from to : ℕ) : Type 0 where
    pub there : to < 16 → (k : ℕ) → k < w → get_or l' (to * w + k) d ≡ get_or l (from * w + k) d
    pub others : (m k : ℕ) → (m ≡ to → ⊥) → k < w → get_or l' (m * w + k) d ≡ get_or l (m * w + k) d
