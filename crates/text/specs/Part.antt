-- A part of a text, as the functions that put it say it.
use Rattle.std.specs.Prelude.{ℕ, ◌≤◌, List, length}
use Rattle.text.specs.Placed.{Laid}

-- `text`, of at most `most` characters: where it fits it stands at place `at` of `l`, and the next place is behind it
pub record Part (at : ℕ) (text : List ℕ) (most : ℕ) (l : List ℕ) (next : ℕ) (l' : List ℕ) : Type 0 where
  pub laid : Laid at text l next l'
  pub short : length text ≤ most
