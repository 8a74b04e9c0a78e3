-- What a writer answers, and what it leaves in the part that it was lent.
use Rattle.std.specs.Prelude.{ℕ, cond, List, ◌++◌, leb, length, drop}

-- a number, and the bytes of the part as the call returns
pub record Written : Type 0 where
  pub number : ℕ
  pub part : List ℕ

-- done, 0: these bytes, then the old ones; where they do not fit, 7 and the old ones
unfoldable pub written : List ℕ → List ℕ → Written
written bs old =
    cond (leb (length bs) (length old))
    (record { number = 0; part = bs ++ drop (length bs) old })
    (record { number = 7; part = old })

-- a writer's number and the part after it, as one value
abbrev pub as_written : ℕ → List ℕ → Written
as_written n p = record { number = n; part = p }
