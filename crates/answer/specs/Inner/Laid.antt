-- Outputs laid into the answer buffer one after the other: what the private writers leave, and the room that they need.
use Rattle.std.specs.Prelude.{ℕ, ◌+◌, ◌*◌, ◌≤◌, ◌≡◌, List, [], ◌∷◌, length}
use Rattle.big_endian.specs.Bytes.{bytes, put}
use Rattle.model.specs.Engine.{Output}
use Rattle.model.specs.Answer.{kind, content, contents}
use Rattle.answer.specs.declared.cursor.Cursor.{Cursor}

-- the buffer with the next output's kind and length
unfoldable pub labelled : Cursor → ℕ → ℕ → List ℕ → List ℕ
labelled c kind size buf = put (4 + c.total + 2 * c.index) (bytes 2 size) (put (4 + c.index) (bytes 1 kind) buf)

-- the cursor past an output with so many bytes of content
unfoldable pub passed : Cursor → ℕ → Cursor
passed c size = record { total = c.total; index = c.index + 1; at = c.at + size }

unfoldable pub lay : Cursor → Output → List ℕ → List ℕ
lay c o buf = put c.at (content o) (labelled c (kind o) (length (content o)) buf)

unfoldable pub after : Cursor → Output → Cursor
after c o = passed c (length (content o))

unfoldable pub lay_all : Cursor → List Output → List ℕ → List ℕ
lay_all c [] buf = buf
lay_all c (o ∷ os) buf = lay_all (after c o) os (lay c o buf)

unfoldable pub after_all : Cursor → List Output → Cursor
after_all c [] = c
after_all c (o ∷ os) = after_all (after c o) os

-- the labels end before the contents, and the contents within the buffer
pub record Room (c : Cursor) (os : List Output) (buf : List ℕ) : Type 0 where
  pub labels : 4 + c.total + 2 * (c.index + length os) ≤ c.at
  pub within : c.at + length (contents os) ≤ length buf

-- a writer's cursor and buffer after it wrote these outputs
pub record Laid (c : Cursor) (os : List Output) (buf : List ℕ) (next : Cursor) (new : List ℕ) : Type 0 where
  pub cursor : next ≡ after_all c os
  pub buffer : new ≡ lay_all c os buf
