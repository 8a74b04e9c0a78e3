-- What the writer of a packet with an echo answers, and what it leaves in the part that it was lent.
use Rattle.std.specs.Prelude.{ℕ, cond, List, leb, length}
use Rattle.big_endian.specs.Written.{Written, written}

-- `written` for the packet that is made of an echo, of which more than 503 bytes are refused first, with 3
unfoldable pub written_echo : (List ℕ → List ℕ) → List ℕ → List ℕ → Written
written_echo packet echo old = cond (leb (length echo) 503) (written (packet echo) old) (record { number = 3; part = old })
