-- The number of a writer's answer.
use Rattle.std.specs.Prelude.{ℕ, ⊤, Result, Ok, Err}
use Rattle.wire_writer.specs.declared.WriteError.{WriteError}
use Rattle.wire_writer.specs.declared.WriteError.TheVariants.{EchoTooLong, PartTooSmall}

-- of a refusal: 3 where the echo has over 503 bytes, 7 where the packet does not fit
abbrev pub refusal : WriteError → ℕ
refusal EchoTooLong = 3
refusal PartTooSmall = 7

-- 0 where it was written
abbrev pub number_of : Result ⊤ WriteError → ℕ
number_of (Ok _) = 0
number_of (Err e) = refusal e
