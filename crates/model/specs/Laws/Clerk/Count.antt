-- The count of the session's neighbours: it is right after every call, and it is the one that the outputs told of last.
-- The definitions; the theorems stand in proofs/Laws/Clerk/Count.
use Rattle.std.specs.Prelude.{ℕ, List, Option, Some, None}
use Rattle.model.specs.Engine.{Box, Output, send, state_changed, num_peers_changed, set_timer}
use Rattle.model.specs.Calls.{Call}
use Rattle.model.specs.Laws.Calls.Told.{last_told, told_over}

abbrev pub count_of : Output → Option ℕ
count_of (send iface to ps) = None
count_of (state_changed s) = None
count_of (num_peers_changed k) = Some k
count_of (set_timer t) = None

-- the count that a list of outputs tells of last, or else the given one
unfoldable pub counts_told : ℕ → List Output → ℕ
counts_told n os = last_told count_of n os

-- over the calls of a run
unfoldable pub told : ℕ → Box → List Call → ℕ
told n e cs = told_over count_of n e cs
