-- Calls that change nothing, and what a disabled engine puts out.
-- The definitions; the theorems stand in proofs/Laws/Clerk/Quiet.
use Rattle.std.specs.Prelude.{ℕ, ◌≡◌, true, List, [], ◌∷◌}
use Rattle.time.specs.declared.HostTime.{HostTime}
use Rattle.timeline.specs.declared.SessionState.{SessionState}
use Rattle.model.specs.Engine.{Box, Output, state_changed}
use Rattle.model.specs.Commit.{taken}
use Rattle.model.specs.Calls.{Call, commit, switch}

-- ---- a disabled engine

-- nothing, or a commit's state, or what switching on puts out
pub data Utters (e : Box) (os : List Output) : Call → Type 0 where
  nothing : {c : Call} → os ≡ [] → Utters e os c
  the_state : {s : SessionState} {now : HostTime} {buf_size : ℕ} → os ≡ state_changed (taken e s) ∷ [] → Utters e os (commit s now buf_size)
  switching_on : {now : HostTime} {buf_size : ℕ} → Utters e os (switch true now buf_size)
