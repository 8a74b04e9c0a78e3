-- What Link's callbacks for the tempo and for start and stop ask: the app is told of every change of the state.
-- The definitions; the theorems stand in proofs/Laws/Link/Reports.
use Rattle.std.specs.Prelude.{Option, Some, None}
use mathlib.Core.List.{List}
use Rattle.timeline.specs.declared.SessionState.{SessionState}
use Rattle.model.specs.Engine.{Box, Output, send, state_changed, num_peers_changed, set_timer}
use Rattle.model.specs.Calls.{Call}
use Rattle.model.specs.Laws.Calls.Told.{told_over}

abbrev pub state_of : Output → Option SessionState
state_of (send iface to ps) = None
state_of (state_changed s) = Some s
state_of (num_peers_changed k) = None
state_of (set_timer t) = None

-- the state that the calls of a run tell of last, or else the given one
unfoldable pub states_told : SessionState → Box → List Call → SessionState
states_told s e cs = told_over state_of s e cs
