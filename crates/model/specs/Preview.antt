-- What a commit would report, asked without making it (order 2).
use Rattle.std.specs.Prelude.{ℕ, cond, List, [], ◌∷◌, ℤ, Option, Some, None, unwrap_or}
use Rattle.time.specs.declared.HostTime.{HostTime}
use Rattle.timeline.specs.declared.SessionState.{SessionState}
use Rattle.model.specs.Sums.{sub64}
use Rattle.model.specs.Engine.{Box, Output, send, state_changed, num_peers_changed, set_timer}
use Rattle.model.specs.Calls.{timely, commit_app_state, outputs_of}

-- the state that outputs report first, if they report one
unfoldable pub first_report : List Output → Option SessionState
first_report [] = None
first_report (send iface to packet ∷ os) = first_report os
first_report (state_changed s ∷ os) = Some s
first_report (num_peers_changed n ∷ os) = first_report os
first_report (set_timer t ∷ os) = first_report os

-- the state that a commit of s would report first, the held one where it reports none
unfoldable pub previewed : Box → SessionState → HostTime → SessionState
previewed e s now = unwrap_or (first_report (outputs_of (commit_app_state e s now))) e.state

-- the micro-beats that the beat origin would be moved by: that of the shown state less that of the asked one
abbrev pub moved_by : SessionState → SessionState → ℤ
moved_by asked shown = sub64 shown.timeline.beat_origin.0 asked.timeline.beat_origin.0

-- turned down with a number, or the state and the move
pub data Preview : Type 0 where
  refused : ℕ → Preview
  given : SessionState → ℤ → Preview

-- refusal 1 is the only one: there is no answer buffer
unfoldable pub preview : Box → SessionState → HostTime → Preview
preview e s now = cond (timely now) (given (previewed e s now) (moved_by s (previewed e s now))) (refused 1)
