-- What the derived `==` of lines, start-stop states and states says: the tests of `specs/Same`.
use Rattle.std.proofs.Common.{◌≡◌, ◌&&◌, ap₂}
use Rattle.std.proofs.Math.Bool.{and_assoc}
use Rattle.time.proofs.Comparisons.{equal_is}
use Rattle.timeline.specs.Same.{same_timeline, same_start_stop, same_state}
use Rattle.timeline.specs.declared.Timeline.{Timeline}
use Rattle.timeline.specs.declared.StartStopState.{StartStopState}
use Rattle.timeline.specs.declared.SessionState.{SessionState}
use Rattle.timeline.specs.contracts.TimelinePartialEq.TheImpl as line
use Rattle.timeline.specs.contracts.StartStopStatePartialEq.TheImpl as start_stop
use Rattle.timeline.specs.contracts.SessionStatePartialEq.TheImpl as state

pub timeline_is : (a b : Timeline) → line.eq-value.it a b ≡ same_timeline a b
unfolding same_timeline
timeline_is a b = simp (equal_is, and_assoc)

pub start_stop_is : (a b : StartStopState) → start_stop.eq-value.it a b ≡ same_start_stop a b
unfolding same_start_stop
start_stop_is a b = simp (equal_is, and_assoc)

pub state_is : (a b : SessionState) → state.eq-value.it a b ≡ same_state a b
unfolding same_state
state_is a b = ap₂ ◌&&◌ (timeline_is a.timeline b.timeline) (start_stop_is a.start_stop b.start_stop)
