-- The Rust's tests `==` of lines, start-stop states and states.
use Rattle.std.specs.Prelude.{Bool, ◌&&◌}
use Rattle.std.specs.Bool.{beq}
use Rattle.signed.specs.Equal.{eq_z}
use Rattle.time.specs.Same.{same_time}
use Rattle.timeline.specs.declared.Timeline.{Timeline}
use Rattle.timeline.specs.declared.StartStopState.{StartStopState}
use Rattle.timeline.specs.declared.SessionState.{SessionState}

unfoldable pub same_timeline : Timeline → Timeline → Bool
same_timeline a b = eq_z a.tempo.0 b.tempo.0 && eq_z a.beat_origin.0 b.beat_origin.0 && same_time a.time_origin b.time_origin

unfoldable pub same_start_stop : StartStopState → StartStopState → Bool
same_start_stop a b = beq a.is_playing b.is_playing && eq_z a.beat.0 b.beat.0 && same_time a.time b.time

unfoldable pub same_state : SessionState → SessionState → Bool
same_state a b = same_timeline a.timeline b.timeline && same_start_stop a.start_stop b.start_stop
