-- What becomes of a committed state's line and start-stop state (commit_app_state of engine.rs).
use Rattle.std.specs.Prelude.{cond, ℤ, pos, ◌*ℤ◌}
use Rattle.std.specs.Int.Signed.{le_z, quot_z}
use Rattle.signed.specs.Wrap.{wrap64}
use Rattle.timeline.specs.declared.Timeline.{Timeline}
use Rattle.timeline.specs.declared.StartStopState.{StartStopState}
use Rattle.timeline.specs.declared.SessionState.{SessionState}
use Rattle.timeline.specs.Same.{same_timeline, same_start_stop}
use Rattle.model.specs.Sums.{add64, sub64, plus}
use Rattle.lists.specs.Lists.{best_from}
use Rattle.model.specs.Peers.{timelines_in, start_stops_in, origin_of, moment_of}
use Rattle.model.specs.Engine.{Box, start_stop_to_ghost}

-- ---- the line

-- the largest beat origin known in session, our own among them
unfoldable pub max_beat_origin : Box → ℤ
max_beat_origin e = (best_from origin_of e.state.timeline (timelines_in e.session_id e.peers)).beat_origin.0

-- the line with its beat origin moved, and its time origin moved by as many beats' worth of time: cut toward zero from the exact product, low 64 bits kept
unfoldable pub move_to : ℤ → Timeline → Timeline
move_to new_origin l =
    let delta = sub64 new_origin l.beat_origin.0 in
    record {
      tempo = l.tempo;
      beat_origin = record { 0 = new_origin };
      time_origin = plus l.time_origin (wrap64 (quot_z (delta *ℤ l.tempo.0) (pos 1_000_000)));
    }

-- one whose beat origin is not above the largest known is moved to that and 1,000,000
unfoldable pub above : ℤ → Timeline → Timeline
above known l = cond (le_z l.beat_origin.0 known) (move_to (add64 known (pos 1_000_000)) l) l

-- ---- the start-stop state

-- the latest time known in session, in shared time, our own among them
unfoldable pub max_start_stop_time : Box → ℤ
max_start_stop_time e = (best_from moment_of (start_stop_to_ghost e.session_offset e.state.start_stop) (start_stops_in e.session_id e.peers)).time.0

-- one whose time is not above that becomes that and 1
unfoldable pub later_than : ℤ → ℤ → StartStopState → StartStopState
later_than offset known s =
    cond (le_z (add64 s.time.0 offset) known)
    (record { is_playing = s.is_playing; beat = s.beat; time = record { 0 = sub64 (add64 known (pos 1)) offset } })
    s

-- ---- both

-- what the box takes for a committed state: a part that is as it was stays
unfoldable pub taken : Box → SessionState → SessionState
taken e s = record {
  timeline = cond (same_timeline s.timeline e.state.timeline) s.timeline (above (max_beat_origin e) s.timeline);
  start_stop = cond (same_start_stop s.start_stop e.state.start_stop) s.start_stop (later_than e.session_offset (max_start_stop_time e) s.start_stop);
}
