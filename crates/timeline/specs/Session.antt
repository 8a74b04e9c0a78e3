-- The methods of timeline.rs on a session's state, under the Rust's names. Each operation on `f64` rounds once, and differences of times wrap.
use Rattle.std.specs.Prelude.{Bool, false, pos, ◌+ℤ◌, ◌-ℤ◌, Float}
use Rattle.std.specs.Float.{binary64}
use Rattle.std.specs.Float.Ieee.{of_int, to_signed, add, sub, mul, div}
use Rattle.signed.specs.Wrap.{wrap64}
use Rattle.time.specs.declared.HostTime.{HostTime}
use Rattle.time.specs.Convert.{from_beats, to_beats, from_tempo}
use Rattle.timeline.specs.declared.Timeline.{Timeline}
use Rattle.timeline.specs.declared.SessionState.{SessionState}
use Rattle.timeline.specs.Phase.{phase_of}

-- 120 beats per minute, all else 0, stopped
unfoldable pub default_state : SessionState
default_state = record {
  timeline = record { tempo = record { 0 = pos 500_000 }; beat_origin = record { 0 = pos 0 }; time_origin = record { 0 = pos 0 } };
  start_stop = record { is_playing = false; beat = record { 0 = pos 0 }; time = record { 0 = pos 0 } };
}

-- the beats from the line's time origin to a time
unfoldable pub beats_since : Timeline → HostTime → Float
beats_since line time = div binary64 (of_int binary64 (wrap64 (time.0 -ℤ line.time_origin.0))) (of_int binary64 line.tempo.0)

unfoldable pub beat_at_time : SessionState → HostTime → Float
beat_at_time s time = add binary64 (to_beats s.timeline.beat_origin.0) (beats_since s.timeline time)

unfoldable pub phase_at_time : SessionState → HostTime → Float → Float
phase_at_time s time quantum = phase_of (beat_at_time s time) quantum

unfoldable pub time_at_beat : SessionState → Float → HostTime
time_at_beat s beat =
    let dbeats = sub binary64 beat (to_beats s.timeline.beat_origin.0) in
    let dt = to_signed 63 (mul binary64 dbeats (of_int binary64 s.timeline.tempo.0)) in
    record { 0 = wrap64 (s.timeline.time_origin.0 +ℤ dt) }

-- the beat origin that has `beat` at `time`; nothing else changes
unfoldable pub force_beat_at_time : SessionState → HostTime → Float → SessionState
force_beat_at_time s time beat = record {
  timeline = record {
    tempo = s.timeline.tempo;
    beat_origin = record { 0 = from_beats (sub binary64 beat (beats_since s.timeline time)) };
    time_origin = s.timeline.time_origin;
  };
  start_stop = s.start_stop;
}

-- it only forces
unfoldable pub request_beat_at_time : SessionState → HostTime → Float → SessionState
request_beat_at_time s time beat = force_beat_at_time s time beat

-- the new tempo from `at` on, where the beat stays
unfoldable pub set_tempo : SessionState → Float → HostTime → SessionState
set_tempo s bpm at = record {
  timeline = record { tempo = record { 0 = from_tempo bpm }; beat_origin = record { 0 = from_beats (beat_at_time s at) }; time_origin = at };
  start_stop = s.start_stop;
}

unfoldable pub set_is_playing : SessionState → Bool → HostTime → SessionState
set_is_playing s playing at = record {
  timeline = s.timeline;
  start_stop = record { is_playing = playing; beat = record { 0 = from_beats (beat_at_time s at) }; time = at };
}
