-- When a box's line has a beat, in whole numbers.
use Rattle.std.specs.Prelude.{ℤ, pos, ◌+ℤ◌, ◌-ℤ◌, ◌*ℤ◌}
use Rattle.timeline.specs.declared.Timeline.{Timeline}

-- the room's time at which the line has the beat, in millionths of a microsecond, where the line stands in the host time of a box whose
-- clock shows `shift` microseconds more than the room's, and the beat is in millionths of a beat
unfoldable pub time_of : Timeline → ℤ → ℤ → ℤ
time_of line shift beat =
    (line.time_origin.0 -ℤ shift) *ℤ pos 1000000 +ℤ (beat -ℤ line.beat_origin.0) *ℤ line.tempo.0
