-- Where the methods of a session's state part from Link's documents, run on the Rust and stated of the definitions: `tests/examples` writes this file.
use Rattle.std.specs.Prelude.{◌≡◌, refl, true, false, pos, negsuc}
use Rattle.std.specs.Float.{nan, fin, binary64}
use Rattle.std.specs.Float.Ieee.{rem}
use Rattle.timeline.specs.Session.{default_state, beat_at_time, phase_at_time, time_at_beat, force_beat_at_time, request_beat_at_time, set_tempo}
use Rattle.timeline.specs.Laws.Closed.{at, decimal, both, everything}

-- The beat at the time of a beat is to be that beat. The time is cut to a whole microsecond, toward 0: at 120 beats a minute beat 0.000001 has the time 0,
-- whose beat is 0, and beat 1/3 the time 166,666, whose beat is 0.333332.
pub beat_of_its_time :
    (time_at_beat default_state (decimal (pos 1) 6) ≡ (at (pos 0)))
    × (beat_at_time default_state (time_at_beat default_state (decimal (pos 1) 6)) ≡ (decimal (pos 0) 0))
    × (time_at_beat default_state (decimal (pos 3333333333333333) 16) ≡ (at (pos 166666)))
    × (beat_at_time default_state (time_at_beat default_state (decimal (pos 3333333333333333) 16)) ≡ (decimal (pos 333332) 6))
unfolding everything
beat_of_its_time = (refl, both (fin false 0 (pos 0)) refl refl, refl, both (fin false 6004775483962649 (negsuc 53)) refl refl)

-- The phase of a beat from 0 on is to be its remainder by the quantum. A quantum is added before the remainder is taken, and that sum rounds: a microsecond
-- after the origin, at 120 beats a minute, the beat is 0.000002 and so is its remainder by 4, but the phase is 0.000002000000000279556.
pub phase_beside_remainder :
    (rem binary64 (beat_at_time default_state (at (pos 1))) (decimal (pos 4) 0) ≡ (decimal (pos 2) 6))
    × (phase_at_time default_state (at (pos 1)) (decimal (pos 4) 0) ≡ (decimal (pos 2000000000279556) 21))
unfolding everything
phase_beside_remainder = (both (fin false 4722366482869645 (negsuc 70)) refl refl, both (fin false 1125899907 (negsuc 48)) refl refl)

-- The phase is to be from 0 to below the quantum. Where the beat is more than 2^53 quanta below 0, it can be negative: beat -200,000,000,000,000,000, at one
-- microsecond a beat, has the phase -10 in 11, and beat -1, at 120 beats a minute, that of about -10^-18 in 1.1 * 10^-16. Where the quanta in the beat are more
-- than the largest number, it is none: beat 1 in the smallest quantum there is, about 5 * 10^-324.
pub phase_out_of_range :
    (beat_at_time (set_tempo default_state (decimal (pos 60000000) 0) (at (pos 0))) (at (negsuc 199999999999999999)) ≡ (decimal (negsuc 199999999999999999) 0))
    × (phase_at_time (set_tempo default_state (decimal (pos 60000000) 0) (at (pos 0))) (at (negsuc 199999999999999999)) (decimal (pos 11) 0) ≡ (decimal (negsuc 9) 0))
    × (beat_at_time default_state (at (negsuc 499999)) ≡ (decimal (negsuc 0) 0))
    × (phase_at_time default_state (at (negsuc 499999)) (decimal (pos 11) 17) ≡ (decimal (negsuc 10223024625156538) 34))
    × (beat_at_time default_state (at (pos 500000)) ≡ (decimal (pos 1) 0))
    × (phase_at_time default_state (at (pos 500000)) (decimal (pos 5) 324) ≡ nan)
unfolding everything
phase_out_of_range = (both (fin true 762939453125 (pos 18)) refl refl, both (fin true 5 (pos 1)) refl refl, both (fin true 1 (pos 0)) refl refl, both (fin true 82939029134257 (negsuc 105)) refl refl, both (fin false 1 (pos 0)) refl refl, refl)

-- A beat that is forced, or requested alone, is to be the beat at that time. The beat origin is rounded to millionths: beat 1/3 becomes 0.333333.
pub forced_beat_rounded :
    (beat_at_time (force_beat_at_time default_state (at (pos 0)) (decimal (pos 3333333333333333) 16)) (at (pos 0)) ≡ (decimal (pos 333333) 6))
    × (beat_at_time (request_beat_at_time default_state (at (pos 0)) (decimal (pos 3333333333333333) 16)) (at (pos 0)) ≡ (decimal (pos 333333) 6))
unfolding everything
forced_beat_rounded = (both (fin false 3002396749180579 (negsuc 52)) refl refl, both (fin false 3002396749180579 (negsuc 52)) refl refl)

-- A tempo change is to leave the beat at its time. That is rounded to millionths: at 20 beats a minute it is beat 1/3 after a second, and 0.333333 where the
-- tempo then becomes 120.
pub tempo_change_rounds :
    (beat_at_time (set_tempo default_state (decimal (pos 20) 0) (at (pos 0))) (at (pos 1000000)) ≡ (decimal (pos 3333333333333333) 16))
    × (beat_at_time (set_tempo (set_tempo default_state (decimal (pos 20) 0) (at (pos 0))) (decimal (pos 120) 0) (at (pos 1000000))) (at (pos 1000000)) ≡ (decimal (pos 333333) 6))
unfolding everything
tempo_change_rounds = (both (fin false 6004799503160661 (negsuc 53)) refl refl, both (fin false 3002396749180579 (negsuc 52)) refl refl)

-- In company a requested beat is to wait for its phase. It is forced at once, whatever the quantum: at the time origin, where the phase in 4 is 0, beat 1 is
-- asked for, and the beat origin is 1,000,000.
pub request_in_company :
    (phase_at_time default_state (at (pos 0)) (decimal (pos 4) 0) ≡ (decimal (pos 0) 0))
    × ((request_beat_at_time default_state (at (pos 0)) (decimal (pos 1) 0)).timeline.beat_origin.0 ≡ (pos 1000000))
unfolding everything
request_in_company = (both (fin false 0 (pos 0)) refl refl, refl)
