-- What the scope says in words of the phase, of requests and of the default state.
use Rattle.std.specs.Prelude.{◌≡◌, refl, Bool, true, false, ℕ, ◌+◌, ◌*◌, ◌^◌, ◌≤◌, ◌<◌, ℤ, pos, negsuc, ◌-ℤ◌, Float}
use Rattle.std.proofs.Common.{sym, ◌∙◌, mul-one, arith, lit<}
use Rattle.std.proofs.Math.Path.{ap₂}
use Rattle.std.proofs.Math.Nat.{mul-le-mul_left}
use Rattle.std.specs.Float.{fin, binary64}
use Rattle.std.specs.Float.Ieee.{of_int, round, add, mul, div, rem, eq}
use Rattle.std.specs.Float.Ieee.Scale.{round_same}
use Rattle.float.specs.Whole.{abs_of, floor_of}
use Rattle.float.specs.Laws.Wholes.{whole, whole_round, add-whole, div-whole}
use Rattle.signed.specs.Wrap.{mod64, wrap64}
use Rattle.time.specs.declared.HostTime.{HostTime}
use Rattle.time.specs.Convert.{zero, million, to_beats, from_tempo}
use Rattle.time.specs.Laws.Theorems.{from_tempo_120}
use Rattle.timeline.specs.declared.Timeline.{Timeline}
use Rattle.timeline.specs.declared.StartStopState.{StartStopState}
use Rattle.timeline.specs.declared.SessionState.{SessionState}
use Rattle.timeline.specs.Phase.{quantum_bins, phase_of}
use Rattle.timeline.specs.Session.{default_state, beats_since, beat_at_time, phase_at_time, time_at_beat, request_beat_at_time, force_beat_at_time, set_tempo, set_is_playing}
use Rattle.timeline.specs.Laws.WholePhase.{Phase, whole_phase}

-- the phase is 0 for quantum 0, of either sign
pub phase_zero : (beat : Float) → phase_of beat (fin false 0 (pos 0)) ≡ zero
unfolding phase_of abs_of eq zero of_int round
phase_zero beat = refl

pub phase_minus_zero : (beat : Float) → phase_of beat (fin true 0 (pos 0)) ≡ zero
unfolding phase_of abs_of eq zero of_int round
phase_minus_zero beat = refl

-- and else it does not hang on the quantum's sign
pub phase_of_minus : (beat : Float) (m : ℕ) (e : ℤ) → phase_of beat (fin true m e) ≡ phase_of beat (fin false m e)
unfolding phase_of abs_of
phase_of_minus beat m e = refl

-- the phase of -1 in 4 is 3
pub minus_one_in_four : phase_of (of_int binary64 (negsuc 0)) (of_int binary64 (pos 4)) ≡ of_int binary64 (pos 3)
unfolding phase_of quantum_bins abs_of floor_of eq zero add mul div rem of_int round
minus_one_in_four = refl

-- the premises of `whole_phase` can be met
pub whole_phase_example : Phase (negsuc 0) (pos 4)
whole_phase_example = whole_phase (negsuc 0) (pos 4) (lit< tt) (omega arith)

-- a request only forces
pub request_forces : (s : SessionState) (time : HostTime) (beat : Float) → request_beat_at_time s time beat ≡ force_beat_at_time s time beat
unfolding request_beat_at_time
request_forces s time beat = refl

-- the default tempo is that of 120 beats per minute
pub default_tempo : default_state.timeline.tempo.0 ≡ from_tempo (of_int binary64 (pos 120))
unfolding default_state
default_tempo = sym from_tempo_120

-- ---- what a method leaves alone

-- a line that is stopped runs on: beat, phase and time do not hang on whether it plays
pub stopped_runs_on : (line : Timeline) (one other : StartStopState) (time : HostTime) (quantum beat : Float)
    → let s : SessionState = record { timeline = line; start_stop = one } in
    let r : SessionState = record { timeline = line; start_stop = other } in
    (beat_at_time s time ≡ beat_at_time r time) × (phase_at_time s time quantum ≡ phase_at_time r time quantum) × (time_at_beat s beat ≡ time_at_beat r beat)
unfolding beat_at_time phase_at_time time_at_beat
stopped_runs_on line one other time quantum beat = (refl, refl, refl)

-- a tempo holds from its time on, to the nearest microsecond a beat; start and stop are left
pub tempo_from_its_time : (s : SessionState) (bpm : Float) (at : HostTime)
    → ((set_tempo s bpm at).timeline.tempo.0 ≡ from_tempo bpm) × ((set_tempo s bpm at).timeline.time_origin ≡ at) × ((set_tempo s bpm at).start_stop ≡ s.start_stop)
unfolding set_tempo
tempo_from_its_time s bpm at = (refl, refl, refl)

-- a start or a stop has the flag and the time that are asked for; the line is left
pub playing_from_its_time : (s : SessionState) (playing : Bool) (at : HostTime)
    → ((set_is_playing s playing at).start_stop.is_playing ≡ playing) × ((set_is_playing s playing at).start_stop.time ≡ at) × ((set_is_playing s playing at).timeline ≡ s.timeline)
unfolding set_is_playing
playing_from_its_time s playing at = (refl, refl, refl)

-- ---- a whole beat: j beats after an origin at the whole beat k, the beat is exactly k + j

-- k times d, divided by d
exact : (k d : ℕ) → k * d ≤ 2 ^ 53 → d ≤ 2 ^ 53 → 0 < d → div binary64 (whole (k * d)) (whole d) ≡ whole k
exact k d h l p = div-whole (k * d) d h l p ∙ round_same binary64 false (k * d) d k 1 p (lit< tt) (mul-one (k * d)) ∙ sym (whole_round k)

module _
    (s : SessionState) (time : HostTime) (k j tempo : ℕ)
    (origin : s.timeline.beat_origin.0 ≡ pos (k * 1_000_000))
    (at_tempo : s.timeline.tempo.0 ≡ pos tempo)
    (since : wrap64 (time.0 -ℤ s.timeline.time_origin.0) ≡ pos (j * tempo))
    (p : 0 < tempo)
    (small_tempo : tempo ≤ 2 ^ 53)
    (small_origin : k * 1_000_000 ≤ 2 ^ 53)
    (small_since : j * tempo ≤ 2 ^ 53) where
  origin_is : to_beats s.timeline.beat_origin.0 ≡ whole k
  unfolding to_beats million
  origin_is = rw origin (exact k 1_000_000 small_origin (omega arith) (lit< tt))

  since_is : beats_since s.timeline time ≡ whole j
  unfolding beats_since
  since_is = rw (since, at_tempo) (exact j tempo small_since small_tempo p)

  pub whole_beat : beat_at_time s time ≡ whole (k + j)
  unfolding beat_at_time
  whole_beat = ap₂ (add binary64) origin_is since_is ∙ add-whole k j (omega arith) (omega (arith, mul-le-mul_left j p))

-- two seconds after the default line's origin it is beat 4
pub fourth_beat : beat_at_time default_state (record { 0 = pos 2_000_000 }) ≡ whole (0 + 4)
unfolding default_state wrap64 mod64
fourth_beat = whole_beat default_state (record { 0 = pos 2_000_000 }) 0 4 500_000 refl refl refl (lit< tt) (omega arith) (omega arith) (omega arith)
