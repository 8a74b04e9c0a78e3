-- The phase of any beat in any quantum but 0: where it is a number its size is below the quantum's, and for a beat from 0 on it is not negative.
use Rattle.std.specs.Prelude.{◌≡◌, refl, ◌⊎◌, true, false, ℕ, pos, negsuc, ◌-ℤ◌, T, Float}
use Rattle.std.proofs.Common.{sym, subst, inl, inr, ltb→lt}
use Rattle.std.specs.Float.{nan, inf, fin, binary64}
use Rattle.std.specs.Float.Ieee.{of_int, round, fits, add, mul, rem, lt}
use Rattle.std.specs.Float.Ieee.Fits.{add-fits}
use Rattle.std.specs.Float.Ieee.Positive.{positive}
use Rattle.float.specs.Whole.{abs_of}
use Rattle.float.specs.Laws.Wholes.{abs_fits, not_eq_zero}
use Rattle.float.specs.Laws.Remainder.{rem_below}
use Rattle.float.specs.Laws.Unsigned.{Plus, no_number, endless, number, plus_of, plus_abs, plus_add, plus_mul, plus_div, plus_floor, plus_rem, not_negative}
use Rattle.signed.specs.Wrap.{mod64, wrap64}
use Rattle.time.specs.declared.HostTime.{HostTime}
use Rattle.time.specs.Convert.{zero, million, to_beats}
use Rattle.timeline.specs.declared.SessionState.{SessionState}
use Rattle.timeline.specs.Phase.{quantum_bins, phase_of}
use Rattle.timeline.specs.Session.{default_state, beats_since, beat_at_time, phase_at_time}

-- what is divided
abbrev divided : Float → Float → Float
divided beat q = add binary64 beat (mul binary64 (quantum_bins beat q) q)

-- the phase in a quantum that is not 0
phase_is : (beat quantum : Float) → T (positive (abs_of quantum)) → phase_of beat quantum ≡ rem binary64 (divided beat (abs_of quantum)) (abs_of quantum)
unfolding phase_of zero of_int round
phase_is beat quantum p = rw (not_eq_zero (abs_of quantum) p)

-- its size
below : (x q : Float) → T (fits binary64 x) → T (fits binary64 q) → T (positive q) → (rem binary64 x q ≡ nan) ⊎ (lt (abs_of (rem binary64 x q)) q ≡ true)
unfolding abs_of
below x nan h k p = absurd p
below x (inf s) h k p = absurd p
below x (fin true n d) h k p = absurd p
below x (fin false n d) h k p = rem_below x false n d h k (ltb→lt 0 n p)

-- its sign
bins_plus : (beat q : Float) → Plus q → Plus (quantum_bins beat q)
unfolding quantum_bins
bins_plus beat q p = plus_floor (plus_div (plus_add (plus_abs beat) p) p)

within : (x q : Float) → Plus x → (x ≡ nan) ⊎ (lt (abs_of x) q ≡ true) → (x ≡ nan) ⊎ ((lt x zero ≡ false) × (lt x q ≡ true))
unfolding abs_of zero of_int round
within x q no_number h = inl refl
within x q endless (inl h) = inl h
within x q endless (inr h) = inr (not_negative endless, h)
within x q number (inl h) = inl h
within x q number (inr h) = inr (not_negative number, h)

module _ (beat quantum : Float) (f : T (fits binary64 quantum)) (p : T (positive (abs_of quantum))) where
  -- any beat: the phase is no number, or smaller in size than the quantum
  pub phase_below : (phase_of beat quantum ≡ nan) ⊎ (lt (abs_of (phase_of beat quantum)) (abs_of quantum) ≡ true)
  phase_below = rw (phase_is beat quantum p) (below (divided beat (abs_of quantum)) (abs_of quantum) (add-fits binary64 _ _) (abs_fits quantum f) p)

  -- a beat from 0 on: the phase is no number, or from 0 to below the quantum
  pub phase_within : Plus beat → (phase_of beat quantum ≡ nan) ⊎ ((lt (phase_of beat quantum) zero ≡ false) × (lt (phase_of beat quantum) (abs_of quantum) ≡ true))
  phase_within b =
      let q = plus_abs quantum in
      within (phase_of beat quantum) (abs_of quantum) (subst Plus (sym (phase_is beat quantum p)) (plus_rem (abs_of quantum) (plus_add b (plus_mul (bins_plus beat (abs_of quantum) q) q)))) phase_below

-- so too of a state whose beat origin and tempo are from 0 on, at its time origin or later
module _ (s : SessionState) (time : HostTime) (quantum : Float) (b t j : ℕ)
    (origin : s.timeline.beat_origin.0 ≡ pos b) (tempo : s.timeline.tempo.0 ≡ pos t) (since : wrap64 (time.0 -ℤ s.timeline.time_origin.0) ≡ pos j) where
  beat_plus : Plus (beat_at_time s time)
  unfolding beat_at_time beats_since to_beats million
  beat_plus = rw (origin, tempo, since) (plus_add (plus_div (plus_of b) (plus_of 1_000_000)) (plus_div (plus_of j) (plus_of t)))

  pub phase_at_time_within : T (fits binary64 quantum) → T (positive (abs_of quantum))
      → (phase_at_time s time quantum ≡ nan) ⊎ ((lt (phase_at_time s time quantum) zero ≡ false) × (lt (phase_at_time s time quantum) (abs_of quantum) ≡ true))
  unfolding phase_at_time
  phase_at_time_within f p = phase_within (beat_at_time s time) quantum f p beat_plus

-- the premises can be met: the default state at 1, in a quantum of -3/4
pub phase_at_time_within_met : let x : Float = phase_at_time default_state (record { 0 = pos 1 }) (fin true 3 (negsuc 1)) in (x ≡ nan) ⊎ ((lt x zero ≡ false) × (lt x (fin false 3 (negsuc 1)) ≡ true))
unfolding default_state wrap64 mod64 fits abs_of
phase_at_time_within_met = phase_at_time_within default_state (record { 0 = pos 1 }) (fin true 3 (negsuc 1)) 0 500_000 1 refl refl refl tt tt
