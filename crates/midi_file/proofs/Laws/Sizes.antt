-- How many bytes a file has, and how far its beat origins reach.
use Rattle.std.specs.Prelude.{ℕ, ◌+◌, ◌*◌, ◌≤◌, true, ◌≡◌, List, [], ◌∷◌, length}
use Rattle.std.proofs.Common.{arith}
use Rattle.signed.specs.Laws.Tests.{both}
use Rattle.midi_file.specs.declared.TempoChange.{TempoChange}
use Rattle.midi_file.specs.Layout.{micros, file}
use Rattle.midi_file.specs.Refusal.{good_origin, good_origins, refusal}
use Rattle.midi_file.specs.Laws.Events.{origin_bounds}
use Rattle.midi_file.specs.Laws.Refusals.{Accepted, accepted}
use Rattle.midi_file.specs.Laws.Theorems.{length-file, most_track}
use Rattle.midi_file.specs.Laws.Sizes.{Within, none_within, one_within}

pub file_most : (ps : List TempoChange) → refusal ps ≡ 0 → length (file ps) ≤ 666
file_most ps e = omega (arith, length-file ps, most_track ps (accepted ps e).few)

within : (most before : ℕ) (ps : List TempoChange) → good_origins before ps ≡ true → before + 268_435_455_000 * length ps ≤ most → Within most ps
unfolding good_origins
within most before [] e h = none_within
within most before (p ∷ ps) e h =
    let e₀ = both (good_origin before p) (good_origins (micros p) ps) e in
    let k = origin_bounds before p e₀.0 in
    one_within {p = p} (omega arith) (within most (micros p) ps e₀.1 (omega arith))

-- no beat origin of a list that is not refused passes 64 times the farthest step
pub origins_within : (ps : List TempoChange) → refusal ps ≡ 0 → Within 17_179_869_120_000 ps
origins_within ps e =
    let a : Accepted ps = accepted ps e in
    within 17_179_869_120_000 0 ps a.origins (omega (arith, a.few))
