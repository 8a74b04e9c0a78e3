-- Which lists are refused: examples on both sides of each edge, and what a list that is not refused is.
use Rattle.std.specs.Prelude.{ℕ, zero, suc, ◌+◌, ◌≤◌, true, ◌&&◌, ◌≡◌, refl, List, [], ◌∷◌, leb, ℤ, pos, negsuc, length}
use Rattle.std.proofs.Common.{arith, leb-true, le-leb}
use Rattle.signed.specs.Laws.Tests.{both}
use Rattle.midi_file.specs.declared.TempoChange.{TempoChange}
use Rattle.midi_file.specs.Refusal.{good_tempos, good_origins, refusal}
use Rattle.midi_file.specs.Laws.Open.{everything}
use Rattle.midi_file.specs.Laws.Numbers.{by_test}

abbrev pub at : ℤ → ℤ → TempoChange
at tempo origin = record { tempo = record { 0 = tempo }; beat_origin = record { 0 = origin } }

-- ---- both sides of each edge, by computation

-- 8 goes before 9, also where the pair of the bad beat origin comes first
pub tempo_first :
    (refusal (at (pos 500_000) (negsuc 0) ∷ at (pos 0) (pos 0) ∷ []) ≡ 8)
    × (refusal (at (pos 0) (pos 999) ∷ []) ≡ 8)
unfolding everything
tempo_first = (refl, refl)

-- tempos from 1 to 16,777,215
pub tempo_edges :
    (refusal (at (negsuc 0) (pos 0) ∷ []) ≡ 8)
    × (refusal (at (pos 0) (pos 0) ∷ []) ≡ 8)
    × (refusal (at (pos 1) (pos 0) ∷ []) ≡ 0)
    × (refusal (at (pos 16_777_215) (pos 0) ∷ []) ≡ 0)
    × (refusal (at (pos 16_777_216) (pos 0) ∷ []) ≡ 8)
unfolding everything
tempo_edges = (refl, refl, refl, refl, refl)

-- the first beat origin: from 0 on, on a tick, at most 268,435,455 ticks after 0
pub first_origin_edges :
    (refusal (at (pos 1) (negsuc 0) ∷ []) ≡ 9)
    × (refusal (at (pos 1) (pos 0) ∷ []) ≡ 0)
    × (refusal (at (pos 1) (pos 999) ∷ []) ≡ 9)
    × (refusal (at (pos 1) (pos 1000) ∷ []) ≡ 0)
    × (refusal (at (pos 1) (pos 268_435_455_000) ∷ []) ≡ 0)
    × (refusal (at (pos 1) (pos 268_435_456_000) ∷ []) ≡ 9)
unfolding everything
first_origin_edges = (refl, refl, refl, refl, refl, refl)

-- a later one, behind its forerunner at 2,000
abbrev after_2000 : ℤ → List TempoChange
after_2000 origin = at (pos 1) (pos 2000) ∷ at (pos 1) origin ∷ []

pub next_origin_edges :
    (refusal (after_2000 (pos 1000)) ≡ 9)
    × (refusal (after_2000 (pos 2000)) ≡ 0)
    × (refusal (after_2000 (pos 2999)) ≡ 9)
    × (refusal (after_2000 (pos 268_435_457_000)) ≡ 0)
    × (refusal (after_2000 (pos 268_435_458_000)) ≡ 9)
unfolding everything
next_origin_edges = (refl, refl, refl, refl, refl)

-- pairs as far apart as can be, k of them behind this beat
unfoldable pub farthest : ℕ → ℕ → List TempoChange
farthest zero before = []
farthest (suc k) before = at (pos 16_777_215) (pos (before + 268_435_455_000)) ∷ farthest k (before + 268_435_455_000)

-- 64 pairs and 65, these also with a bad beat origin
pub count_edges :
    (refusal [] ≡ 0)
    × (refusal (farthest 64 0) ≡ 0)
    × (refusal (farthest 65 0) ≡ 8)
    × (refusal (at (pos 1) (negsuc 0) ∷ farthest 64 0) ≡ 8)
unfolding everything farthest
count_edges = (refl, refl, refl, refl)

-- ---- what is not refused

pub record Accepted (ps : List TempoChange) : Type 0 where
  pub few : length ps ≤ 64
  pub tempos : good_tempos ps ≡ true
  pub origins : good_origins 0 ps ≡ true

pub accepted : (ps : List TempoChange) → refusal ps ≡ 0 → Accepted ps
unfolding refusal
accepted ps e =
    by_test (leb (length ps) 64 && good_tempos ps)
    (λ t. by_test (good_origins 0 ps)
    (λ u. let b = both (leb (length ps) 64) (good_tempos ps) t in record { few = leb-true _ _ b.0; tempos = b.1; origins = u })
    (λ u. absurd (omega (arith, rw (t, u) at e))))
    (λ t. absurd (omega (arith, rw t at e)))

pub not_refused : (ps : List TempoChange) → Accepted ps → refusal ps ≡ 0
unfolding refusal
not_refused ps a = rw (le-leb _ _ a.few, a.tempos, a.origins)
