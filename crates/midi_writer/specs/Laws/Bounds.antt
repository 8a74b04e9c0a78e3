-- The tests of a beat origin, in turn.
use Rattle.std.specs.Prelude.{ℕ, ◌+◌, ◌-◌, ◌/◌, ◌%◌, ◌<◌, ◌≤◌, false, ◌≡◌, refl, leb, eqb, ℤ, pos, negsuc, unsigned_abs, FitsSigned, None, Some}
use Rattle.std.specs.Int.{w64, FitsUnsignedBits}
use Rattle.std.proofs.Common.{arith, ◌∙◌, sym, ap}
use borrow.Author.Tests.{le-leb, lt-leb, eq-eqb, ne_eqb}
use Rattle.std.specs.Int.Signed.{le_z}
use Rattle.midi_file.specs.declared.TempoChange.{TempoChange}
use Rattle.midi_file.specs.Layout.{micros}
use Rattle.midi_file.specs.Refusal.{good_origin}
use Rattle.midi_writer.specs.Steps.{delta_of}

above : (a : ℕ) (z : ℤ) → FitsUnsignedBits 64 z → le_z (pos a) z ≡ leb a (unsigned_abs z)
above a (pos n) f = refl
above a (negsuc n) f = absurd f

below : (a : ℕ) (z : ℤ) → FitsUnsignedBits 64 z → le_z z (pos a) ≡ leb (unsigned_abs z) a
below a (pos n) f = refl
below a (negsuc n) f = absurd f

negative : (a : ℕ) (z : ℤ) → FitsSigned w64 z → ¬ FitsUnsignedBits 64 z → le_z (pos a) z ≡ false
negative a (pos n) s f = absurd (f (omega (arith, s)))
negative a (negsuc n) s f = refl

module _ (before : ℕ) (p : TempoChange) where
  no_delta : good_origin before p ≡ false → None ≡ delta_of before p
  unfolding delta_of
  no_delta e = rw e

  pub origin_negative : FitsSigned w64 p.beat_origin.0 → ¬ FitsUnsignedBits 64 p.beat_origin.0 → None ≡ delta_of before p
  unfolding good_origin
  origin_negative s f = no_delta (rw (negative before p.beat_origin.0 s f))

  module _ (m : ℕ) (f : FitsUnsignedBits 64 p.beat_origin.0) (e : m ≡ micros p) where
    pub origin_before : ¬ (before ≤ m) → None ≡ delta_of before p
    unfolding good_origin
    origin_before h = no_delta (rw (above before p.beat_origin.0 f, lt-leb before (micros p) (omega arith)))

    module _ (h : before ≤ m) where
      pub origin_far : 268_435_455_000 < m - before → None ≡ delta_of before p
      unfolding good_origin
      origin_far k = no_delta (rw (above before p.beat_origin.0 f, le-leb before (micros p) (omega arith), below (before + 268_435_455_000) p.beat_origin.0 f, lt-leb (micros p) (before + 268_435_455_000) (omega arith)))

      -- where it lies near enough, the last test decides
      near : m - before ≤ 268_435_455_000 → good_origin before p ≡ eqb (micros p % 1000) 0
      unfolding good_origin
      near k = rw (above before p.beat_origin.0 f, le-leb before (micros p) (omega arith), below (before + 268_435_455_000) p.beat_origin.0 f, le-leb (micros p) (before + 268_435_455_000) (omega arith))

      pub origin_between : m - before ≤ 268_435_455_000 → ¬ (m % 1000 ≡ 0) → None ≡ delta_of before p
      origin_between k n = no_delta (near k ∙ ne_eqb (micros p % 1000) 0 (λ z. n (ap (λ (x : ℕ). x % 1000) e ∙ z)))

      pub origin_good : (g : ℕ) → g ≡ m - before → g ≤ 268_435_455_000 → m % 1000 ≡ 0 → Some (g / 1000) ≡ delta_of before p
      unfolding delta_of
      origin_good g i k n =
          let k' : m - before ≤ 268_435_455_000 = omega arith in
          ap (λ (x : ℕ). Some (x / 1000)) (i ∙ ap (λ (x : ℕ). x - before) e) ∙ sym (rw (near k' ∙ eq-eqb (micros p % 1000) 0 (ap (λ (x : ℕ). x % 1000) (sym e) ∙ n)))
