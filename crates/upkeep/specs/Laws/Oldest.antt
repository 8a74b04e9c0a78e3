-- Every neighbour stays exactly where the one that was seen longest ago does.
use Rattle.std.proofs.Common.{arith, ◌∙◌, SFits, le-leb}
use Rattle.std.specs.Prelude.{◌≡◌, refl, Bool, true, false, ◌&&◌, cond, ℤ, pos, negsuc}
use Rattle.std.proofs.Math.Path.{sym, ap}
use Rattle.std.proofs.Math.Bool.{not, and-true, and_assoc}
use mathlib.Core.List.{List, [], ◌∷◌}
use Rattle.std.specs.Int.Signed.{lt_z, le_z}
use Rattle.std.specs.Int.{w64}
use Rattle.signed.specs.Laws.Order.{≤ℤ_trans, <ℤ-≤ℤ}
use Rattle.signed.specs.Laws.Signs.{lt_z-true, lt_z-false, le_z-true, le_le_z}
use Rattle.signed.specs.Laws.WrapLaws.{wrap64_fits}
use Rattle.time.specs.declared.HostTime.{HostTime}
use Rattle.model.specs.Sums.{minus, never, earlier}
use Rattle.lists.specs.Lists.{keep}
use Rattle.model.specs.Peers.{Peer}
use Rattle.model.specs.Produce.{min_last_seen, recent}
use Rattle.upkeep.specs.Laws.Kept.{loses, loses_later, loses_first}

-- ---- at most the smaller of two, and at most both

and_second : (x y : Bool) → (y ≡ true → x ≡ true) → y ≡ x && y
and_second true y h = refl
and_second false true h = sym (h refl)
and_second false false h = refl

and_first : (x y : Bool) → (x ≡ true → y ≡ true) → x ≡ x && y
and_first true y h = sym (h refl)
and_first false y h = refl

below_by : (t : Bool) (a b c : ℤ) → lt_z b a ≡ t → le_z c (cond t b a) ≡ le_z c a && le_z c b
below_by true a b c e = and_second (le_z c a) (le_z c b) (λ h. le_le_z c a (≤ℤ_trans c b a (le_z-true h) (<ℤ-≤ℤ b a (lt_z-true e))))
below_by false a b c e = and_first (le_z c a) (le_z c b) (λ h. le_le_z c b (≤ℤ_trans c a b (le_z-true h) (lt_z-false e)))

picked : (t : Bool) (a b : HostTime) → (cond t b a).0 ≡ cond t b.0 a.0
picked true a b = refl
picked false a b = refl

below_both : (a b : HostTime) (c : ℤ) → le_z c (earlier a b).0 ≡ le_z c a.0 && le_z c b.0
below_both a b c = ap (le_z c) (picked (lt_z b.0 a.0) a b) ∙ below_by (lt_z b.0 a.0) a.0 b.0 c refl

-- no time is later than the largest
upto_last : (z : ℤ) → SFits w64 z → le_z z never.0 ≡ true
upto_last (negsuc n) f = refl
upto_last (pos n) f = le-leb n 9_223_372_036_854_775_807 (omega (arith, f.sfits))

-- ---- of the neighbours

module _ {A : Type 0} (t : A → Bool) where
  stay_first : (b : Bool) (x : A) (xs : List A) → t x ≡ b → not (loses t (x ∷ xs)) ≡ b && not (loses t xs)
  stay_first true x xs e = ap not (loses_later t x xs e)
  stay_first false x xs e = ap not (loses_first t x xs e)

module _ (now : HostTime) where
  abbrev cutoff : ℤ
  cutoff = (minus now (pos 6_000_000)).0

  oldest_of : (t : HostTime) (ps : List Peer) → le_z cutoff (min_last_seen t ps).0 ≡ le_z cutoff t.0 && not (loses (recent now) ps)
  unfolding min_last_seen keep
  oldest_of t [] = sym (and-true (le_z cutoff t.0))
  oldest_of t (p ∷ ps) =
      let rest = not (loses (recent now) ps) in
      oldest_of (earlier t p.last_seen) ps
      ∙ ap (λ (b : Bool). b && rest) (below_both t p.last_seen cutoff)
      ∙ and_assoc (le_z cutoff t.0) (recent now p) rest
      ∙ ap (λ (b : Bool). le_z cutoff t.0 && b) (sym (stay_first (recent now) (recent now p) p ps refl))

  pub oldest_stays : (ps : List Peer) → le_z cutoff (min_last_seen never ps).0 ≡ not (loses (recent now) ps)
  oldest_stays ps = oldest_of never ps ∙ ap (λ (b : Bool). b && not (loses (recent now) ps)) (upto_last cutoff (wrap64_fits _))
