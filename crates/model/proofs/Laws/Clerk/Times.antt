-- At the times that calls accept, what is taken off in a call does not wrap.
use Rattle.std.specs.Prelude.{ℕ, ◌^◌, ◌<◌, ◌≤◌, ◌≡◌, true, ltb, ℤ, pos, negsuc, ◌-ℤ◌, ◌≤ℤ◌}
use Rattle.std.proofs.Common.{arith, sym, ap, ◌∙◌, subst, leb→le, SFits, ltb-true, ltb-false}
use Rattle.std.proofs.Math.IntN.{sub_ℕ}
use Rattle.std.specs.Int.Signed.{le_z}
use Rattle.std.specs.Int.{w64}
use Rattle.signed.specs.Wrap.{wrap64}
use Rattle.signed.specs.Laws.WrapLaws.{wrap64_id}
use Rattle.signed.specs.Laws.Diff.{by_diff, diff_le, ring}
use Rattle.signed.specs.Laws.Signs.{le_le_z}
use Rattle.time.specs.declared.HostTime.{HostTime}
use Rattle.model.specs.Sums.{minus}
use Rattle.model.specs.Peers.{Peer}
use Rattle.model.specs.Produce.{recent}
use Rattle.lists.specs.Laws.Bools.{split}
use Rattle.model.specs.Laws.Calls.Course.{Admitted}
use Rattle.model.specs.Laws.Clerk.Times.{SeenLately}

-- a difference of two naturals below 2 ^ 63 fits
fits_sub : (a b : ℕ) → a < 2 ^ 63 → b < 2 ^ 63 → SFits w64 (sub_ℕ a b)
fits_sub a b f g = split (ltb a b)
    (λ t. let h : a < b = ltb-true a b t in rw t (record { sfits = omega arith }))
    (λ t. let h : b ≤ a = ltb-false a b t in rw t (record { sfits = omega arith }))

earlier_exact : (z : ℤ) → pos 0 ≤ℤ z → z ≤ℤ pos 1_000_000_000_000_000 → wrap64 (z -ℤ pos 6_000_000) ≡ z -ℤ pos 6_000_000
earlier_exact (pos n) l h = let k : n ≤ 1_000_000_000_000_000 = leb→le n 1_000_000_000_000_000 h.le in wrap64_id _ (fits_sub n 6_000_000 (omega arith) (omega arith))
earlier_exact (negsuc n) l h = absurd l.le

module _ {now : HostTime} {buf_size : ℕ} (a : Admitted now buf_size) where
  -- 6 seconds earlier
  pub six_earlier : (minus now (pos 6_000_000)).0 ≡ now.0 -ℤ pos 6_000_000
  six_earlier = earlier_exact now.0 a.from a.upto

  -- as the definition tests it
  pub recent_by : (p : Peer) → SeenLately now p → recent now p ≡ true
  recent_by p h = ap (λ (z : ℤ). le_z z p.last_seen.0) six_earlier ∙ le_le_z _ _ h

  pub recent_now : (p : Peer) → p.last_seen ≡ now → recent now p ≡ true
  recent_now p e = recent_by p (subst (λ (t : HostTime). (now.0 -ℤ pos 6_000_000) ≤ℤ t.0) (sym e) (under now.0))
    where
      under : (z : ℤ) → (z -ℤ pos 6_000_000) ≤ℤ z
      under = by_diff _ λ p n. simp ring (diff_le _ _ _ _ (omega arith))
