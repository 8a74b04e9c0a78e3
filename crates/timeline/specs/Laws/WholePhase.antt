-- What a musician reads off the phase, for whole beats and quanta: it lies in [0, q), and it differs from the beat by a multiple of q.
-- The range is |beat| + |quantum| ≤ 2 ^ 52, in which every number on the way is exact but the quotient, and one quantum more or less does not matter.
use Rattle.std.specs.Prelude.{◌≡◌, ℕ, suc, ◌+◌, ◌-◌, ◌*◌, ◌/◌, ◌%◌, ◌^◌, ◌≤◌, ◌<◌, ℤ, pos, negsuc, nat_abs, ◌+ℤ◌, ◌-ℤ◌, ◌*ℤ◌}
use Rattle.std.proofs.Common.{mul-le-mul_right, div-add-mod', div-le_self, mod-lt, le-div_iff_mul-le, arith, lit<}
use Rattle.std.specs.Float.{binary64}
use Rattle.std.specs.Float.Ieee.{of_int, add, div}
use Rattle.std.specs.Float.Ieee.Order.{round_mono}
use Rattle.float.specs.Whole.{abs_of}
use Rattle.float.specs.Laws.Wholes.{whole, whole_round, Floor, floor_between, abs_whole, add-whole, sub-whole, mul-whole, div-whole, rem-whole, above_zero}
use Rattle.signed.specs.Laws.Diff.{diff_eq, ring}
use Rattle.time.specs.Convert.{zero}
use Rattle.timeline.specs.Phase.{quantum_bins, phase_of}

-- the phase of the beat b in the quantum z
pub record Phase (b z : ℤ) : Type 0 where
  pub at : ℕ
  pub is : phase_of (of_int binary64 b) (of_int binary64 z) ≡ whole at
  pub below : at < nat_abs z
  pub quanta : ℤ
  pub apart : b ≡ pos at +ℤ quanta *ℤ pos (nat_abs z)

-- n is the beat's size, q the quantum's
module _ (n q : ℕ) (p : 0 < q) (small : n + q ≤ 2 ^ 52) where
  -- how many whole quanta n + q has
  abbrev lo : ℕ
  lo = (n + q) / q

  lo_is : lo * q + (n + q) % q ≡ n + q
  lo_is = div-add-mod' (n + q) q

  lo_pos : 0 < lo
  lo_pos = (le-div_iff_mul-le p).1 (omega arith)

  -- the bins are lo, or lo + 1 where the quotient is rounded up to it
  bins : Floor (div binary64 (whole (n + q)) (whole q)) lo (lo + 1)
  bins =
      let small_lo : lo ≤ n + q = div-le_self (n + q) q in
      let rest = mod-lt (n + q) p in
      let d = div-whole (n + q) q (omega arith) (omega arith) p in
      floor_between (div binary64 (whole (n + q)) (whole q)) lo (lo + 1) lo_pos (omega arith) (omega arith) (omega arith)
      (rw (d, whole_round lo) (round_mono binary64 lo 1 (n + q) q (lit< tt) p (omega (arith, lo_is))))
      (rw (d, whole_round (lo + 1)) (round_mono binary64 (n + q) q (lo + 1) 1 p (lit< tt) (omega (arith, lo_is))))

  -- the quanta that are added: more than n, and at most n + 2q
  abbrev added : ℕ
  added = bins.at * q

  added_above : n < added
  added_above = omega (arith, lo_is, mod-lt (n + q) p, mul-le-mul_right q bins.above)

  added_below : added ≤ n + (q + q)
  added_below = omega (arith, lo_is, mul-le-mul_right q bins.below)

  bins_pos : 0 < bins.at
  bins_pos = omega (arith, lo_pos, bins.above)

  bins_small : bins.at ≤ 2 ^ 53
  bins_small = omega (arith, div-le_self (n + q) q, bins.below)

-- the phase's parts, of any beat of size n and any quantum of size q
module _ (b z : ℤ) (p : 0 < nat_abs z) (small : nat_abs b + nat_abs z ≤ 2 ^ 52) where
  abbrev n : ℕ
  n = nat_abs b

  abbrev q : ℕ
  q = nat_abs z

  quantum_is : abs_of (of_int binary64 z) ≡ whole q
  quantum_is = abs_whole z (omega arith)

  bins_are : quantum_bins (of_int binary64 b) (whole q) ≡ whole (bins n q p small).at
  unfolding quantum_bins
  bins_are =
      rw (abs_whole b (omega arith), add-whole n q (omega arith) (omega arith)) (bins n q p small).is

  -- the phase, where what is divided is t
  phase_is : (t : ℕ) → t ≤ 2 ^ 53 → add binary64 (of_int binary64 b) (whole (added n q p small)) ≡ whole t → phase_of (of_int binary64 b) (of_int binary64 z) ≡ whole (t % q)
  unfolding phase_of zero
  phase_is t h e =
      rw (quantum_is, above_zero q p (omega arith), bins_are, mul-whole (bins n q p small).at q (bins_small n q p small) (omega arith) (bins_pos n q p small) p, e)
      (rem-whole t q h (omega arith) p)

pub whole_phase : (b z : ℤ) → 0 < nat_abs z → nat_abs b + nat_abs z ≤ 2 ^ 52 → Phase b z
whole_phase (pos n) z p small =
    let q = nat_abs z in
    let k = (bins n q p small).at in
    let t = n + k * q in
    let bound = added_below n q p small in
    record {
      at = t % q;
      is = phase_is (pos n) z p small t (omega arith) (add-whole n (k * q) (omega arith) (omega arith));
      below = mod-lt t p;
      quanta = pos (t / q) -ℤ pos k;
      apart = simp ring (diff_eq _ _ _ _ (omega (arith, div-add-mod' t q)));
    }
whole_phase (negsuc m) z p small =
    let n = suc m in
    let q = nat_abs z in
    let k = (bins n q p small).at in
    let t = k * q - n in
    let bound = added_below n q p small in
    let over = added_above n q p small in
    record {
      at = t % q;
      is = phase_is (negsuc m) z p small t (omega arith) (sub-whole m (k * q) (omega arith) (omega arith) over);
      below = mod-lt t p;
      quanta = pos (t / q) -ℤ pos k;
      apart = simp ring (diff_eq _ _ _ _ (omega (arith, div-add-mod' t q)));
    }
