-- At the sizes of the distance rule no sum wraps, and a moved line stands less than one microsecond away.
use Rattle.std.specs.Prelude.{◌*◌, ◌^◌, ◌<◌, ◌≤◌, ◌≡◌, refl, cond, List, ℤ, ◌+ℤ◌, ◌-ℤ◌, ◌*ℤ◌}
use Rattle.std.proofs.Math.Nat.{mul-le-mul}
use Rattle.std.proofs.Common.{arith, ◌∙◌, subst}
use Rattle.std.proofs.Math.IntN.{pos, nat_abs, +ℤ_invr, -ℤ-+ℤ_cancel}
use Rattle.std.specs.Int.Signed.{le_z, quot_z}
use Rattle.signed.specs.Wrap.{wrap64}
use Rattle.signed.specs.Laws.Diff.{by_diff, diff_eq, ring}
use Rattle.signed.specs.Laws.Quotient.{quot_size, quot_bound}
use Rattle.signed.specs.Laws.WrapLaws.{wrap64_wrap64, wrap64_sub-add}
use Rattle.timeline.specs.declared.Timeline.{Timeline}
use Rattle.model.specs.Sums.{add64}
use Rattle.lists.specs.Lists.{best_from}
use Rattle.model.specs.Peers.{timelines_in, origin_of}
use Rattle.model.specs.Engine.{Box, timeline_to_ghost, timeline_to_host}
use Rattle.model.specs.Commit.{max_beat_origin, move_to, above}
use Rattle.lists.specs.Laws.Bools.{by_cond}
use Rattle.lists.specs.Laws.Each.{Each, nil, ◌▸◌}
use Rattle.model.specs.Laws.Distance.Statement.{Small, stands}
use Rattle.model.specs.Laws.Distance.Sizes.{size_add, size_minus, size_mul, unwrap}
use Rattle.model.specs.Laws.Distance.Reads.{low_bits}

-- ---- a line on its way: sent in shared time, read, and held in another box's host time

pub there_and_back : (o : ℤ) (l : Timeline) → timeline_to_ghost o (timeline_to_host o (low_bits l)) ≡ low_bits l
unfolding timeline_to_ghost timeline_to_host low_bits
there_and_back o l = let t = l.time_origin.0 in let e = wrap64_sub-add (wrap64 t) o ∙ wrap64_wrap64 t in
    λ i. record { tempo = (low_bits l).tempo; beat_origin = (low_bits l).beat_origin; time_origin = record { 0 = e i } }

-- the line, and the line that another box comes to hold of it
pub carried : (l : Timeline) (O o b : ℤ) → nat_abs l.tempo.0 ≤ 60_000_000 → nat_abs l.beat_origin.0 ≤ 10 ^ 16 → nat_abs l.time_origin.0 ≤ 10 ^ 18 → Small O → Small o
    → stands (timeline_to_host o (low_bits (timeline_to_ghost O l))) o b ≡ stands l O b
unfolding timeline_to_ghost timeline_to_host low_bits stands
carried l O o b ht hb hs h_o ho =
    let t : ℤ = l.time_origin.0 in
    let e₁ : wrap64 (t +ℤ O) ≡ t +ℤ O = unwrap (t +ℤ O) (omega (arith, size_add t O)) in
    let e₂ : wrap64 (t +ℤ O -ℤ o) ≡ t +ℤ O -ℤ o = unwrap (t +ℤ O -ℤ o) (omega (arith, size_add t O, size_minus (t +ℤ O) o)) in
    rw (e₁, e₁, e₂, unwrap l.tempo.0 (omega arith), unwrap l.beat_origin.0 (omega arith), -ℤ-+ℤ_cancel (t +ℤ O) o)

-- ---- the move of a committed line

-- a line whose origins move by d beats and q microseconds
pub regroup : (d t q to o b bo : ℤ)
    → (pos 1_000_000 *ℤ (to +ℤ o) +ℤ (b -ℤ bo) *ℤ t) -ℤ (pos 1_000_000 *ℤ (to +ℤ q +ℤ o) +ℤ (b -ℤ (bo +ℤ d)) *ℤ t) ≡ d *ℤ t -ℤ pos 1_000_000 *ℤ q
regroup = by_diff _ λ d d'. by_diff _ λ t t'. by_diff _ λ q q'. by_diff _ λ to to'. by_diff _ λ o o'. by_diff _ λ b b'. by_diff _ λ bo bo'.
    simp ring (diff_eq _ _ _ _ (omega arith))

-- numbers that are equal are near
pub equal_near : (x y : ℤ) → x ≡ y → nat_abs (x -ℤ y) < 1_000_000
equal_near x y e = subst (λ (z : ℤ). nat_abs (x -ℤ z) < 1_000_000) e (rw +ℤ_invr (omega arith))

swap : (a b : ℤ) → a +ℤ (b -ℤ a) ≡ b
swap = by_diff _ λ p n. by_diff _ λ q m. simp ring (diff_eq _ _ _ _ (omega arith))

module _ (K : ℤ) (l : Timeline) (h_k : Small K) (hb : Small l.beat_origin.0) (ht : Small l.time_origin.0) (h_t : nat_abs l.tempo.0 ≤ 60_000_000) where
  -- the beats that it moves by, and their worth of time
  shift : ℤ
  shift = K +ℤ pos 1_000_000 -ℤ l.beat_origin.0

  worth : ℤ
  worth = quot_z (shift *ℤ l.tempo.0) (pos 1_000_000)

  shift_size : nat_abs shift ≤ 2_000_000_001_000_000
  unfolding shift
  shift_size = omega (arith, size_add K (pos 1_000_000), size_minus (K +ℤ pos 1_000_000) l.beat_origin.0)

  worth_size : nat_abs worth ≤ 120_000_000_060_000_000
  unfolding worth
  worth_size = let h : nat_abs shift * nat_abs l.tempo.0 ≤ 2_000_000_001_000_000 * 60_000_000 = mul-le-mul shift_size h_t in
      rw (quot_size (shift *ℤ l.tempo.0) 1_000_000, size_mul shift l.tempo.0) (omega arith)

  -- the line moved by exact sums
  shifted : Timeline
  shifted = record { tempo = l.tempo; beat_origin = record { 0 = l.beat_origin.0 +ℤ shift }; time_origin = record { 0 = l.time_origin.0 +ℤ worth } }

  to_known : l.beat_origin.0 +ℤ shift ≡ K +ℤ pos 1_000_000
  unfolding shift
  to_known = swap l.beat_origin.0 (K +ℤ pos 1_000_000)

  move_exact : move_to (add64 K (pos 1_000_000)) l ≡ shifted
  unfolding move_to shifted worth shift
  move_exact =
      let e₁ : wrap64 (K +ℤ pos 1_000_000) ≡ K +ℤ pos 1_000_000 = unwrap (K +ℤ pos 1_000_000) (omega (arith, size_add K (pos 1_000_000))) in
      let e₂ : wrap64 shift ≡ shift = unwrap shift (omega (arith, shift_size)) in
      let e₃ : wrap64 worth ≡ worth = unwrap worth (omega (arith, worth_size)) in
      let e₄ : wrap64 (l.time_origin.0 +ℤ worth) ≡ l.time_origin.0 +ℤ worth = unwrap (l.time_origin.0 +ℤ worth) (omega (arith, size_add l.time_origin.0 worth, worth_size)) in
      rw (e₁, e₂, e₃, e₄, to_known)

  -- what the cut leaves over
  move_near : (O b : ℤ) → nat_abs (stands l O b -ℤ stands shifted O b) < 1_000_000
  unfolding stands shifted worth
  move_near O b = rw (regroup shift l.tempo.0 worth l.time_origin.0 O b l.beat_origin.0) (quot_bound (shift *ℤ l.tempo.0) 1_000_000 (omega arith))

  shifted_carried : (O o b : ℤ) → Small O → Small o → stands (timeline_to_host o (low_bits (timeline_to_ghost O shifted))) o b ≡ stands shifted O b
  unfolding shifted
  shifted_carried O o b h_o ho = carried shifted O o b h_t (omega (arith, size_add l.beat_origin.0 shift, shift_size)) (omega (arith, size_add l.time_origin.0 worth, worth_size)) h_o ho

  -- the asked line, and the line above the known
  pub near_above : (O b : ℤ) → nat_abs (stands l O b -ℤ stands (above K l) O b) < 1_000_000
  unfolding above
  near_above O b =
      by_cond (λ (x : Timeline). nat_abs (stands l O b -ℤ stands x O b) < 1_000_000) (le_z l.beat_origin.0 K) (move_to (add64 K (pos 1_000_000)) l) l
      (λ t. rw move_exact (move_near O b)) (λ t. equal_near (stands l O b) (stands l O b) refl)

  -- the line above the known, and the line that another box comes to hold of it
  pub exact_above : (O o b : ℤ) → Small O → Small o → stands (timeline_to_host o (low_bits (timeline_to_ghost O (above K l)))) o b ≡ stands (above K l) O b
  unfolding above
  exact_above O o b h_o ho =
      by_cond (λ (x : Timeline). stands (timeline_to_host o (low_bits (timeline_to_ghost O x))) o b ≡ stands x O b) (le_z l.beat_origin.0 K) (move_to (add64 K (pos 1_000_000)) l) l
      (λ t. rw move_exact (shifted_carried O o b h_o ho)) (λ t. carried l O o b h_t (omega arith) (omega arith) h_o ho)

-- ---- the largest known beat origin

best_small : (b : Timeline) {ls : List Timeline} → Small (origin_of b) → Each (λ l. Small (origin_of l)) ls → Small (origin_of (best_from origin_of b ls))
unfolding best_from
best_small b h nil = h
best_small b h (◌▸◌ {x = l} k ks) =
    best_small (cond (le_z (origin_of l) (origin_of b)) b l) (by_cond (λ (x : Timeline). Small (origin_of x)) (le_z (origin_of l) (origin_of b)) b l (λ t. h) (λ t. k)) ks

pub known_small : (e : Box) → Small e.state.timeline.beat_origin.0 → Each (λ l. Small l.beat_origin.0) (timelines_in e.session_id e.peers) → Small (max_beat_origin e)
unfolding max_beat_origin
known_small e h k = best_small e.state.timeline h k
