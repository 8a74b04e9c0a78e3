-- A run of stores in a row: what stands there then, and that nothing else is changed.
use Prim.Native.Nat.{ℕ, zero, suc, ◌+◌, ◌*◌, ◌<◌, ◌≤◌}
use native.Mathlib.Omega.{arith}
use Rattle.std.specs.Prelude.{◌≡◌, set}
use Rattle.std.proofs.Math.Path.{refl, ap}
use Rattle.std.proofs.Common.{◌∙◌}
use mathlib.Core.List.{List, [], ◌∷◌}
use Rattle.std.proofs.Math.ListN.{length, get_or, length-set}
use Rattle.std.proofs.Math.Seq.{get_or-set_same, get_or-set_other}
use Rattle.peer_table.specs.Inner.Stored.{fill}
use Rattle.peer_table.specs.Laws.Row.{next_row, same_row, same_place}

module _ {A : Type 0} (at : ℕ) (d : A) where
  else_from : (l vs : List A) (k x : ℕ) → ((j : ℕ) → j < length vs → x ≡ at + (k + j) → ⊥) → get_or (fill l at k vs) x d ≡ get_or l x d
  unfolding fill
  else_from l [] k x ne = refl
  else_from l (v ∷ vs) k x ne =
      else_from (set l (at + k) v) vs (suc k) x (λ j b e. ne (suc j) (omega (arith, b)) (omega (arith, e)))
      ∙ get_or-set_other l (at + k) x v d (λ e. ne 0 (omega arith) (omega (arith, e)))

  there_from : (l vs : List A) (k j : ℕ) → j < length vs → at + (k + length vs) ≤ length l → get_or (fill l at k vs) (at + (k + j)) d ≡ get_or vs j d
  unfolding fill
  there_from l [] k j b h = absurd (omega arith)
  there_from l (v ∷ vs) k zero b h =
      let e : at + (k + 0) ≡ at + k = omega arith in
      ap (λ (x : ℕ). get_or (fill (set l (at + k) v) at (suc k) vs) x d) e
      ∙ else_from (set l (at + k) v) vs (suc k) (at + k) (λ j _ q. omega (arith, q))
      ∙ get_or-set_same l (at + k) v d (omega arith)
  there_from l (v ∷ vs) k (suc j) b h =
      let e : at + (k + suc j) ≡ at + (suc k + j) = omega arith in
      let n : length (set l (at + k) v) ≡ length l = length-set l (at + k) v in
      ap (λ (x : ℕ). get_or (fill (set l (at + k) v) at (suc k) vs) x d) e
      ∙ there_from (set l (at + k) v) vs (suc k) j (omega arith) (omega (arith, n, h))

-- the first places of row i
module _ {A : Type 0} (w i : ℕ) (l vs : List A) (d : A) (short : length vs ≤ w) where
  pub filled : i < 16 → length l ≡ 16 * w → (k : ℕ) → k < length vs → get_or (fill l (i * w) 0 vs) (i * w + k) d ≡ get_or vs k d
  filled h n k b =
      let e : i * w + k ≡ i * w + (0 + k) = omega arith in
      ap (λ (x : ℕ). get_or (fill l (i * w) 0 vs) x d) e ∙ there_from (i * w) d l vs 0 k b (omega (arith, short, n, next_row w i 16 h))

  pub not_filled : (m j : ℕ) → j < w → (m ≡ i → length vs ≤ j) → get_or (fill l (i * w) 0 vs) (m * w + j) d ≡ get_or l (m * w + j) d
  not_filled m j b out =
      else_from (i * w) d l vs 0 (m * w + j)
      (λ k h e.
      let q : m * w + j ≡ i * w + k = omega (arith, e) in
      let g : k < w = omega (arith, h, short) in
      omega (arith, h, out (same_row w m i j k b g q), same_place w m i j k b g q))
