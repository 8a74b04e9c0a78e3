-- To change one row is to set one neighbour, for every count; and one change after another in the same row.
use Rattle.std.specs.Prelude.{ℕ, ◌+◌, min, ◌≡◌, refl, List, ℤ, set}
use Rattle.std.proofs.Common.{arith, sym, ap, ◌∙◌}
use Rattle.model.specs.Peers.{Peer}
use Rattle.peer_table.specs.Rows.{peer_at, peers_of}
use Rattle.peer_table.specs.Inner.Changed.{Changed}
use Rattle.peer_table.specs.Laws.Upto.{upto_set}

pub changed_one : (w w' : List ℕ) (l l' : List ℤ) (i : ℕ) (p : Peer) → Changed w w' l l' i p → (n : ℕ) → peers_of n w' l' ≡ set (peers_of n w l) i p
unfolding peers_of
changed_one w w' l l' i p c n =
    let z : i ≡ 0 + i = omega arith in
    upto_set (peer_at w l) (peer_at w' l') p i 0 (min n 16)
    (λ m ne. c.others m (λ e. ne (e ∙ z)))
    (λ h. ap (peer_at w' l') (sym z) ∙ c.here (omega (arith, h)))

-- a row that is already so
pub unchanged : (w : List ℕ) (l : List ℤ) (i : ℕ) (p : Peer) → peer_at w l i ≡ p → Changed w w l l i p
unchanged w l i p e = record { here = λ _. e; others = λ m ne. refl }

pub changed_then : (w w₁ w₂ : List ℕ) (l l₁ l₂ : List ℤ) (i : ℕ) (p : Peer) (g : Peer → Peer) → Changed w w₁ l l₁ i p → Changed w₁ w₂ l₁ l₂ i (g (peer_at w₁ l₁ i)) → Changed w w₂ l l₂ i (g p)
changed_then w w₁ w₂ l l₁ l₂ i p g a b = record { here = λ h. b.here h ∙ ap g (a.here h); others = λ m ne. b.others m ne ∙ a.others m ne }
