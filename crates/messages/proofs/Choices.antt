-- Samples at one place that change where a test holds, and stay otherwise.
use Rattle.std.specs.Prelude.{ℕ, Bool, true, false, cond, List, ℤ, ◌≡◌}
use Rattle.std.proofs.Common.{refl, sym, subst}
use Rattle.model.specs.Peers.{Samples}
use Rattle.peer_table.specs.Rows.{peer_at}
use Rattle.peer_table.specs.Inner.Changed.{with_samples, Changed}
use Rattle.peer_table.specs.Laws.Changed.{unchanged}

module _ (b : Bool) (g : Samples → Samples) (w w₁ w₂ : List ℕ) (l l₁ l₂ : List ℤ) (i : ℕ) (words : w₂ ≡ w₁) (numbers : l₂ ≡ l₁) where
  -- what is to be shown of either
  abbrev pub ChangedIf : Type 0
  ChangedIf = Changed w w₂ l l₂ i (with_samples (λ s. cond b (g s) s) (peer_at w l i))

  at_new : Changed w w₁ l l₁ i (with_samples (λ s. cond b (g s) s) (peer_at w l i)) → ChangedIf
  at_new h =
      subst (λ (v : List ℕ). Changed w v l l₂ i (with_samples (λ s. cond b (g s) s) (peer_at w l i))) (sym words)
      (subst (λ (k : List ℤ). Changed w w₁ l k i (with_samples (λ s. cond b (g s) s) (peer_at w l i))) (sym numbers) h)

  pub change : b ≡ true → Changed w w₁ l l₁ i (with_samples g (peer_at w l i)) → ChangedIf
  change e h = at_new (subst (λ (x : Bool). Changed w w₁ l l₁ i (with_samples (λ s. cond x (g s) s) (peer_at w l i))) (sym e) h)

pub stay : (b : Bool) (g : Samples → Samples) (w w₂ : List ℕ) (l l₂ : List ℤ) (i : ℕ) (words : w₂ ≡ w) (numbers : l₂ ≡ l) → b ≡ false → ChangedIf b g w w w₂ l l l₂ i words numbers
unfolding with_samples
stay b g w w₂ l l₂ i words numbers e =
    at_new b g w w w₂ l l l₂ i words numbers (subst (λ (x : Bool). Changed w w l l i (with_samples (λ s. cond x (g s) s) (peer_at w l i))) (sym e) (unchanged w l i _ refl))
