-- A row is copied to another, number by number.
use Rattle.std.specs.Prelude.{ℕ, ◌+◌, ◌*◌, ◌<◌, ◌≤◌, ◌≡◌, refl, Bool, true, false, List, ltb, ℤ, pos, length, get_or, set}
use Rattle.std.proofs.Common.{arith, ap, ◌∙◌, ltb-true, ltb-false, length-set}
use Rattle.peer_table.specs.Inner.Moves.{Moved}
use Rattle.peer_table.specs.Places.{wide}
use Rattle.peer_table.specs.Rows.{peer_at}
use Rattle.peer_table.specs.Inner.Changed.{Changed}
use Rattle.peer_table.specs.Laws.Row.{set_there, set_else, same_peer}

module _ {A : Type 0} (d : A) (w : ℕ) (l : List A) (from to : ℕ) where
  -- k of the row are copied
  pub record Moving (s : List A) (k : ℕ) : Type 0 where
    pub within : k ≤ w
    pub long : length s ≡ 16 * w
    pub there : to < 16 → (j : ℕ) → j < k → get_or s (to * w + j) d ≡ get_or l (from * w + j) d
    pub others : (m j : ℕ) → j < w → (m ≡ to → k ≤ j) → get_or s (m * w + j) d ≡ get_or l (m * w + j) d

  pub moving_start : length l ≡ 16 * w → Moving l 0
  moving_start n = record { within = omega arith; long = n; there = λ _ j b. absurd (omega (arith, b)); others = λ m j b out. refl }

  module _ (s : List A) (k : ℕ) (g : Moving s k) (h : k < w) where
    abbrev s' : List A
    s' = set s (to * w + k) (get_or s (from * w + k) d)

    there_by : (before : Bool) (j : ℕ) → ltb j k ≡ before → to < 16 → j < k + 1 → get_or s' (to * w + j) d ≡ get_or l (from * w + j) d
    there_by true j q b a =
        let c : j < k = ltb-true j k q in
        set_else w s to k (get_or s (from * w + k) d) d h to j (omega (arith, c, h)) (λ _ e. omega (arith, c, e)) ∙ g.there b j c
    there_by false j q b a =
        let e : j ≡ k = omega (arith, a, ltb-false j k q) in
        ap (λ (x : ℕ). get_or s' (to * w + x) d) e
        ∙ set_there w s to k (get_or s (from * w + k) d) d h b g.long
        ∙ g.others from k h (λ _. omega arith)
        ∙ ap (λ (x : ℕ). get_or l (from * w + x) d) (omega (arith, e))

    pub moving_on : Moving s' (k + 1)
    moving_on = record {
      within = omega (arith, h);
      long = length-set s (to * w + k) (get_or s (from * w + k) d) ∙ g.long;
      there = λ b j a. there_by (ltb j k) j refl b a;
      others = λ m j b out. set_else w s to k (get_or s (from * w + k) d) d h m j b (λ e q. omega (arith, q, out e)) ∙ g.others m j b (λ e. omega (arith, out e));
    }

  pub moving_end : (s : List A) (k : ℕ) → Moving s k → w ≤ k → Moved d w l s from to
  moving_end s k g h = record { there = λ b j a. g.there b j (omega (arith, h, a)); others = λ m j ne b. g.others m j b (λ e. absurd (ne e)) }

-- a row of each table
pub both_moved : (w w' : List ℕ) (l l' : List ℤ) (from to : ℕ) → Moved 0 wide.words w w' from to → Moved (pos 0) wide.numbers l l' from to → Changed w w' l l' to (peer_at w l from)
both_moved w w' l l' from to a b = record {
  here = λ h. same_peer w w' l l' from to (a.there h) (b.there h);
  others = λ m ne. same_peer w w' l l' m m (λ k q. a.others m k ne q) (λ k q. b.others m k ne q);
}
