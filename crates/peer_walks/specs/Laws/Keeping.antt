-- Those that stay move down to the front.
use Rattle.std.specs.Prelude.{ℕ, ◌+◌, ◌-◌, ◌<◌, ◌≤◌, ◌≡◌, Bool, true, false}
use native.Mathlib.Omega.{arith}
use Rattle.std.proofs.Math.Path.{sym, ap}
use Rattle.std.proofs.Common.{ap₂, ◌∙◌}
use mathlib.Core.List.{List, [], ◌∷◌, ◌++◌, append-nil}
use Rattle.std.proofs.Math.Seq.{append_snoc}
use Rattle.lists.specs.Lists.{keep}
use Rattle.peer_table.specs.Rows.{upto}
use Rattle.peer_table.specs.Laws.Upto.{none_left, stay, go, upto_same, upto_snoc}

module _ {A : Type 0} (t : A → Bool) where
  -- of n places m are kept, what is left starts at i, and both make g
  pub record Keeping (n : ℕ) (g : List A) (f : ℕ → A) (m i : ℕ) : Type 0 where
    pub within : i ≤ n
    pub behind : m ≤ i
    pub makes : upto f 0 m ++ keep t (upto f i (n - i)) ≡ g

  pub keeping_start : (n : ℕ) (f : ℕ → A) → Keeping n (keep t (upto f 0 n)) f 0 0
  unfolding upto
  keeping_start n f =
      let e : n - 0 ≡ n = omega arith in
      record { within = omega arith; behind = omega arith; makes = ap (λ (k : ℕ). keep t (upto f 0 k)) e }

  module _ (n : ℕ) (g : List A) (f : ℕ → A) (m i : ℕ) (k : Keeping n g f m i) where
    pub keeping_in : (f' : ℕ → A) → i < n → t (f i) ≡ true → f' m ≡ f i → ((j : ℕ) → (j ≡ m → ⊥) → f' j ≡ f j) → Keeping n g f' (m + 1) (i + 1)
    keeping_in f' h e there same = record {
      within = omega arith;
      behind = omega (arith, k.behind);
      makes = ap₂ (λ (xs ys : List A). xs ++ keep t ys)
          (upto_snoc f' m ∙ ap₂ (λ (xs : List A) (x : A). xs ++ (x ∷ [])) (upto_same f f' 0 m (λ j _ b. same j (λ q. omega (arith, b, q)))) there)
          (upto_same f f' (i + 1) (n - (i + 1)) (λ j b _. same j (λ q. omega (arith, b, q, k.behind))))
          ∙ append_snoc (upto f 0 m) (f i) (keep t (upto f (i + 1) (n - (i + 1))))
          ∙ ap (λ (ys : List A). upto f 0 m ++ ys) (sym (stay f i n h t e))
          ∙ k.makes;
    }

    pub keeping_out : i < n → t (f i) ≡ false → Keeping n g f m (i + 1)
    keeping_out h e = record { within = omega arith; behind = omega (arith, k.behind); makes = ap (λ (ys : List A). upto f 0 m ++ ys) (sym (go f i n h t e)) ∙ k.makes }

    pub keeping_end : n ≤ i → upto f 0 m ≡ g
    unfolding keep
    keeping_end h = sym (append-nil (upto f 0 m)) ∙ ap (λ (ys : List A). upto f 0 m ++ keep t ys) (sym (none_left f i n h)) ∙ k.makes
