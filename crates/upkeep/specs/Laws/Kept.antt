-- Whether all are kept: exactly then the kept list is as long as the list.
use Rattle.std.specs.Prelude.{suc, ◌≤◌, ◌≡◌, Bool, true, false, cond, eqb, length}
use native.Mathlib.Omega.{arith}
use Rattle.std.proofs.Common.{ap, ne_eqb}
use Rattle.std.proofs.Math.Bool.{not}
use mathlib.Core.List.{List, [], ◌∷◌}
use Rattle.std.proofs.Math.Dec.{eqb-suc-suc}
use Rattle.lists.specs.Lists.{keep}

module _ {A : Type 0} (t : A → Bool) where
  -- whether one goes
  abbrev pub loses : List A → Bool
  loses l = not (eqb (length (keep t l)) (length l))

  at_most_by : (b : Bool) (x : A) (xs ks : List A) → length ks ≤ length xs → length (cond b (x ∷ ks) ks) ≤ suc (length xs)
  at_most_by true x xs ks h = omega arith
  at_most_by false x xs ks h = omega arith

  at_most : (l : List A) → length (keep t l) ≤ length l
  unfolding keep
  at_most [] = omega arith
  at_most (x ∷ xs) = at_most_by (t x) x xs (keep t xs) (at_most xs)

  -- the first is kept, and the first goes
  module _ (x : A) (xs : List A) where
    pub loses_later : t x ≡ true → loses (x ∷ xs) ≡ loses xs
    unfolding keep
    loses_later e = rw e (ap not (eqb-suc-suc (length (keep t xs)) (length xs)))

    pub loses_first : t x ≡ false → loses (x ∷ xs) ≡ true
    unfolding keep
    loses_first e = rw e (ap not (ne_eqb (length (keep t xs)) (suc (length xs)) (λ q. omega (arith, q, at_most xs))))
