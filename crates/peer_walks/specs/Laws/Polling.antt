-- Each of n places is changed where it stands, and of some a value is noted in a list.
use Rattle.std.specs.Prelude.{ℕ, ◌+◌, ◌-◌, ◌<◌, ◌≤◌, ◌≡◌, Bool, true, false, length, take, set}
use Rattle.std.proofs.Common.{add-one, ap₂, ◌∙◌, length-set, take-suc-set}
use native.Mathlib.Omega.{arith}
use Rattle.std.proofs.Math.Path.{sym, ap}
use mathlib.Core.List.{List, [], ◌∷◌, ◌++◌, map, append-nil}
use Rattle.std.proofs.Math.Seq.{append_snoc}
use Rattle.lists.specs.Lists.{keep}
use Rattle.peer_table.specs.Rows.{upto}
use Rattle.peer_table.specs.Laws.Upto.{none_left, rest, stay, go, upto_same, upto_snoc}

module _ {B C : Type 0} (g : B → B) (t : B → Bool) (v : B → C) where
  -- i are changed and k values are noted; with what is left these make `all` and `notes`
  pub record Polling (n : ℕ) (all : List B) (notes : List C) (f : ℕ → B) (a : List C) (k i : ℕ) : Type 0 where
    pub within : i ≤ n
    pub behind : k ≤ i
    pub space : n ≤ length a
    pub makes : upto f 0 i ++ map g (upto f i (n - i)) ≡ all
    pub notes_all : take k a ++ map v (keep t (upto f i (n - i))) ≡ notes

  module _ (n : ℕ) (all : List B) (notes : List C) (f : ℕ → B) (a : List C) (k i : ℕ) (p : Polling n all notes f a k i) where
    module _ (f' : ℕ → B) (h : i < n) (same : (m : ℕ) → (m ≡ i → ⊥) → f' m ≡ f m) (here : f' i ≡ g (f i)) where
      left : upto f' (i + 1) (n - (i + 1)) ≡ upto f (i + 1) (n - (i + 1))
      left = upto_same f f' (i + 1) (n - (i + 1)) (λ m b _. same m (λ e. omega (arith, b, e)))

      built : upto f' 0 (i + 1) ≡ upto f 0 i ++ (g (f i) ∷ [])
      built = upto_snoc f' i ∙ ap₂ (λ (xs : List B) (x : B). xs ++ (x ∷ [])) (upto_same f f' 0 i (λ m _ b. same m (λ e. omega (arith, b, e)))) here

      makes_more : upto f' 0 (i + 1) ++ map g (upto f' (i + 1) (n - (i + 1))) ≡ all
      makes_more =
          ap₂ (λ (xs ys : List B). xs ++ map g ys) built left
          ∙ append_snoc (upto f 0 i) (g (f i)) (map g (upto f (i + 1) (n - (i + 1))))
          ∙ ap (λ (ys : List B). upto f 0 i ++ map g ys) (sym (rest f i n h))
          ∙ p.makes

      -- it is changed, and nothing is noted
      pub changed : t (f i) ≡ false → Polling n all notes f' a k (i + 1)
      changed s = record {
        within = omega arith;
        behind = omega (arith, p.behind);
        space = p.space;
        makes = makes_more;
        notes_all = ap (λ (ys : List B). take k a ++ map v (keep t ys)) left ∙ ap (λ (ys : List B). take k a ++ map v ys) (sym (go f i n h t s)) ∙ p.notes_all;
      }

      -- it is changed, and its value is noted
      pub noted : (x : C) → x ≡ v (f i) → t (f i) ≡ true → Polling n all notes f' (set a k x) (k + 1) (i + 1)
      noted x e s =
          let ys = map v (keep t (upto f (i + 1) (n - (i + 1)))) in
          record {
            within = omega arith;
            behind = omega (arith, p.behind);
            space = simp length-set p.space;
            makes = makes_more;
            notes_all = ap₂ (λ (xs : List C) (zs : List B). xs ++ map v (keep t zs)) (ap (λ (m : ℕ). take m (set a k x)) (add-one k) ∙ take-suc-set a k x (omega (arith, p.space, p.behind))) left
                ∙ append_snoc (take k a) x ys
                ∙ ap (λ (y : C). take k a ++ (y ∷ ys)) e
                ∙ ap (λ (zs : List B). take k a ++ map v zs) (sym (stay f i n h t s))
                ∙ p.notes_all;
          }

    pub polling_end : n ≤ i → (upto f 0 n ≡ all) × (take k a ≡ notes)
    unfolding keep
    polling_end h =
        let e : n ≡ i = omega (arith, p.within) in
        let none = none_left f i n h in (
          ap (upto f 0) e ∙ sym (append-nil (upto f 0 i)) ∙ ap (λ (ys : List B). upto f 0 i ++ map g ys) (sym none) ∙ p.makes,
          sym (append-nil (take k a)) ∙ ap (λ (ys : List B). take k a ++ map v (keep t ys)) (sym none) ∙ p.notes_all,
        )

  pub polling_start : (n : ℕ) (f : ℕ → B) (a : List C) → n ≤ length a → Polling n (map g (upto f 0 n)) (map v (keep t (upto f 0 n))) f a 0 0
  unfolding upto
  polling_start n f a h =
      let e : n - 0 ≡ n = omega arith in
      record { within = omega arith; behind = omega arith; space = h; makes = ap (λ (m : ℕ). map g (upto f 0 m)) e; notes_all = ap (λ (m : ℕ). map v (keep t (upto f 0 m))) e }
