-- The scan, an entry at a time.
use Rattle.std.specs.Prelude.{◌≡◌, refl, Bool, true, false, List, [], ◌∷◌, ℕ, zero, suc, ◌-◌, ◌≤◌, ◌<◌, leb, length}
use Rattle.std.proofs.Common.{sym, ap, ◌∙◌, arith, leb-true, length-drop}
use Rattle.signed.specs.Laws.Tests.{both}
use Rattle.wire.specs.Parse.{Entry, size_of, has_entry, first_entry, after_entry, scan, entries}

-- ---- how long what follows an entry is

pub entry_head : (bs : List ℕ) → has_entry bs ≡ true → 8 ≤ length bs
unfolding has_entry
entry_head bs e = leb-true 8 (length bs) (both (leb 8 (length bs)) (leb (size_of bs) (length bs - 8)) e).0

pub entry_value : (bs : List ℕ) → has_entry bs ≡ true → size_of bs ≤ length bs - 8
unfolding has_entry
entry_value bs e = leb-true (size_of bs) (length bs - 8) (both (leb 8 (length bs)) (leb (size_of bs) (length bs - 8)) e).1

length-after : (bs : List ℕ) → length (after_entry bs) ≡ length bs - 8 - size_of bs
unfolding after_entry
length-after bs = simp length-drop

-- ---- one step

by_entry {ℓ} : {X : Type ℓ} (bs : List ℕ) → (has_entry bs ≡ true → X) → (has_entry bs ≡ false → X) → X
by_entry {X = X} bs f g = go (has_entry bs) f g
  where
    go : (t : Bool) → (t ≡ true → X) → (t ≡ false → X) → X
    go true f g = f refl
    go false f g = g refl

scan_yes : (n : ℕ) (bs : List ℕ) → has_entry bs ≡ true → scan (suc n) bs ≡ first_entry bs ∷ scan n (after_entry bs)
unfolding scan
scan_yes n bs e = rw (e, scan)

scan_no : (n : ℕ) (bs : List ℕ) → has_entry bs ≡ false → scan n bs ≡ []
unfolding scan
scan_no zero bs e = refl
scan_no (suc n) bs e = rw (e, scan)

shorter : (bs : List ℕ) → has_entry bs ≡ true → length (after_entry bs) < length bs
shorter bs e = omega (arith, length-after bs, entry_head bs e)

-- a bound that reaches plays no part
enough : (n m : ℕ) (bs : List ℕ) → length bs ≤ n → length bs ≤ m → scan n bs ≡ scan m bs
enough zero m bs h k =
    by_entry bs
    (λ e. let z : ⊥ = omega (arith, entry_head bs e) in absurd z)
    (λ e. scan_no 0 bs e ∙ sym (scan_no m bs e))
enough (suc n) zero bs h k =
    by_entry bs
    (λ e. let z : ⊥ = omega (arith, entry_head bs e) in absurd z)
    (λ e. scan_no (suc n) bs e ∙ sym (scan_no 0 bs e))
enough (suc n) (suc m) bs h k =
    by_entry bs
    (λ e. scan_yes n bs e
    ∙ ap (λ (es : List Entry). first_entry bs ∷ es) (enough n m (after_entry bs) (omega (arith, shorter bs e)) (omega (arith, shorter bs e)))
    ∙ sym (scan_yes m bs e))
    (λ e. scan_no (suc n) bs e ∙ sym (scan_no (suc m) bs e))

pub entries_end : (bs : List ℕ) → has_entry bs ≡ false → entries bs ≡ []
unfolding entries
entries_end bs e = scan_no (length bs) bs e

pub entries_step : (bs : List ℕ) → has_entry bs ≡ true → entries bs ≡ first_entry bs ∷ entries (after_entry bs)
unfolding entries
entries_step bs e =
    enough (length bs) (suc (length bs)) bs (omega arith) (omega arith)
    ∙ scan_yes (length bs) bs e
    ∙ ap (λ (es : List Entry). first_entry bs ∷ es) (enough (length bs) (length (after_entry bs)) (after_entry bs) (omega (arith, shorter bs e)) (omega arith))
