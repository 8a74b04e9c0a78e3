-- What the code finds by single bytes is what the definitions say.
use Rattle.std.specs.Prelude.{ℕ, ◌+◌, ◌-◌, ◌*◌, ◌%◌, ◌<◌, ◌≤◌, ◌≡◌, List, [], ◌∷◌, take, get_or, Option, Some, None}
use Rattle.std.proofs.Common.{arith, sym, ◌∙◌, lt-ltb, le-ltb, ne_eqb}
use Rattle.midi_file.specs.Reading.{spelled, quantity_size}
use Rattle.midi_file.specs.Laws.Quantities.{value, low, size_1, size_2, size_3, size_4}
use Rattle.midi_reader.specs.declared.vlq.Quantity.{Quantity}
use Rattle.midi_reader.specs.Steps.{quantity_found}

abbrev Spelled : ℕ → ℕ → Option Quantity
Spelled n k = Some (record { value = n; size = k })

found_as : (l : List ℕ) (n k : ℕ) → quantity_size l ≡ k → 0 < k → spelled (take k l) ≡ n → Spelled n k ≡ quantity_found l
unfolding quantity_found
found_as l n k e h v = rw (value l k e, e, lt-ltb 0 k h, v)

nothing_as : (l : List ℕ) → quantity_size l ≡ 0 → None ≡ quantity_found l
unfolding quantity_found
nothing_as l e = rw e

pub found_1 : (l : List ℕ) (a : ℕ) → a ≡ get_or l 0 255 → a < 128 → Spelled a 1 ≡ quantity_found l
unfolding spelled
found_1 [] a e h = absurd (omega arith)
found_1 (x ∷ l) a e h = found_as (x ∷ l) a 1 (size_1 x l (omega arith)) (omega arith) (omega arith)

pub found_2 : (l : List ℕ) (a b : ℕ) → a ≡ get_or l 0 255 → b ≡ get_or l 1 255 → 128 < a → a < 256 → b < 128 → Spelled ((a - 128) * 128 + b) 2 ≡ quantity_found l
unfolding spelled
found_2 [] a b e f k m h = absurd (omega arith)
found_2 (x ∷ []) a b e f k m h = absurd (omega arith)
found_2 (x ∷ y ∷ l) a b e f k m h =
    found_as (x ∷ y ∷ l) _ 2 (size_2 x y l (omega arith) (omega arith)) (omega arith) (omega arith)

pub found_3 : (l : List ℕ) (a b c : ℕ) → a ≡ get_or l 0 255 → b ≡ get_or l 1 255 → c ≡ get_or l 2 255 → 128 < a → a < 256 → 128 ≤ b → b < 256 → c < 128 → Spelled (((a - 128) * 128 + (b - 128)) * 128 + c) 3 ≡ quantity_found l
unfolding spelled
found_3 [] a b c e f g k m k₁ m₁ h = absurd (omega arith)
found_3 (x ∷ []) a b c e f g k m k₁ m₁ h = absurd (omega arith)
found_3 (x ∷ y ∷ []) a b c e f g k m k₁ m₁ h = absurd (omega arith)
found_3 (x ∷ y ∷ z ∷ l) a b c e f g k m k₁ m₁ h =
    found_as (x ∷ y ∷ z ∷ l) _ 3 (size_3 x y z l (omega arith) (omega arith) (omega arith)) (omega arith)
    (sum x y z a b c (low x (omega arith) (omega arith)) (low y (omega arith) (omega arith)) e f (omega arith))
  where
    sum : (x y z a b c : ℕ) → x % 128 ≡ x - 128 → y % 128 ≡ y - 128 → a ≡ x → b ≡ y → z % 128 ≡ c → x % 128 * 16384 + (y % 128 * 128 + (z % 128 * 1 + 0)) ≡ ((a - 128) * 128 + (b - 128)) * 128 + c
    sum x y z a b c p q e f g = rw (p, q, g, e, f) (omega arith)

pub found_4 : (l : List ℕ) (a b c d : ℕ) → a ≡ get_or l 0 255 → b ≡ get_or l 1 255 → c ≡ get_or l 2 255 → d ≡ get_or l 3 255 → 128 < a → a < 256 → 128 ≤ b → b < 256 → 128 ≤ c → c < 256 → d < 128 → Spelled ((((a - 128) * 128 + (b - 128)) * 128 + (c - 128)) * 128 + d) 4 ≡ quantity_found l
unfolding spelled
found_4 [] a b c d e f g i k m k₁ m₁ k₂ m₂ h = absurd (omega arith)
found_4 (x ∷ []) a b c d e f g i k m k₁ m₁ k₂ m₂ h = absurd (omega arith)
found_4 (x ∷ y ∷ []) a b c d e f g i k m k₁ m₁ k₂ m₂ h = absurd (omega arith)
found_4 (x ∷ y ∷ z ∷ []) a b c d e f g i k m k₁ m₁ k₂ m₂ h = absurd (omega arith)
found_4 (x ∷ y ∷ z ∷ w ∷ l) a b c d e f g i k m k₁ m₁ k₂ m₂ h =
    found_as (x ∷ y ∷ z ∷ w ∷ l) _ 4 (size_4 x y z w l (omega arith) (omega arith) (omega arith) (omega arith)) (omega arith)
    (sum x y z w a b c d (low x (omega arith) (omega arith)) (low y (omega arith) (omega arith)) (low z (omega arith) (omega arith)) e f g (omega arith))
  where
    sum : (x y z w a b c d : ℕ) → x % 128 ≡ x - 128 → y % 128 ≡ y - 128 → z % 128 ≡ z - 128 → a ≡ x → b ≡ y → c ≡ z → w % 128 ≡ d → x % 128 * 2097152 + (y % 128 * 16384 + (z % 128 * 128 + (w % 128 * 1 + 0))) ≡ (((a - 128) * 128 + (b - 128)) * 128 + (c - 128)) * 128 + d
    sum x y z w a b c d p q r e f g i = rw (p, q, r, i, e, f, g) (omega arith)

pub nothing_1 : (l : List ℕ) (a : ℕ) → a ≡ get_or l 0 255 → a ≡ 128 → None ≡ quantity_found l
unfolding quantity_size
nothing_1 l a e h = let k : get_or l 0 255 ≡ 128 = sym e ∙ h in nothing_as l (rw k)

pub nothing_5 : (l : List ℕ) (a b c d : ℕ) → a ≡ get_or l 0 255 → b ≡ get_or l 1 255 → c ≡ get_or l 2 255 → d ≡ get_or l 3 255 → 128 < a → 128 ≤ b → 128 ≤ c → 128 ≤ d → None ≡ quantity_found l
unfolding quantity_size
nothing_5 l a b c d e f g i k k₁ k₂ k₃ =
    nothing_as l (rw (← e, ← f, ← g, ← i, le-ltb a 128 (omega arith), ne_eqb a 128 (omega arith), le-ltb b 128 k₁, le-ltb c 128 k₂, le-ltb d 128 k₃))
