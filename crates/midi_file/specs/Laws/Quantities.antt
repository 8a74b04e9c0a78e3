-- Variable-length quantities: what is written reads back, and what is read is what would be written.
use Rattle.std.specs.Prelude.{ℕ, ◌+◌, ◌-◌, ◌*◌, ◌/◌, ◌%◌, ◌^◌, ◌<◌, ◌≤◌, ◌≡◌, refl, List, [], ◌∷◌, ◌++◌, ltb, eqb, length, take, drop}
use Rattle.std.proofs.Common.{arith, sym, ap, ◌∙◌, lt-ltb, le-ltb, ltb-true, ltb-false, eqb-true, ne_eqb}
use Rattle.std.proofs.lemmas.Bool.{eqb-false}
use Rattle.midi_file.specs.Layout.{vlq}
use Rattle.midi_file.specs.Reading.{spelled, quantity_size, quantity}
use Rattle.midi_file.specs.Laws.Numbers.{pair, Bytes, no_bytes, byte, by_test}

-- ---- by the size

pub vlq_1 : (n : ℕ) → n < 0x80 → vlq n ≡ n ∷ []
unfolding vlq
vlq_1 n h = rw (lt-ltb n 0x80 h)

pub vlq_2 : (n : ℕ) → 0x80 ≤ n → n < 0x4000 → vlq n ≡ (128 + n / 0x80) ∷ n % 128 ∷ []
unfolding vlq
vlq_2 n k h = rw (le-ltb n 0x80 k, lt-ltb n 0x4000 h)

pub vlq_3 : (n : ℕ) → 0x4000 ≤ n → n < 0x20_0000 → vlq n ≡ (128 + n / 0x4000) ∷ (128 + n / 0x80 % 128) ∷ n % 128 ∷ []
unfolding vlq
vlq_3 n k h = rw (le-ltb n 0x80 (omega arith), le-ltb n 0x4000 k, lt-ltb n 0x20_0000 h)

pub vlq_4 : (n : ℕ) → 0x20_0000 ≤ n → vlq n ≡ (128 + n / 0x20_0000) ∷ (128 + n / 0x4000 % 128) ∷ (128 + n / 0x80 % 128) ∷ n % 128 ∷ []
unfolding vlq
vlq_4 n k = rw (le-ltb n 0x80 (omega arith), le-ltb n 0x4000 (omega arith), le-ltb n 0x20_0000 k)

pub size_1 : (a : ℕ) (l : List ℕ) → a < 128 → quantity_size (a ∷ l) ≡ 1
unfolding quantity_size
size_1 a l h = rw (lt-ltb a 128 h)

pub size_2 : (a b : ℕ) (l : List ℕ) → 128 < a → b < 128 → quantity_size (a ∷ b ∷ l) ≡ 2
unfolding quantity_size
size_2 a b l k h = rw (le-ltb a 128 (omega arith), ne_eqb a 128 (omega arith), lt-ltb b 128 h)

pub size_3 : (a b c : ℕ) (l : List ℕ) → 128 < a → 128 ≤ b → c < 128 → quantity_size (a ∷ b ∷ c ∷ l) ≡ 3
unfolding quantity_size
size_3 a b c l k k₁ h = rw (le-ltb a 128 (omega arith), ne_eqb a 128 (omega arith), le-ltb b 128 k₁, lt-ltb c 128 h)

pub size_4 : (a b c d : ℕ) (l : List ℕ) → 128 < a → 128 ≤ b → 128 ≤ c → d < 128 → quantity_size (a ∷ b ∷ c ∷ d ∷ l) ≡ 4
unfolding quantity_size
size_4 a b c d l k k₁ k₂ h = rw (le-ltb a 128 (omega arith), ne_eqb a 128 (omega arith), le-ltb b 128 k₁, le-ltb c 128 k₂, lt-ltb d 128 h)

-- ---- what is read

-- what is in front of l is the quantity n, of k bytes, as it would be written
pub record Spells (l : List ℕ) (n k : ℕ) : Type 0 where
  pub small : n < 2 ^ 28
  pub width : length (vlq n) ≡ k
  pub same : l ≡ vlq n ++ drop k l

-- by its shape
shaped : (l : List ℕ) (n k : ℕ) (bs : List ℕ) → n < 2 ^ 28 → vlq n ≡ bs → length bs ≡ k → l ≡ bs ++ drop k l → Spells l n k
shaped l n k bs h e w s = record { small = h; width = ap length e ∙ w; same = s ∙ ap (λ (t : List ℕ). t ++ drop k l) (sym e) }

pub value : (l : List ℕ) (k : ℕ) → quantity_size l ≡ k → quantity l ≡ spelled (take k l)
unfolding quantity
value l k e = ap (λ (j : ℕ). spelled (take j l)) e

-- as a size that was found
found : (l : List ℕ) (n k : ℕ) → quantity_size l ≡ k → spelled (take k l) ≡ n → Spells l n k → Spells l (quantity l) (quantity_size l)
found l n k e v s = rw (value l k e, e, v) s

read_1 : (a : ℕ) (l : List ℕ) → a < 128 → Spells (a ∷ l) (quantity (a ∷ l)) (quantity_size (a ∷ l))
unfolding spelled
read_1 a l h =
    found (a ∷ l) a 1 (size_1 a l h) (omega arith)
    (shaped (a ∷ l) a 1 (a ∷ []) (omega arith) (vlq_1 a h) refl refl)

read_2 : (a b : ℕ) (l : List ℕ) → 128 < a → a < 256 → b < 128 → Spells (a ∷ b ∷ l) (quantity (a ∷ b ∷ l)) (quantity_size (a ∷ b ∷ l))
unfolding spelled
read_2 a b l k m h =
    let n : ℕ = (a - 128) * 128 + b in
    found (a ∷ b ∷ l) n 2 (size_2 a b l k h) (omega arith)
    (shaped (a ∷ b ∷ l) n 2 ((128 + n / 0x80) ∷ n % 128 ∷ []) (omega arith) (vlq_2 n (omega arith) (omega arith)) refl
    (pair (omega arith) (pair (omega arith) refl)))

read_3 : (a b c : ℕ) (l : List ℕ) → 128 < a → a < 256 → 128 ≤ b → b < 256 → c < 128 → Spells (a ∷ b ∷ c ∷ l) (quantity (a ∷ b ∷ c ∷ l)) (quantity_size (a ∷ b ∷ c ∷ l))
unfolding spelled
read_3 a b c l k m k₁ m₁ h =
    let n : ℕ = (a - 128) * 0x4000 + ((b - 128) * 128 + c) in
    found (a ∷ b ∷ c ∷ l) n 3 (size_3 a b c l k k₁ h) (omega arith)
    (shaped (a ∷ b ∷ c ∷ l) n 3 ((128 + n / 0x4000) ∷ (128 + n / 0x80 % 128) ∷ n % 128 ∷ []) (omega arith) (vlq_3 n (omega arith) (omega arith)) refl
    (pair (omega arith) (pair (omega arith) (pair (omega arith) refl))))

pub low : (a : ℕ) → 128 ≤ a → a < 256 → a % 128 ≡ a - 128
low a h k = omega arith

four : {a b c d a' b' c' d' : ℕ} → a ≡ a' → b ≡ b' → c ≡ c' → d ≡ d' → a * 0x20_0000 + (b * 0x4000 + (c * 128 + (d * 1 + 0))) ≡ a' * 0x20_0000 + (b' * 0x4000 + (c' * 128 + d'))
four e f g h = omega arith

read_4 : (a b c d : ℕ) (l : List ℕ) → 128 < a → a < 256 → 128 ≤ b → b < 256 → 128 ≤ c → c < 256 → d < 128 → Spells (a ∷ b ∷ c ∷ d ∷ l) (quantity (a ∷ b ∷ c ∷ d ∷ l)) (quantity_size (a ∷ b ∷ c ∷ d ∷ l))
unfolding spelled
read_4 a b c d l k m k₁ m₁ k₂ m₂ h =
    let n : ℕ = (a - 128) * 0x20_0000 + ((b - 128) * 0x4000 + ((c - 128) * 128 + d)) in
    found (a ∷ b ∷ c ∷ d ∷ l) n 4 (size_4 a b c d l k k₁ k₂ h) (four (low a (omega arith) m) (low b k₁ m₁) (low c k₂ m₂) (omega arith))
    (shaped (a ∷ b ∷ c ∷ d ∷ l) n 4 ((128 + n / 0x20_0000) ∷ (128 + n / 0x4000 % 128) ∷ (128 + n / 0x80 % 128) ∷ n % 128 ∷ []) (omega arith) (vlq_4 n (omega arith)) refl
    (pair (omega arith) (pair (omega arith) (pair (omega arith) (pair (omega arith) refl)))))

-- ---- what is written

-- in front of anything
pub record Back (n : ℕ) (rest : List ℕ) : Type 0 where
  pub size : quantity_size (vlq n ++ rest) ≡ length (vlq n)
  pub number : quantity (vlq n ++ rest) ≡ n

back : (n k : ℕ) (bs rest : List ℕ) → vlq n ≡ bs → length bs ≡ k → quantity_size (bs ++ rest) ≡ k → spelled (take k (bs ++ rest)) ≡ n → Back n rest
back n k bs rest e w s v =
    record {
      size = ap (λ (t : List ℕ). quantity_size (t ++ rest)) e ∙ s ∙ sym (ap length e ∙ w);
      number = ap (λ (t : List ℕ). quantity (t ++ rest)) e ∙ value (bs ++ rest) k s ∙ v;
    }

pub by_width {ℓ} : {X : Type ℓ} (n : ℕ) → (n < 0x80 → X) → (0x80 ≤ n → n < 0x4000 → X) → (0x4000 ≤ n → n < 0x20_0000 → X) → (0x20_0000 ≤ n → X) → X
by_width n f g h k =
    by_test (ltb n 0x80) (λ a. f (ltb-true _ _ a))
    (λ a. by_test (ltb n 0x4000) (λ b. g (ltb-false _ _ a) (ltb-true _ _ b))
    (λ b. by_test (ltb n 0x20_0000) (λ d. h (ltb-false _ _ b) (ltb-true _ _ d)) (λ d. k (ltb-false _ _ d))))

digits : (n : ℕ) → n / 0x20_0000 * 0x20_0000 + (n / 0x4000 % 128 * 0x4000 + (n / 0x80 % 128 * 128 + n % 128)) ≡ n
digits n =
    let a : n ≡ 128 * (n / 0x80) + n % 128 = omega arith in
    let b : n / 0x80 ≡ 128 * (n / 0x4000) + n / 0x80 % 128 = omega arith in
    let c : n / 0x4000 ≡ 128 * (n / 0x20_0000) + n / 0x4000 % 128 = omega arith in
    sum n (n / 0x80) (n / 0x4000) (n / 0x20_0000) (n % 128) (n / 0x80 % 128) (n / 0x4000 % 128) a b c
  where
    sum : (n q₁ q₂ q₃ r₁ r₂ r₃ : ℕ) → n ≡ 128 * q₁ + r₁ → q₁ ≡ 128 * q₂ + r₂ → q₂ ≡ 128 * q₃ + r₃ → q₃ * 0x20_0000 + (r₃ * 0x4000 + (r₂ * 128 + r₁)) ≡ n
    sum n q₁ q₂ q₃ r₁ r₂ r₃ a b c = omega arith

above : (x : ℕ) → x < 128 → (128 + x) % 128 ≡ x
above x h = omega arith

pub written_back : (n : ℕ) (rest : List ℕ) → n < 2 ^ 28 → Back n rest
unfolding spelled
written_back n rest h =
    by_width n
    (λ a. back n 1 (n ∷ []) rest (vlq_1 n a) refl (size_1 n rest a) (omega arith))
    (λ a b. back n 2 _ rest (vlq_2 n a b) refl (size_2 _ _ rest (omega arith) (omega arith)) (omega arith))
    (λ a b. back n 3 _ rest (vlq_3 n a b) refl (size_3 _ _ _ rest (omega arith) (omega arith) (omega arith)) (omega arith))
    (λ a. back n 4 _ rest (vlq_4 n a) refl (size_4 _ _ _ _ rest (omega arith) (omega arith) (omega arith) (omega arith))
    (four (above (n / 0x20_0000) (omega arith)) (above (n / 0x4000 % 128) (omega arith)) (above (n / 0x80 % 128) (omega arith)) (omega arith) ∙ digits n))

-- ---- any bytes

abbrev Front : List ℕ → Type 0
Front l = 0 < quantity_size l → Spells l (quantity l) (quantity_size l)

-- where there is no quantity
empty : (l : List ℕ) → quantity_size l ≡ 0 → Front l
empty l e h = let z : ⊥ = omega arith in absurd z

zero_digit : (a : ℕ) (l : List ℕ) → a ≡ 128 → quantity_size (a ∷ l) ≡ 0
unfolding quantity_size
zero_digit a l e = rw e

cut_1 : (a : ℕ) → 128 < a → quantity_size (a ∷ []) ≡ 0
unfolding quantity_size
cut_1 a k = rw (le-ltb a 128 (omega arith), ne_eqb a 128 (omega arith))

cut_2 : (a b : ℕ) → 128 < a → 128 ≤ b → quantity_size (a ∷ b ∷ []) ≡ 0
unfolding quantity_size
cut_2 a b k k₁ = rw (le-ltb a 128 (omega arith), ne_eqb a 128 (omega arith), le-ltb b 128 k₁)

cut_3 : (a b c : ℕ) → 128 < a → 128 ≤ b → 128 ≤ c → quantity_size (a ∷ b ∷ c ∷ []) ≡ 0
unfolding quantity_size
cut_3 a b c k k₁ k₂ = rw (le-ltb a 128 (omega arith), ne_eqb a 128 (omega arith), le-ltb b 128 k₁, le-ltb c 128 k₂)

fifth : (a b c d : ℕ) (l : List ℕ) → 128 < a → 128 ≤ b → 128 ≤ c → 128 ≤ d → quantity_size (a ∷ b ∷ c ∷ d ∷ l) ≡ 0
unfolding quantity_size
fifth a b c d l k k₁ k₂ k₃ = rw (le-ltb a 128 (omega arith), ne_eqb a 128 (omega arith), le-ltb b 128 k₁, le-ltb c 128 k₂, le-ltb d 128 k₃)

from_4 : (a b c : ℕ) {l : List ℕ} → 128 < a → a < 256 → 128 ≤ b → b < 256 → 128 ≤ c → c < 256 → Bytes l → Front (a ∷ b ∷ c ∷ l)
from_4 a b c k m k₁ m₁ k₂ m₂ no_bytes = empty _ (cut_3 a b c k k₁ k₂)
from_4 a b c k m k₁ m₁ k₂ m₂ (byte {b = d} {l} m₃ r) =
    by_test (ltb d 128)
    (λ t h. read_4 a b c d l k m k₁ m₁ k₂ m₂ (ltb-true _ _ t))
    (λ t. empty _ (fifth a b c d l k k₁ k₂ (ltb-false _ _ t)))

from_3 : (a b : ℕ) {l : List ℕ} → 128 < a → a < 256 → 128 ≤ b → b < 256 → Bytes l → Front (a ∷ b ∷ l)
from_3 a b k m k₁ m₁ no_bytes = empty _ (cut_2 a b k k₁)
from_3 a b k m k₁ m₁ (byte {b = c} {l} m₂ r) =
    by_test (ltb c 128)
    (λ t h. read_3 a b c l k m k₁ m₁ (ltb-true _ _ t))
    (λ t. from_4 a b c k m k₁ m₁ (ltb-false _ _ t) m₂ r)

from_2 : (a : ℕ) {l : List ℕ} → 128 < a → a < 256 → Bytes l → Front (a ∷ l)
from_2 a k m no_bytes = empty _ (cut_1 a k)
from_2 a k m (byte {b} {l} m₁ r) =
    by_test (ltb b 128)
    (λ t h. read_2 a b l k m (ltb-true _ _ t))
    (λ t. from_3 a b k m (ltb-false _ _ t) m₁ r)

cut_0 : quantity_size [] ≡ 0
unfolding quantity_size
cut_0 = refl

pub read_front : {l : List ℕ} → Bytes l → Front l
read_front no_bytes = empty _ cut_0
read_front (byte {b = a} {l} m r) =
    by_test (ltb a 128)
    (λ t h. read_1 a l (ltb-true _ _ t))
    (λ t. by_test (eqb a 128)
    (λ u. empty _ (zero_digit a l (eqb-true _ _ u)))
    (λ u. let k : 128 ≤ a = ltb-false _ _ t in
    let n : ¬ (a ≡ 128) = eqb-false _ _ u in
    from_2 a (omega arith) m r))

-- ---- one to four bytes

pub width_pos : (n : ℕ) → 0 < length (vlq n)
width_pos n =
    by_width n
    (λ a. omega (arith, ap length (vlq_1 n a)))
    (λ a b. omega (arith, ap length (vlq_2 n a b)))
    (λ a b. omega (arith, ap length (vlq_3 n a b)))
    (λ a. omega (arith, ap length (vlq_4 n a)))

pub width_most : (n : ℕ) → length (vlq n) ≤ 4
width_most n =
    by_width n
    (λ a. omega (arith, ap length (vlq_1 n a)))
    (λ a b. omega (arith, ap length (vlq_2 n a b)))
    (λ a b. omega (arith, ap length (vlq_3 n a b)))
    (λ a. omega (arith, ap length (vlq_4 n a)))
