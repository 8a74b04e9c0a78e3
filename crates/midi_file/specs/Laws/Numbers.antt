-- Numbers in lists of bytes, read and written.
use Rattle.std.specs.Prelude.{ℕ, zero, suc, ◌+◌, ◌*◌, ◌/◌, ◌%◌, ◌^◌, ◌<◌, ◌≤◌, Bool, true, false, ◌≡◌, refl, List, [], ◌∷◌, ◌++◌, length, take, drop, get_or}
use Rattle.std.proofs.Math.Nat.{pow-succ', mul-add-div_right, div-eq_of_lt}
use Rattle.std.proofs.Common.{mul-le-mul_right, arith, sym, ap, ap₂, ◌∙◌, length-append, length-take, length-drop, take-append-drop, take_at, drop_at, drop-drop}
use Rattle.big_endian.specs.Bytes.{bytes, number, number_at}
use Rattle.big_endian.specs.Laws.Numbers.{length-bytes, number_bytes, bytes_low, power_pos}
use Rattle.big_endian.specs.Laws.Puts.{number_at_within, number_at_past, by_bound}

-- every element is a byte
pub data Bytes : List ℕ → Type 0 where
  no_bytes : Bytes []
  byte : {b : ℕ} {l : List ℕ} → b < 256 → Bytes l → Bytes (b ∷ l)

pub all_bytes : (l : List ℕ) → ((i : ℕ) → get_or l i 0 < 256) → Bytes l
all_bytes [] f = no_bytes
all_bytes (b ∷ l) f = byte (f 0) (all_bytes l (λ i. f (suc i)))

pub take-bytes : (n : ℕ) {l : List ℕ} → Bytes l → Bytes (take n l)
take-bytes zero h = no_bytes
take-bytes (suc n) no_bytes = no_bytes
take-bytes (suc n) (byte h r) = byte h (take-bytes n r)

pub drop-bytes : (n : ℕ) {l : List ℕ} → Bytes l → Bytes (drop n l)
drop-bytes zero h = h
drop-bytes (suc n) no_bytes = no_bytes
drop-bytes (suc n) (byte h r) = drop-bytes n r

-- the number of bytes is below the power of their count
number_below : {l : List ℕ} → Bytes l → number l < 256 ^ length l
unfolding number
number_below no_bytes = omega arith
number_below (byte {b} {l} h r) =
    let k : b * 256 ^ length l ≤ 255 * 256 ^ length l = mul-le-mul_right (256 ^ length l) (omega arith) in
    omega (arith, k, number_below r, pow-succ' 256 (length l))

-- and spells them
bytes_number : {l : List ℕ} → Bytes l → bytes (length l) (number l) ≡ l
unfolding bytes number
bytes_number no_bytes = refl
bytes_number (byte {b} {l} h r) =
    let p : ℕ = 256 ^ length l in
    let d : (b * p + number l) / p ≡ b + number l / p = mul-add-div_right (power_pos (length l)) b (number l) in
    let z : number l / p ≡ 0 = div-eq_of_lt (number_below r) in
    let e : (b * p + number l) / p % 256 ≡ b = ap (λ (k : ℕ). k % 256) d ∙ omega arith in
    ap₂ (λ (x : ℕ) (xs : List ℕ). x ∷ xs) e (bytes_low (length l) b (number l) ∙ bytes_number r)

-- a number that was read and is not 0 stands there
pub field : (w at x : ℕ) {l : List ℕ} → Bytes l → number_at w at l ≡ x → 0 < x → drop at l ≡ bytes w x ++ drop (at + w) l
field w at x {l} b e h =
    by_bound (at + w) (length l)
    (λ k. let t : List ℕ = take w (drop at l) in
    let n : length t ≡ w = simp (length-take, length-drop) (omega arith) in
    let v : number t ≡ x = sym (number_at_within w at l k) ∙ e in
    sym (take-append-drop w (drop at l))
    ∙ ap₂ (λ (s r : List ℕ). s ++ r)
    (sym (bytes_number (take-bytes w (drop-bytes at b))) ∙ ap₂ bytes n v)
    (drop-drop w at l))
    (λ k. let z : ⊥ = omega (arith, number_at_past w at l k) in absurd z)

-- a number that stands behind others
pub number_behind : (w n : ℕ) (front rest : List ℕ) (at : ℕ) → length front ≡ at → number_at w at (front ++ (bytes w n ++ rest)) ≡ n % 256 ^ w
number_behind w n front rest at e =
    number_at_within w at (front ++ (bytes w n ++ rest)) (simp (length-append, length-bytes) (omega arith))
    ∙ ap (λ (t : List ℕ). number (take w t)) (drop_at front (bytes w n ++ rest) at e)
    ∙ ap number (take_at (bytes w n) rest w (length-bytes w n))
    ∙ number_bytes w n

-- the two cases of a test
pub by_test {ℓ} : {X : Type ℓ} (t : Bool) → (t ≡ true → X) → (t ≡ false → X) → X
by_test true f g = f refl
by_test false f g = g refl

-- two lists, by their heads and their tails
pub pair : {a b : ℕ} {l m : List ℕ} → a ≡ b → l ≡ m → a ∷ l ≡ b ∷ m
pair e f = ap₂ (λ (x : ℕ) (xs : List ℕ). x ∷ xs) e f
