-- Laws of the digits: how many there are, and the numbers' last digit.
use Rattle.std.specs.Prelude.{ℕ, zero, suc, ◌+◌, ◌*◌, ◌/◌, ◌%◌, ◌^◌, ◌<◌, ◌≤◌, ◌-◌, Bool, true, false, List, [], ◌∷◌, ◌++◌, ◌≡◌, refl, ltb, ℤ, pos, nat_abs, length, set}
use Rattle.std.proofs.Common.{pow-suc, mod-eq_of_lt, arith, sym, ap, ◌∙◌, lt-ltb, le-ltb, length-append}
use Rattle.std.specs.Int.Signed.{lt_z}
use Rattle.signed.specs.Laws.Signs.{by_neg, by_nonneg}
use Rattle.big_endian.specs.Bytes.{put}
use Rattle.big_endian.specs.Laws.Puts.{by_bound, put_one}
use Rattle.text.specs.Numerals.{digits, digit_code, places, places_within, decimal, integer}
use Rattle.text.specs.Laws.Placing.{put_before}

pub length_digits : (b k n : ℕ) → length (digits b k n) ≡ k
unfolding digits
length_digits b zero n = refl
length_digits b (suc k) n = length-append (digits b k (n / b)) (digit_code (n % b) ∷ []) ∙ omega (arith, length_digits b k (n / b))

-- ---- how many digits

within_one : (rest n : ℕ) → n < 10 → places_within (suc rest) n ≡ 1
unfolding places_within
within_one rest n h = ap (λ (t : Bool). elim t [ true ↦ 1 | false ↦ suc (places_within rest (n / 10)) ]) (lt-ltb n 10 h)

within_more : (rest n : ℕ) → 10 ≤ n → places_within (suc rest) n ≡ suc (places_within rest (n / 10))
unfolding places_within
within_more rest n h = ap (λ (t : Bool). elim t [ true ↦ 1 | false ↦ suc (places_within rest (n / 10)) ]) (le-ltb n 10 h)

-- any bound that is no less than the number serves
same_places : (m m' n : ℕ) → n ≤ m → n ≤ m' → places_within m n ≡ places_within m' n
unfolding places_within
same_places zero zero n h h' = refl
same_places zero (suc m') n h h' = sym (within_one m' n (omega arith))
same_places (suc m) zero n h h' = within_one m n (omega arith)
same_places (suc m) (suc m') n h h' = ap (λ (k : ℕ). elim (ltb n 10) [ true ↦ 1 | false ↦ suc k ]) (same_places m m' (n / 10) (omega arith) (omega arith))

pub places_one : (n : ℕ) → n < 10 → places n ≡ 1
unfolding places places_within
places_one zero h = refl
places_one (suc n) h = within_one n (suc n) h

pub places_more : (n : ℕ) → 10 ≤ n → places n ≡ suc (places (n / 10))
unfolding places
places_more zero h = absurd (omega arith)
places_more (suc n) h = within_more n (suc n) h ∙ ap suc (same_places n (suc n / 10) (suc n / 10) (omega arith) (omega arith))

below : (n c : ℕ) → n / 10 < c → n < c * 10
below n c f = omega arith

-- a number has at least one digit, and no more than those of a power of 10 above it
pub places_pos : (n : ℕ) → 0 < places n
places_pos n = by_bound 10 n (λ h. omega (arith, places_more n h)) (λ h. omega (arith, places_one n h))

pub places_most : (k n : ℕ) → 0 < k → n < 10 ^ k → places n ≤ k
places_most zero n p h = absurd (omega arith)
places_most (suc zero) n p h = omega (arith, places_one n h)
places_most (suc (suc k)) n p h =
    by_bound 10 n
    (λ g. omega (arith, places_more n g, places_most (suc k) (n / 10) (omega arith) (less (10 ^ suc k) (omega (arith, pow-suc 10 (suc k))))))
    (λ g. omega (arith, places_one n g))
  where
    less : (c : ℕ) → n < c * 10 → n / 10 < c
    less c f = omega arith

hold : (m n : ℕ) → n ≤ m → n < 10 ^ places n
hold zero n h = let g : n < 10 = omega arith in rw (places_one n g) g
hold (suc m) n h =
    by_bound 10 n
    (λ g. rw (places_more n g, pow-suc) (below n (10 ^ places (n / 10)) (hold m (n / 10) (omega arith))))
    (λ g. rw (places_one n g) g)

-- and as many as hold it
pub places_hold : (n : ℕ) → n < 10 ^ places n
places_hold n = hold n n (omega arith)

pub length-decimal : (n : ℕ) → length (decimal n) ≡ places n
unfolding decimal
length-decimal n = length_digits 10 (places n) n

-- ---- the last digit

pub decimal_one : (n : ℕ) → n < 10 → decimal n ≡ digit_code n ∷ []
unfolding decimal digits
decimal_one n h = ap (λ (k : ℕ). digits 10 k n) (places_one n h) ∙ ap (λ (k : ℕ). digit_code k ∷ []) (mod-eq_of_lt h)

pub decimal_more : (n : ℕ) → 10 ≤ n → decimal n ≡ decimal (n / 10) ++ (digit_code (n % 10) ∷ [])
unfolding decimal digits
decimal_more n h = ap (λ (k : ℕ). digits 10 k n) (places_more n h)

-- ---- the digits, put from the last on

pub put_last : (b at k n : ℕ) (l : List ℕ) → 0 < k → at + k ≤ length l → put at (digits b (k - 1) (n / b)) (set l (at + (k - 1)) (digit_code (n % b))) ≡ put at (digits b k n) l
unfolding digits
put_last b at zero n l p h = absurd (omega arith)
put_last b at (suc k) n l p h =
    let e : length (digits b k (n / b)) ≡ k = length_digits b k (n / b) in
    let d : List ℕ = digit_code (n % b) ∷ [] in
    let f : suc k - 1 ≡ k = omega arith in
    ap (λ (j : ℕ). put at (digits b j (n / b)) (set l (at + j) (digit_code (n % b)))) f
    ∙ ap (put at (digits b k (n / b))) (sym (put_one (at + k) (digit_code (n % b)) l (omega arith)) ∙ ap (λ (j : ℕ). put (at + j) d l) (sym e))
    ∙ put_before at (digits b k (n / b)) d l (rw length-append (omega arith))

-- ---- by the sign

pub integer_neg : (z : ℤ) → lt_z z (pos 0) ≡ true → integer z ≡ 45 ∷ decimal (nat_abs z)
unfolding integer
integer_neg = by_neg (λ z. integer z ≡ 45 ∷ decimal (nat_abs z)) (λ n. refl)

pub integer_nonneg : (z : ℤ) → lt_z z (pos 0) ≡ false → integer z ≡ decimal (nat_abs z)
unfolding integer
integer_nonneg = by_nonneg (λ z. integer z ≡ decimal (nat_abs z)) (λ n. refl)
