-- Theorems: the digits read back to their number, a decimal number has no zero in front, and an i64 has at most 20 characters.
use Rattle.std.specs.Prelude.{ℕ, zero, suc, ◌+◌, ◌-◌, ◌*◌, ◌/◌, ◌%◌, ◌^◌, ◌<◌, ◌≤◌, true, cond, List, [], ◌∷◌, ◌++◌, ◌≡◌, refl, ltb, eqb, ℤ, pos, negsuc, neg_ℤ, length, get_or, drop}
use Prim.Native.Char.{code}
use Rattle.std.proofs.Math.Nat.{mod-one, pow-zero, one-le-pow}
use Rattle.std.proofs.Common.{mod-lt, mod-eq_of_lt, pow-suc, arith, sym, ap, ap₂, ◌∙◌, lt-ltb, le-ltb, le-leb, ne_eqb, SFits}
use Rattle.std.proofs.Math.Arith.{mod-mul}
use Rattle.std.proofs.Math.ListN.{get_or-append}
use Rattle.std.specs.Int.{w64}
use Rattle.signed.specs.Laws.Tests.{both}
use Rattle.big_endian.specs.Laws.Puts.{by_bound}
use Rattle.text.specs.Ascii.{ascii}
use Rattle.text.specs.Digits.{is_digit, all_digits, followed, value}
use Rattle.text.specs.Numerals.{digits, digit_code, hexadecimal, places, places_within, decimal, integer}
use Rattle.text.specs.Laws.Decimals.{length-decimal, places_pos, places_most, places_hold, decimal_one, decimal_more}

-- ---- a reader

-- the digit that a code stands for
abbrev pub digit_value : ℕ → ℕ
digit_value c = cond (ltb c (code "a")) (c - code "0") (c - code "a" + 10)

-- the number to the base b that digits spell behind those of n
unfoldable pub read_behind : ℕ → ℕ → List ℕ → ℕ
read_behind b n [] = n
read_behind b n (c ∷ cs) = read_behind b (n * b + digit_value c) cs

abbrev pub read : ℕ → List ℕ → ℕ
read b cs = read_behind b 0 cs

-- an integer, with or without a minus sign
unfoldable pub read_integer : List ℕ → ℤ
read_integer cs = cond (eqb (get_or cs 0 0) (code "-")) (neg_ℤ (pos (read 10 (drop 1 cs)))) (pos (read 10 cs))

-- ---- it reads what was written

read_last : (b n : ℕ) (cs : List ℕ) (c : ℕ) → read_behind b n (cs ++ (c ∷ [])) ≡ read_behind b n cs * b + digit_value c
unfolding read_behind
read_last b n [] c = refl
read_last b n (d ∷ cs) c = read_last b (n * b + digit_value d) cs c

value_of_code : (d : ℕ) → d < 16 → digit_value (digit_code d) ≡ d
value_of_code d h =
    by_bound 10 d
    (λ g. rw (le-ltb d 10 g, le-ltb (97 + (d - 10)) 97 (omega arith)) (omega arith))
    (λ g. rw (lt-ltb d 10 g, lt-ltb (48 + d) 97 (omega arith)) (omega arith))

-- the last k digits are the number modulo b ^ k
pub read_digits : (b k n : ℕ) → 0 < b → b ≤ 16 → read b (digits b k n) ≡ n % b ^ k
unfolding digits read_behind
read_digits b zero n p h = sym (ap (λ (m : ℕ). n % m) (pow-zero b) ∙ mod-one n)
read_digits b (suc k) n p h =
    read_last b 0 (digits b k (n / b)) (digit_code (n % b))
    ∙ ap₂ (λ (m d : ℕ). m * b + d) (read_digits b k (n / b) p h) (value_of_code (n % b) (omega (arith, mod-lt n p)))
    ∙ sym (mod-mul n (one-le-pow k b p) p)
    ∙ ap (λ (m : ℕ). n % m) (sym (pow-suc b k))

pub read_decimal : (n : ℕ) → read 10 (decimal n) ≡ n
unfolding decimal
read_decimal n = read_digits 10 (places n) n (omega arith) (omega arith) ∙ mod-eq_of_lt (places_hold n)

-- 16 hexadecimal digits hold every number of 64 bits
pub read_hexadecimal : (n : ℕ) → n < 2 ^ 64 → read 16 (digits 16 16 n) ≡ n
read_hexadecimal n h = read_digits 16 16 n (omega arith) (omega arith) ∙ mod-eq_of_lt h

-- ---- a decimal number is a word of digits that says it

code_is_digit : (d : ℕ) → d < 10 → is_digit (digit_code d) ≡ true
code_is_digit d h = rw (lt-ltb d 10 h, le-leb 48 (48 + d) (omega arith), le-leb (48 + d) 57 (omega arith))

digits_last : (cs : List ℕ) (c : ℕ) → all_digits cs ≡ true → is_digit c ≡ true → all_digits (cs ++ (c ∷ [])) ≡ true
unfolding all_digits
digits_last [] c e f = rw f
digits_last (d ∷ cs) c e f = let b = both (is_digit d) (all_digits cs) e in rw b.0 (digits_last cs c b.1 f)

followed_last : (n : ℕ) (cs : List ℕ) (c : ℕ) → followed n (cs ++ (c ∷ [])) ≡ followed n cs * 10 + (c - 48)
unfolding followed
followed_last n [] c = refl
followed_last n (d ∷ cs) c = followed_last (n * 10 + (d - 48)) cs c

record Says (n : ℕ) : Type 0 where
  pub digits : all_digits (decimal n) ≡ true
  pub value : followed 0 (decimal n) ≡ n

one_says : (n : ℕ) → n < 10 → Says n
unfolding all_digits followed
one_says n h = record { digits = rw (decimal_one n h) (rw (code_is_digit n h)); value = rw (decimal_one n h, lt-ltb n 10 h) (omega arith) }

more_says : (n : ℕ) → 10 ≤ n → Says (n / 10) → Says n
more_says n h s =
    let d : n % 10 < 10 = mod-lt n {m = 10} (omega arith) in
    record {
      digits = rw (decimal_more n h) (digits_last (decimal (n / 10)) (digit_code (n % 10)) s.digits (code_is_digit (n % 10) d));
      value = rw (decimal_more n h, followed_last 0 (decimal (n / 10)) (digit_code (n % 10)), s.value, lt-ltb (n % 10) 10 d) (omega arith);
    }

says : (m n : ℕ) → n ≤ m → Says n
says zero n h = one_says n (omega arith)
says (suc m) n h = by_bound 10 n (λ g. more_says n g (says m (n / 10) (omega arith))) (λ g. one_says n g)

pub all_digits_decimal : (n : ℕ) → all_digits (decimal n) ≡ true
all_digits_decimal n = (says n n (omega arith)).digits

pub value_decimal : (n : ℕ) → value (decimal n) ≡ n
value_decimal n = (says n n (omega arith)).value

-- ---- the first digit

first : (m n : ℕ) → n ≤ m → 0 < n → code "0" < get_or (decimal n) 0 0
first zero n h p = absurd (omega arith)
first (suc m) n h p =
    by_bound 10 n
    (λ g. let k : 0 < length (decimal (n / 10)) = omega (arith, length-decimal (n / 10), places_pos (n / 10)) in
    let e : get_or (decimal n) 0 0 ≡ get_or (decimal (n / 10)) 0 0 =
    ap (λ (cs : List ℕ). get_or cs 0 0) (decimal_more n g) ∙ get_or-append (decimal (n / 10)) (digit_code (n % 10) ∷ []) 0 0 k in
    rw e (first m (n / 10) (omega arith) (omega arith)))
    (λ g. rw (decimal_one n g, lt-ltb n 10 g) (omega arith))

-- that of a number above 0 is not 0
pub first_digit : (n : ℕ) → 0 < n → code "0" < get_or (decimal n) 0 0
first_digit n p = first n n (omega arith) p

-- a digit is no minus sign
no_sign : (n : ℕ) → get_or (decimal n) 0 0 ≡ code "-" → ⊥
no_sign n e = by_bound 1 n (λ p. omega (arith, first_digit n p)) (λ p. omega (arith, zero_first n p))
  where
    zero_first : (n : ℕ) → n < 1 → get_or (decimal n) 0 0 ≡ 48
    zero_first n p = ap (λ (cs : List ℕ). get_or cs 0 0) (decimal_one n (omega arith)) ∙ rw (lt-ltb n 10 (omega arith)) (omega arith)

pub read_integer_back : (z : ℤ) → read_integer (integer z) ≡ z
unfolding read_integer integer
read_integer_back (pos n) = rw (ne_eqb (get_or (decimal n) 0 0) (code "-") (no_sign n)) (ap pos (read_decimal n))
read_integer_back (negsuc n) = ap (λ (k : ℕ). neg_ℤ (pos k)) (read_decimal (suc n))

-- ---- the longest

pub decimal_at_most_20 : (n : ℕ) → n < 2 ^ 64 → length (decimal n) ≤ 20
decimal_at_most_20 n h = omega (arith, length-decimal n, places_most 20 n (omega arith) (omega arith))

pub integer_at_most_20 : (z : ℤ) → SFits w64 z → length (integer z) ≤ 20
unfolding integer
integer_at_most_20 (pos n) f = decimal_at_most_20 n (omega (arith, f.sfits))
integer_at_most_20 (negsuc n) f = omega (arith, length-decimal (suc n), places_most 19 (suc n) (omega arith) (omega (arith, f.sfits)))

-- the smallest i64 is one, and has 20
smallest_fits : SFits w64 (negsuc 9223372036854775807)
smallest_fits = record { sfits = omega arith }

smallest : integer (negsuc 9223372036854775807) ≡ ascii "-9223372036854775808"
unfolding integer decimal digits places places_within ascii
smallest = refl

beef : hexadecimal 8 0xdeadbeef ≡ ascii "deadbeef"
unfolding digits ascii
beef = refl
