-- A word's digits, one after the other.
use Rattle.std.specs.Prelude.{ℕ, ◌+◌, ◌*◌, ◌-◌, ◌<◌, ◌≤◌, Bool, true, false, ◌&&◌, List, ◌≡◌, leb, length, drop, get_or}
use Rattle.std.proofs.Common.{add-one, sym, ap, ◌∙◌, leb-true, drop_of_length-le}
use Rattle.std.proofs.Math.Seq.{drop-cons}
use Rattle.signed.specs.Laws.Tests.{both}
use Rattle.text.specs.Digits.{is_digit, all_digits, followed}

-- a digit's byte
pub digit_from : (b : ℕ) → is_digit b ≡ true → 48 ≤ b
digit_from b e = leb-true 48 b (both (leb 48 b) (leb b 57) e).0

pub digit_to : (b : ℕ) → is_digit b ≡ true → b ≤ 57
digit_to b e = leb-true b 57 (both (leb 48 b) (leb b 57) e).1

module _ (s : List ℕ) (i : ℕ) (h : i < length s) where
  -- the digits from i on are the one at i and those behind it
  pub digits_at : all_digits (drop i s) ≡ (is_digit (get_or s i 0) && all_digits (drop (i + 1) s))
  unfolding all_digits
  digits_at = rw (add-one, drop-cons s i 0)

  pub digit_lacks : is_digit (get_or s i 0) ≡ false → all_digits (drop i s) ≡ false
  digit_lacks e = digits_at ∙ ap (λ (t : Bool). t && all_digits (drop (i + 1) s)) e

  pub digit_passed : is_digit (get_or s i 0) ≡ true → all_digits (drop (i + 1) s) ≡ all_digits (drop i s)
  digit_passed e = sym (digits_at ∙ ap (λ (t : Bool). t && all_digits (drop (i + 1) s)) e)

  pub first_digit : all_digits (drop i s) ≡ true → is_digit (get_or s i 0) ≡ true
  first_digit e = (both (is_digit (get_or s i 0)) (all_digits (drop (i + 1) s)) (sym digits_at ∙ e)).0

  pub later_digits : all_digits (drop i s) ≡ true → all_digits (drop (i + 1) s) ≡ true
  later_digits e = (both (is_digit (get_or s i 0)) (all_digits (drop (i + 1) s)) (sym digits_at ∙ e)).1

  pub followed_at : (n : ℕ) → followed n (drop i s) ≡ followed (n * 10 + (get_or s i 0 - 48)) (drop (i + 1) s)
  unfolding followed
  followed_at n = rw (add-one, drop-cons s i 0)

-- no digits are left at the end
pub digits_end : (s : List ℕ) (i : ℕ) → length s ≤ i → all_digits (drop i s) ≡ true
unfolding all_digits
digits_end s i h = rw (drop_of_length-le s h)

pub followed_end : (s : List ℕ) (i n : ℕ) → length s ≤ i → followed n (drop i s) ≡ n
unfolding followed
followed_end s i n h = rw (drop_of_length-le s h)
