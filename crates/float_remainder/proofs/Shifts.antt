-- Remainders of whole numbers with zeros behind them.
use mathlib.Core.Path.{◌≡◌, refl, sym, ap, ◌∙◌}
use Prim.Native.Nat.{ℕ, ◌+◌, ◌-◌, ◌*◌, ◌/◌, ◌%◌, ◌^◌, ◌≤◌, ◌<◌}
use native.Mathlib.Nat.{le_trans, le_of_eq, lt_trans, lt_of_lt_of_le, mul_assoc, mul-pos, mul-le-mul, one-mul, mod-eq_of_lt, div-lt_iff_lt-mul}
use native.Mathlib.Omega.{arith}
use lib.Pow.{pow-add, pow_pos, pow_mono, shl_lt}
use Rattle.std.proofs.lemmas.Nat.{mul-mod_first}
use Rattle.float.specs.Laws.Wholes.{mod_scaled}

shift : (n a b : ℕ) → b ≤ a → n * 2 ^ a ≡ n * 2 ^ (a - b) * 2 ^ b
shift n a b h = ap (λ (z : ℕ). n * 2 ^ z) back ∙ ap (λ (z : ℕ). n * z) (pow-add 2 (a - b) b) ∙ sym (mul_assoc n (2 ^ (a - b)) (2 ^ b))
  where
    back : a ≡ a - b + b
    back = omega arith

-- the zeros that both have can stay out
pub more_zeros : (n a m b : ℕ) → 0 < m → b ≤ a → n * 2 ^ (a - b) % m * 2 ^ b ≡ n * 2 ^ a % (m * 2 ^ b)
more_zeros n a m b M h = sym (mod_scaled (n * 2 ^ (a - b)) m (2 ^ b) M (pow_pos b)) ∙ ap (λ (z : ℕ). z % (m * 2 ^ b)) (sym (shift n a b h))

pub fewer_zeros : (n a m b : ℕ) → 0 < m → a ≤ b → n % (m * 2 ^ (b - a)) * 2 ^ a ≡ n * 2 ^ a % (m * 2 ^ b)
fewer_zeros n a m b M h = sym (mod_scaled n (m * 2 ^ (b - a)) (2 ^ a) (mul-pos M (pow_pos (b - a))) (pow_pos a)) ∙ ap (λ (z : ℕ). n * 2 ^ a % z) (sym (shift m b a h))

-- what a divisor with zeros leaves as it is
pub stays_far : (n m k : ℕ) → n < 2 ^ 53 → 0 < m → 53 ≤ k → n ≡ n % (m * 2 ^ k)
stays_far n m k h M l = sym (mod-eq_of_lt (lt_of_lt_of_le h (le_trans (pow_mono l) (le_trans (le_of_eq (sym (one-mul (2 ^ k)))) (mul-le-mul M (pow_mono (le_of_eq refl)))))))

pub stays_near : (n m k : ℕ) → n / 2 ^ k < m → n ≡ n % (m * 2 ^ k)
stays_near n m k h = sym (mod-eq_of_lt ((div-lt_iff_lt-mul (pow_pos k)).0 h))

-- some zeros taken in, as the machine does it, and those that are left
pub taken : (r k a m : ℕ) → r < m → m < 2 ^ 53 → k ≤ 11 → k ≤ a → r * 2 ^ k % 2 ^ 64 % m * 2 ^ (a - k) % m ≡ r * 2 ^ a % m
taken r k a m h M l n =
    ap (λ (z : ℕ). z % m * 2 ^ (a - k) % m) (mod-eq_of_lt (lt_of_lt_of_le (shl_lt 53 k (lt_trans h M)) (pow_mono few)))
    ∙ mul-mod_first (r * 2 ^ k) (2 ^ (a - k)) m
    ∙ ap (λ (z : ℕ). z % m) (mul_assoc r (2 ^ k) (2 ^ (a - k)) ∙ ap (λ (z : ℕ). r * z) (sym (pow-add 2 k (a - k)) ∙ ap (λ (z : ℕ). 2 ^ z) back))
  where
    few : 53 + k ≤ 64
    few = omega arith

    back : k + (a - k) ≡ a
    back = omega arith
