-- The remainder of any two numbers is exact, and so its size is below the divisor's.
use Rattle.std.specs.Prelude.{◌≡◌, refl, ◌⊎◌, Bool, true, false, ◌&&◌, ℕ, zero, suc, ◌+◌, ◌-◌, ◌*◌, ◌%◌, ◌^◌, ◌≤◌, ◌<◌, T, ltb, leb, eqb, ℤ, pos, negsuc, Float}
use Rattle.std.proofs.Common.{sym, ap, ◌∙◌, subst, inl, inr, zero-mul, le_of_eq, le_trans, mul-pos, mul-one, one-mul, mul_assoc, mul_left_comm, sub-add_cancel, mul-lt-mul_of_pos_right, lt_of_mul-lt-mul_right, lt_of_le_of_lt, lt_trans, le_of_lt, arith, lit<, ltb→lt, leb→le, eqb→eq, pow-add, pow_pos}
use Rattle.std.proofs.Math.Nat.{mul_comm, mod-lt, mod-le}
use Rattle.std.proofs.Math.Pow.{pow-lt}
use borrow.Author.Tests.{leb-true, leb-false, lt-ltb, ne_eqb}
use Rattle.std.specs.Float.Ieee.{nan, up, down, fits, round, rem, lt}
use Rattle.std.specs.Float.{inf, fin, binary64}
use Rattle.std.specs.Float.Ieee.Fits.{and_l, and_r, up_pos, down_pos}
use Rattle.std.specs.Float.Ieee.Exact.{HasValue, round_exact}
use Rattle.float.specs.Whole.{abs_of}
use Rattle.float.specs.Laws.Wholes.{mod_scaled}

-- ---- numbers of the form m * 2 ^ a

by_order : {X : Type 0} (a b : ℕ) → (a ≤ b → X) → (b < a → X) → X
by_order {X} a b f g = go (leb a b) refl
  where
    go : (t : Bool) → leb a b ≡ t → X
    go true e = f (leb-true a b e)
    go false e = g (leb-false a b e)

shift : (m a b : ℕ) → b ≤ a → m * 2 ^ a ≡ m * 2 ^ (a - b) * 2 ^ b
shift m a b h = ap (λ (x : ℕ). m * 2 ^ x) (sym (sub-add_cancel h)) ∙ ap (λ (x : ℕ). m * x) (pow-add 2 (a - b) b) ∙ sym (mul_assoc m (2 ^ (a - b)) (2 ^ b))

-- a remainder is such a number too, with no more digits
record Rest (P m n a b : ℕ) : Type 0 where
  digits : ℕ
  at : ℕ
  small : digits < P
  is : m * 2 ^ a % (n * 2 ^ b) ≡ digits * 2 ^ at

rest : (P m n a b : ℕ) → 0 < n → m < P → n < P → Rest P m n a b
rest P m n a b p h k = by_order b a
    (λ l. record {
      digits = m * 2 ^ (a - b) % n;
      at = b;
      small = lt_trans (mod-lt (m * 2 ^ (a - b)) p) k;
      is = ap (λ (x : ℕ). x % (n * 2 ^ b)) (shift m a b l) ∙ mod_scaled (m * 2 ^ (a - b)) n (2 ^ b) p (pow_pos b);
    })
    (λ l. record {
      digits = m % (n * 2 ^ (b - a));
      at = a;
      small = lt_of_le_of_lt (mod-le m (n * 2 ^ (b - a))) h;
      is = ap (λ (x : ℕ). m * 2 ^ a % x) (shift n b a (le_of_lt l)) ∙ mod_scaled m (n * 2 ^ (b - a)) (2 ^ a) (mul-pos p (pow_pos (b - a))) (pow_pos a);
    })

-- ---- places

-- 2 ^ e is 2 ^ at times the smallest number, 2 ^ -l
record Place (l : ℕ) (e : ℤ) : Type 0 where
  at : ℕ
  is : up e * 2 ^ l ≡ 2 ^ at * down e

upto : (a l : ℕ) → 2 ^ a ≤ 2 ^ l → a ≤ l
upto a l h = by_order a l (λ p. p) (λ q. let c : 2 ^ l < 2 ^ a = pow-lt q in let no : ⊥ = omega arith in absurd no)

place : (l : ℕ) (e : ℤ) → down e ≤ 2 ^ l → Place l e
place l (pos k) h = record { at = k + l; is = sym (pow-add 2 k l) ∙ sym (mul-one (2 ^ (k + l))) }
place l (negsuc k) h =
    let s : suc k ≤ l = upto (suc k) l h in
    record { at = l - suc k; is = one-mul (2 ^ l) ∙ ap (λ (x : ℕ). 2 ^ x) (sym (sub-add_cancel s)) ∙ pow-add 2 (l - suc k) (suc k) }

-- x * 2 ^ e over v * z, in units: u / v is 2 ^ e, t the units, w the place
in_units : (x u v w t z : ℕ) → u * t ≡ w * v → x * u * z * t ≡ x * w * (v * z)
in_units x u v w t z h = simp (mul_assoc, mul_comm, mul_left_comm) (simp (mul_assoc, mul_comm, mul_left_comm) at (ap (λ (y : ℕ). y * (x * z)) h))

-- a number below 2 ^ k is below 2 ^ (l + k) units
bounded : (m u v w l k : ℕ) → 0 < v → u * 2 ^ l ≡ w * v → m * u < 2 ^ k * v → m * w < 2 ^ (l + k)
bounded m u v w l k p h b = lt_of_mul-lt-mul_right v
    (subst (λ (x : ℕ). x < 2 ^ (l + k) * v) (mul_assoc m u (2 ^ l) ∙ ap (λ (x : ℕ). m * x) h ∙ sym (mul_assoc m w v))
    (subst (λ (x : ℕ). m * u * 2 ^ l < x) (simp (mul_assoc, mul_comm) (ap (λ (x : ℕ). v * x) (sym (pow-add 2 l k)))) (mul-lt-mul_of_pos_right b (pow_pos l))))

-- ---- what `f64` holds

record Held (m : ℕ) (e : ℤ) : Type 0 where
  few : m < 2 ^ 53
  fine : down e ≤ 2 ^ 1074
  below : m * up e < 2 ^ 1024 * down e

held : (s : Bool) (m : ℕ) (e : ℤ) → T (fits binary64 (fin s m e)) → Held m e
unfolding fits
held s zero e t =
    let h : up e * down e ≡ 1 = eqb→eq (up e * down e) 1 t in
    record { few = lit< tt; fine = le_trans (one_of e h) (pow_pos 1074); below = subst (λ (x : ℕ). x < 2 ^ 1024 * down e) (sym (zero-mul (up e))) (mul-pos (pow_pos 1024) (down_pos e)) }
  where
    one_of : (e : ℤ) → up e * down e ≡ 1 → down e ≤ 1
    one_of (pos k) h = le_of_eq refl
    one_of (negsuc k) h = le_of_eq (sym (one-mul (2 ^ suc k)) ∙ h)
held s (suc m) e t =
    let a : Bool = eqb (suc m % 2) 1 in
    let b : Bool = ltb (suc m) (2 ^ 53) in
    let c : Bool = leb (down e) (2 ^ 1074) in
    let d : Bool = ltb (suc m * up e) (2 ^ 1024 * down e) in
    record {
      few = ltb→lt (suc m) (2 ^ 53) (and_r a b (and_l (a && b) c (and_l (a && b && c) d t)));
      fine = leb→le (down e) (2 ^ 1074) (and_r (a && b) c (and_l (a && b && c) d t));
      below = ltb→lt (suc m * up e) (2 ^ 1024 * down e) (and_r (a && b && c) d t);
    }

-- ---- the remainder

module _ (s : Bool) (m n : ℕ) (e d : ℤ) (h : Held m e) (k : Held n d) (p : 0 < n) where
  abbrev over : ℕ
  over = m * up e * down d

  abbrev under : ℕ
  under = n * up d * down e

  abbrev both : ℕ
  both = down e * down d

  rest_is : over % under * 2 ^ 1074 ≡ m * 2 ^ (place 1074 e h.fine).at % (n * 2 ^ (place 1074 d k.fine).at) * both
  rest_is =
      let E = place 1074 e h.fine in
      let D = place 1074 d k.fine in
      let under_pos : 0 < under = mul-pos (mul-pos p (up_pos d)) (down_pos e) in
      sym (mod_scaled over under (2 ^ 1074) under_pos (pow_pos 1074))
      ∙ ap (λ (x : ℕ). x % (under * 2 ^ 1074)) (in_units m (up e) (down e) (2 ^ E.at) (2 ^ 1074) (down d) E.is)
      ∙ ap (λ (x : ℕ). m * 2 ^ E.at * both % x) (in_units n (up d) (down d) (2 ^ D.at) (2 ^ 1074) (down e) D.is ∙ ap (λ (x : ℕ). n * 2 ^ D.at * x) (mul_comm (down d) (down e)))
      ∙ mod_scaled (m * 2 ^ E.at) (n * 2 ^ D.at) both (mul-pos p (pow_pos D.at)) (mul-pos (down_pos e) (down_pos d))

  exact : HasValue (round binary64 s (over % under) both) s (over % under) both
  exact =
      let E = place 1074 e h.fine in
      let D = place 1074 d k.fine in
      let r : Rest (2 ^ 53) m n E.at D.at = rest (2 ^ 53) m n E.at D.at p h.few k.few in
      round_exact binary64 s (over % under) both r.digits r.at (mul-pos (down_pos e) (down_pos d)) r.small
      (subst (λ (x : ℕ). x < 2 ^ (1074 + 1024)) r.is
      (lt_of_le_of_lt (mod-le (m * 2 ^ E.at) (n * 2 ^ D.at)) (bounded m (up e) (down e) (2 ^ E.at) 1074 1024 (down_pos e) E.is h.below)))
      (rest_is ∙ ap (λ (x : ℕ). x * both) r.is)

  -- the size of what has that value
  smaller : (r : Float) → HasValue r s (over % under) both → lt (abs_of r) (fin false n d) ≡ true
  unfolding abs_of lt
  smaller nan v = absurd v
  smaller (inf t) v = absurd v
  smaller (fin t a c) v =
      let l : over % under < under = mod-lt over (mul-pos (mul-pos p (up_pos d)) (down_pos e)) in
      lt-ltb (a * up c * down d) (n * up d * down c)
      (lt_of_mul-lt-mul_right (down e)
      (subst (λ (x : ℕ). x < n * up d * down c * down e) (sym v.1 ∙ simp (mul_assoc, mul_comm, mul_left_comm))
      (subst (λ (x : ℕ). over % under * down c < x) (simp (mul_assoc, mul_comm, mul_left_comm)) (mul-lt-mul_of_pos_right l (down_pos c)))))

-- it is no number, or smaller in size than a divisor that is not 0
pub rem_below : (x : Float) (t : Bool) (n : ℕ) (d : ℤ) → T (fits binary64 x) → T (fits binary64 (fin t n d)) → 0 < n
    → (rem binary64 x (fin t n d) ≡ nan) ⊎ (lt (abs_of (rem binary64 x (fin t n d))) (abs_of (fin t n d)) ≡ true)
unfolding rem abs_of
rem_below nan t n d h k p = inl refl
rem_below (inf s) t n d h k p = inl refl
rem_below (fin s m e) t n d h k p =
    let a : Held m e = held s m e h in
    let b : Held n d = held t n d k in
    inr (rw (ne_eqb n 0 (λ q. omega arith)) (smaller s m n e d a b p (round binary64 s (m * up e * down d % (n * up d * down e)) (down e * down d)) (exact s m n e d a b p)))
