-- Integers as differences of naturals: the way to prove ring identities and orders over ℤ by `omega` over ℕ.
-- `diff p n` is p − n. `simp ring` brings an expression over `diff`s into one `diff`; `diff_eq`, `diff_le`, `diff_lt` turn what is left
-- into a statement on ℕ, which `omega arith` multiplies out. `by_diff` replaces a variable by a `diff`.
use Rattle.std.specs.Prelude.{◌≡◌, ℕ, zero, suc, ◌+◌, ◌-◌, ◌*◌, ◌<◌, ◌≤◌, Bool, true, false, cond, not, T, ℤ, pos, negsuc, ◌+ℤ◌, ◌*ℤ◌, neg_ℤ, ◌≤ℤ◌, ◌<ℤ◌, nat_lt}
use Rattle.std.proofs.Common.{sym, ap, ◌∙◌, subst, arith, ltb→lt, nltb→le, leb→le, le→leb, lt-ltb, le-ltb}
use Rattle.std.proofs.Math.IntN.{sub_ℕ}
use Rattle.std.specs.Int.Signed.{lt_z, le_z, lt_z_yes, lt_z_no, clash_ℤ}

unfoldable pub diff : ℕ → ℕ → ℤ
diff p n = sub_ℕ p n

-- p − n where it is not negative, and where it is
pub diff_ge : (p n : ℕ) → n ≤ p → diff p n ≡ pos (p - n)
unfolding diff
diff_ge p n h = simp (le-ltb p n h)

pub diff_below : (p n : ℕ) → p < n → diff p n ≡ negsuc (n - suc p)
unfolding diff
diff_below p n h = simp (lt-ltb p n h)

-- a test passes or fails
by_test {ℓ} : {X : Type ℓ} (t : Bool) → (T t → X) → (T (not t) → X) → X
by_test true f g = f tt
by_test false f g = g tt

-- one of two orders holds
pub by_order {ℓ} : {X : Type ℓ} (a b : ℕ) → (a < b → X) → (b ≤ a → X) → X
by_order a b f g = by_test (nat_lt a b) (λ t. f (ltb→lt a b t)) (λ t. g (nltb→le a b t))

-- a property of p, n and p − n, by the sign of p − n
pub by_sign {ℓ} : (P : ℕ → ℕ → ℤ → Type ℓ) → ((a n : ℕ) → P (n + a) n (pos a)) → ((a p : ℕ) → P p (p + suc a) (negsuc a)) → (p n : ℕ) → P p n (diff p n)
by_sign P f g p n =
    by_order p n
    (λ h. let e : p + suc (n - suc p) ≡ n = omega arith in
    subst (λ (z : ℤ). P p n z) (sym (diff_below p n h)) (subst (λ (k : ℕ). P p k (negsuc (n - suc p))) e (g (n - suc p) p)))
    (λ h. let e : n + (p - n) ≡ p = omega arith in
    subst (λ (z : ℤ). P p n z) (sym (diff_ge p n h)) (subst (λ (k : ℕ). P k n (pos (p - n))) e (f (p - n) n)))

-- ---- equality and order

pub diff_eq : (p n q m : ℕ) → p + m ≡ q + n → diff p n ≡ diff q m
diff_eq p n q m e =
    by_order p n
    (λ h. let k : q < m = omega arith in let f : n - suc p ≡ m - suc q = omega arith in diff_below p n h ∙ ap negsuc f ∙ sym (diff_below q m k))
    (λ h. let k : m ≤ q = omega arith in let f : p - n ≡ q - m = omega arith in diff_ge p n h ∙ ap pos f ∙ sym (diff_ge q m k))

pub pos_diff : (k : ℕ) → pos k ≡ diff k 0
pos_diff k = let e : k - 0 ≡ k = omega arith in let h : 0 ≤ k = omega arith in sym (diff_ge k 0 h ∙ ap pos e)

pub negsuc_diff : (k : ℕ) → negsuc k ≡ diff 0 (suc k)
negsuc_diff k = let e : suc k - 1 ≡ k = omega arith in let h : 0 < suc k = omega arith in sym (diff_below 0 (suc k) h ∙ ap negsuc e)

-- every integer is a difference
pub by_diff {ℓ} : (P : ℤ → Type ℓ) → ((p n : ℕ) → P (diff p n)) → (z : ℤ) → P z
by_diff P f (pos k) = subst P (sym (pos_diff k)) (f k 0)
by_diff P f (negsuc k) = subst P (sym (negsuc_diff k)) (f 0 (suc k))

pub diff_le : (p n q m : ℕ) → p + m ≤ q + n → diff p n ≤ℤ diff q m
diff_le p n q m h = record { le = go p n h }
  where
    go : (p n : ℕ) → p + m ≤ q + n → T (le_z (diff p n) (diff q m))
    go = by_sign (λ (p n : ℕ) (z : ℤ). p + m ≤ q + n → T (le_z z (diff q m)))
        (λ a n. by_sign (λ (q m : ℕ) (y : ℤ). n + a + m ≤ q + n → T (le_z (pos a) y))
        (λ b m h. le→leb a b (omega arith)) (λ b q h. let z : ⊥ = omega arith in absurd z) q m)
        (λ a p. by_sign (λ (q m : ℕ) (y : ℤ). p + m ≤ q + (p + suc a) → T (le_z (negsuc a) y))
        (λ b m h. tt) (λ b q h. le→leb b a (omega arith)) q m)

pub diff_le⁻¹ : (p n q m : ℕ) → diff p n ≤ℤ diff q m → p + m ≤ q + n
diff_le⁻¹ p n q m h = go p n h.le
  where
    go : (p n : ℕ) → T (le_z (diff p n) (diff q m)) → p + m ≤ q + n
    go = by_sign (λ (p n : ℕ) (z : ℤ). T (le_z z (diff q m)) → p + m ≤ q + n)
        (λ a n. by_sign (λ (q m : ℕ) (y : ℤ). T (le_z (pos a) y) → n + a + m ≤ q + n)
        (λ b m t. omega (arith, leb→le a b t)) (λ b q t. absurd t) q m)
        (λ a p. by_sign (λ (q m : ℕ) (y : ℤ). T (le_z (negsuc a) y) → p + m ≤ q + (p + suc a))
        (λ b m t. omega arith) (λ b q t. omega (arith, leb→le b a t)) q m)

pub diff_lt : (p n q m : ℕ) → p + m < q + n → diff p n <ℤ diff q m
diff_lt p n q m h =
    by_test (lt_z (diff p n) (diff q m)) lt_z_yes
    (λ t. let k : q + n ≤ p + m = diff_le⁻¹ q m p n (lt_z_no t) in let z : ⊥ = omega arith in absurd z)

pub diff_lt⁻¹ : (p n q m : ℕ) → diff p n <ℤ diff q m → p + m < q + n
diff_lt⁻¹ p n q m h = by_order (p + m) (q + n) (λ k. k) (λ k. clash_ℤ h (diff_le q m p n k))

-- ---- the operations

-- (`neg_ℤ (pos k)` waits on k, so that `simp` does not see the `pos` in it)
pub neg-pos : (k : ℕ) → neg_ℤ (pos k) ≡ diff 0 k
neg-pos zero = pos_diff 0
neg-pos (suc k) = negsuc_diff k

pub diff_neg : (p n : ℕ) → neg_ℤ (diff p n) ≡ diff n p
diff_neg = by_sign (λ (p n : ℕ) (z : ℤ). neg_ℤ z ≡ diff n p)
    (λ a n. neg-pos a ∙ diff_eq 0 a n (n + a) (omega arith))
    (λ a p. pos_diff (suc a) ∙ diff_eq (suc a) 0 (p + suc a) p (omega arith))

pub diff_add : (p n q m : ℕ) → diff p n +ℤ diff q m ≡ diff (p + q) (n + m)
unfolding diff
diff_add p n q m =
    by_sign (λ (p n : ℕ) (z : ℤ). z +ℤ diff q m ≡ diff (p + q) (n + m))
    (λ a n. by_sign (λ (q m : ℕ) (y : ℤ). pos a +ℤ y ≡ diff (n + a + q) (n + m))
    (λ b m. pos_diff (a + b) ∙ diff_eq (a + b) 0 (n + a + (m + b)) (n + m) (omega arith))
    (λ b q. diff_eq a (suc b) (n + a + q) (n + (q + suc b)) (omega arith)) q m)
    (λ a p. by_sign (λ (q m : ℕ) (y : ℤ). negsuc a +ℤ y ≡ diff (p + q) (p + suc a + m))
    (λ b m. diff_eq b (suc a) (p + (m + b)) (p + suc a + m) (omega arith))
    (λ b q. negsuc_diff (suc (a + b)) ∙ diff_eq 0 (suc (suc (a + b))) (p + q) (p + suc a + (q + suc b)) (omega arith)) q m)
    p n

pub diff_mul : (p n q m : ℕ) → diff p n *ℤ diff q m ≡ diff (p * q + n * m) (p * m + n * q)
diff_mul p n q m =
    by_sign (λ (p n : ℕ) (z : ℤ). z *ℤ diff q m ≡ diff (p * q + n * m) (p * m + n * q))
    (λ a n. by_sign (λ (q m : ℕ) (y : ℤ). pos a *ℤ y ≡ diff ((n + a) * q + n * m) ((n + a) * m + n * q))
    (λ b m. pos_diff (a * b) ∙ diff_eq (a * b) 0 _ _ (omega arith))
    (λ b q. neg-pos (a * suc b) ∙ diff_eq 0 (a * suc b) _ _ (omega arith)) q m)
    (λ a p. by_sign (λ (q m : ℕ) (y : ℤ). negsuc a *ℤ y ≡ diff (p * q + (p + suc a) * m) (p * m + (p + suc a) * q))
    (λ b m. neg-pos (suc a * b) ∙ diff_eq 0 (suc a * b) _ _ (omega arith))
    (λ b q. pos_diff (suc a * suc b) ∙ diff_eq (suc a * suc b) 0 _ _ (omega arith)) q m)
    p n

-- a sum of two literals of mixed signs, or of a literal and a `pos`, has computed to two cases of `sub_ℕ`,
-- which `simp` meets with the other rules applied inside
pub diff_sub : (a b : ℕ) → cond (nat_lt a b) (diff 0 (suc (b - suc a))) (diff (a - b) 0) ≡ diff a b
diff_sub a b =
    by_order a b
    (λ h. simp (lt-ltb a b h) (diff_eq _ _ _ _ (omega arith)))
    (λ h. simp (le-ltb a b h) (diff_eq _ _ _ _ (omega arith)))

-- what `simp` takes to bring an expression into one `diff`; a literal, `pos k` or `negsuc k`, is one too
pub ruleset ring = (pos_diff, negsuc_diff, diff_add, diff_mul, diff_neg, neg-pos, diff_sub)
