-- Laws of `wrap64`: it fits always, it is the number itself where 64 bits hold it, and what is under it may be changed by any
-- multiple of 2 ^ 64.
use Rattle.std.specs.Prelude.{◌≡◌, ℕ, suc, ◌+◌, ◌-◌, ◌*◌, ◌%◌, ◌^◌, ◌<◌, ◌≤◌, ℤ, pos, negsuc, ◌+ℤ◌, ◌-ℤ◌, ◌*ℤ◌, neg_ℤ, FitsSigned}
use Rattle.std.proofs.Common.{sym, ap, ◌∙◌, arith, to_z, of_z, to_z-of_z}
use Rattle.std.proofs.Math.IntN.{+ℤ_comm, *ℤ_comm, -ℤ-+ℤ_cancel, +ℤ-neg_ℤ_cancel}
use Rattle.std.specs.Int.{w64}
use mir.ValLaws.{to_z-neg}
use Rattle.std.proofs.Math.Facts.{sfits_to_z}
use Rattle.signed.specs.Wrap.{mod64, wrap64}
use Rattle.signed.specs.Laws.Diff.{by_diff, by_order, diff_eq, ring}
use Rattle.signed.specs.Laws.Residue.{mod64_lt, mod64_id, mod64_shift, div64, mod64_split, mod64_add, mod64_sub}

pub wrap64_fits : (z : ℤ) → FitsSigned w64 (wrap64 z)
unfolding wrap64
wrap64_fits z = sfits_to_z (record { fits = mod64_lt z })

pub wrap64_id : (z : ℤ) → FitsSigned w64 z → wrap64 z ≡ z
unfolding wrap64
wrap64_id z f = ap (to_z w64) (mod64_id z f) ∙ to_z-of_z f

pub wrap64_shift : (z k : ℤ) → wrap64 (z +ℤ pos (2 ^ 64) *ℤ k) ≡ wrap64 z
unfolding wrap64
wrap64_shift z k = ap (to_z w64) (mod64_shift z k)

-- two numbers with the same residue wrap to the same number
pub wrap64_mod : (y z : ℤ) → mod64 y ≡ mod64 z → wrap64 y ≡ wrap64 z
unfolding wrap64
wrap64_mod y z e = ap (to_z w64) e

wrap64_pos : (u : ℕ) → u < 2 ^ 64 → wrap64 (pos u) ≡ to_z w64 u
unfolding wrap64 mod64
wrap64_pos u h = let e : u % 2 ^ 64 ≡ u = omega arith in ap (to_z w64) e

-- bits below 2 ^ 63 are the number itself, and the others the complement's
pub bits_low : (u : ℕ) → u < 2 ^ 63 → wrap64 (pos u) ≡ pos u
bits_low u h = wrap64_id (pos u) (record { sfits = h })

pub bits_high : (u : ℕ) → 2 ^ 63 ≤ u → u < 2 ^ 64 → wrap64 (pos u) ≡ negsuc (2 ^ 64 - 1 - u)
bits_high u l h =
    let e : u ≡ 2 ^ 64 - suc (2 ^ 64 - 1 - u) = omega arith in
    let k : 2 ^ 64 - 1 - u < 2 ^ 63 = omega arith in
    wrap64_pos u h ∙ ap (to_z w64) e ∙ to_z-neg w64 (2 ^ 64 - 1 - u) k

-- a residue's bits, read back
pub wrap64_residue : (z : ℤ) → wrap64 (pos (mod64 z)) ≡ wrap64 z
unfolding wrap64
wrap64_residue z = wrap64_pos (mod64 z) (mod64_lt z)

-- z is what it wraps to and a multiple of 2 ^ 64
pub wrap64_split : (z : ℤ) → (k : ℤ) × (wrap64 z ≡ z +ℤ pos (2 ^ 64) *ℤ k)
wrap64_split z =
    by_order (mod64 z) (2 ^ 63)
    (λ h. (neg_ℤ (div64 z), sym (wrap64_residue z) ∙ bits_low (mod64 z) h ∙ mod64_split z ∙ low z (div64 z)))
    (λ h. (negsuc 0 -ℤ div64 z, sym (wrap64_residue z) ∙ bits_high (mod64 z) h (mod64_lt z) ∙ complement (mod64 z) (mod64_lt z) ∙ ap (λ (y : ℤ). y -ℤ pos (2 ^ 64)) (mod64_split z) ∙ high z (div64 z)))
  where
    low : (z d : ℤ) → z -ℤ pos (2 ^ 64) *ℤ d ≡ z +ℤ pos (2 ^ 64) *ℤ neg_ℤ d
    low = by_diff _ λ p n. by_diff _ λ q m. simp ring (diff_eq _ _ _ _ (omega arith))

    high : (z d : ℤ) → z -ℤ pos (2 ^ 64) *ℤ d -ℤ pos (2 ^ 64) ≡ z +ℤ pos (2 ^ 64) *ℤ (negsuc 0 -ℤ d)
    high = by_diff _ λ p n. by_diff _ λ q m. simp ring (diff_eq _ _ _ _ (omega arith))

    complement : (u : ℕ) → u < 2 ^ 64 → negsuc (2 ^ 64 - 1 - u) ≡ pos u -ℤ pos (2 ^ 64)
    complement u h = simp ring (diff_eq _ _ _ _ (omega arith))

-- and keeps its low 64 bits
pub mod64_wrap64 : (z : ℤ) → mod64 (wrap64 z) ≡ mod64 z
mod64_wrap64 z = let s = wrap64_split z in ap mod64 s.1 ∙ mod64_shift z s.0

-- what differs by a multiple of 2 ^ 64 wraps to the same
pub wrap64_from : (y z k : ℤ) → y ≡ z +ℤ pos (2 ^ 64) *ℤ k → wrap64 y ≡ wrap64 z
wrap64_from y z k e = ap wrap64 e ∙ wrap64_shift z k

-- ---- a wrap inside of a wrap may go

pub wrap64_wrap64 : (z : ℤ) → wrap64 (wrap64 z) ≡ wrap64 z
wrap64_wrap64 z = wrap64_id (wrap64 z) (wrap64_fits z)

pub wrap64_addl : (a b : ℤ) → wrap64 (wrap64 a +ℤ b) ≡ wrap64 (a +ℤ b)
wrap64_addl a b = wrap64_mod (wrap64 a +ℤ b) (a +ℤ b) (simp (mod64_add, mod64_wrap64))

pub wrap64_addr : (a b : ℤ) → wrap64 (a +ℤ wrap64 b) ≡ wrap64 (a +ℤ b)
wrap64_addr a b = rw (+ℤ_comm a (wrap64 b), wrap64_addl b a, +ℤ_comm b a)

pub wrap64_negl : (a : ℤ) → wrap64 (neg_ℤ (wrap64 a)) ≡ wrap64 (neg_ℤ a)
wrap64_negl a = let s = wrap64_split a in ap (λ (y : ℤ). wrap64 (neg_ℤ y)) s.1 ∙ wrap64_from _ _ (neg_ℤ s.0) (move a s.0)
  where
    move : (a k : ℤ) → neg_ℤ (a +ℤ pos (2 ^ 64) *ℤ k) ≡ neg_ℤ a +ℤ pos (2 ^ 64) *ℤ neg_ℤ k
    move = by_diff _ λ p n. by_diff _ λ r l. simp ring (diff_eq _ _ _ _ (omega arith))

pub wrap64_subl : (a b : ℤ) → wrap64 (wrap64 a -ℤ b) ≡ wrap64 (a -ℤ b)
wrap64_subl a b = wrap64_addl a (neg_ℤ b)

pub wrap64_subr : (a b : ℤ) → wrap64 (a -ℤ wrap64 b) ≡ wrap64 (a -ℤ b)
wrap64_subr a b = sym (wrap64_addr a (neg_ℤ (wrap64 b))) ∙ ap (λ (y : ℤ). wrap64 (a +ℤ y)) (wrap64_negl b) ∙ wrap64_addr a (neg_ℤ b)

pub wrap64_mull : (a b : ℤ) → wrap64 (wrap64 a *ℤ b) ≡ wrap64 (a *ℤ b)
wrap64_mull a b = let s = wrap64_split a in ap (λ (y : ℤ). wrap64 (y *ℤ b)) s.1 ∙ wrap64_from _ _ (s.0 *ℤ b) (move a b s.0)
  where
    move : (a b k : ℤ) → (a +ℤ pos (2 ^ 64) *ℤ k) *ℤ b ≡ a *ℤ b +ℤ pos (2 ^ 64) *ℤ (k *ℤ b)
    move = by_diff _ λ p n. by_diff _ λ q m. by_diff _ λ r l. simp ring (diff_eq _ _ _ _ (omega arith))

pub wrap64_mulr : (a b : ℤ) → wrap64 (a *ℤ wrap64 b) ≡ wrap64 (a *ℤ b)
wrap64_mulr a b = rw (*ℤ_comm a (wrap64 b), wrap64_mull b a, *ℤ_comm b a)

-- `simp wraps` takes every wrap out of a sum, a difference or a product that is itself wrapped
pub ruleset wraps = (wrap64_wrap64, wrap64_addl, wrap64_addr, wrap64_subl, wrap64_subr, wrap64_negl, wrap64_mull, wrap64_mulr)

-- add what was taken away, and take away what was added
pub wrap64_sub-add : (a b : ℤ) → wrap64 (wrap64 (a -ℤ b) +ℤ b) ≡ wrap64 a
wrap64_sub-add a b = wrap64_addl (a -ℤ b) b ∙ ap wrap64 (-ℤ-+ℤ_cancel a b)

pub wrap64_add-sub : (a b : ℤ) → wrap64 (wrap64 (a +ℤ b) -ℤ b) ≡ wrap64 a
wrap64_add-sub a b = wrap64_subl (a +ℤ b) b ∙ ap wrap64 (+ℤ-neg_ℤ_cancel a b)

-- ---- bits

-- the upper words of a number may go
pub wrap64_low : (high low : ℕ) → wrap64 (pos (high * 2 ^ 64 + low)) ≡ wrap64 (pos low)
unfolding mod64
wrap64_low high low = wrap64_mod (pos (high * 2 ^ 64 + low)) (pos low) (omega arith)

-- the sum and the difference of residues
pub wrap64_add_mod : (a b : ℤ) → wrap64 (pos ((mod64 a + mod64 b) % 2 ^ 64)) ≡ wrap64 (a +ℤ b)
wrap64_add_mod a b = ap (λ (n : ℕ). wrap64 (pos n)) (sym (mod64_add a b)) ∙ wrap64_residue (a +ℤ b)

pub wrap64_sub_mod : (a b : ℤ) (u : ℕ) → (u + mod64 b) % 2 ^ 64 ≡ mod64 a → wrap64 (pos u) ≡ wrap64 (a -ℤ b)
unfolding mod64
wrap64_sub_mod a b u e = wrap64_mod (pos u) (a -ℤ b) (mod64_sub a b u e)

-- what a call returned, read back from its bits
pub wrap64_read : (r z : ℤ) → r ≡ wrap64 z → to_z w64 (of_z w64 r) ≡ wrap64 z
wrap64_read r z e = ap (λ (y : ℤ). to_z w64 (of_z w64 y)) e ∙ to_z-of_z (wrap64_fits z)
