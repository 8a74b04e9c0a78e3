-- Tests and branches.
use Rattle.std.specs.Prelude.{ℕ, ◌≡◌, refl, Some, None}
use Rattle.std.proofs.Common.{arith, sym, ap}
use mathlib.Core.Bool.{Bool, true, false, not, cond}

-- by the two values of a test
pub split {ℓ} : {X : Type ℓ} (t : Bool) → (t ≡ true → X) → (t ≡ false → X) → X
split true f g = f refl
split false f g = g refl

pub by_cond : {A : Type 0} (P : A → Type 0) (t : Bool) (x y : A) → (t ≡ true → P x) → (t ≡ false → P y) → P (cond t x y)
by_cond P true x y f g = f refl
by_cond P false x y f g = g refl

pub clash : {X : Type 0} → true ≡ false → X
clash e = absurd (mathlib.Core.Bool.true≢false e)

pub not_true→false : (t : Bool) → (t ≡ true → ⊥) → t ≡ false
not_true→false t f = split t (λ e. absurd (f e)) (λ e. e)

pub not_false : (t : Bool) → not t ≡ false → t ≡ true
not_false true e = refl
not_false false e = clash e

pub not_true : (t : Bool) → not t ≡ true → t ≡ false
not_true true e = clash (sym e)
not_true false e = refl

-- a branch that is taken
pub cond-true : {A : Type 0} {t : Bool} (x y : A) → t ≡ true → cond t x y ≡ x
cond-true x y e = ap (λ (t : Bool). cond t x y) e

pub cond-false : {A : Type 0} {t : Bool} (x y : A) → t ≡ false → cond t x y ≡ y
cond-false x y e = ap (λ (t : Bool). cond t x y) e

-- ---- constructors told apart

pub some_inj : {A : Type 0} (a b : A) → Some a ≡ Some b → a ≡ b
some_inj a b e = cc

pub none_some : {A X : Type 0} (a : A) → None ≡ Some a → X
none_some a e = let z : ◌≡◌ {A = ℕ} 0 1 = cc in let y : ⊥ = omega arith in absurd y
