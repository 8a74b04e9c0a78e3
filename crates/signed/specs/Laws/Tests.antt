-- What the equation of a test says: that it holds, that it does not, and of a test of two parts both.
use Rattle.std.specs.Prelude.{◌≡◌, Bool, true, false, not, ◌&&◌, T, refl}
use Rattle.std.proofs.Common.{true≢false, sym, subst}

pub yes : {b : Bool} → b ≡ true → T b
yes e = subst T (sym e) tt

pub no : {b : Bool} → b ≡ false → T (not b)
no e = subst (λ (a : Bool). T (not a)) (sym e) tt

pub both : (s t : Bool) → s && t ≡ true → (s ≡ true) × (t ≡ true)
both true t e = (refl, e)
both false t e = absurd (true≢false (sym e))
