use Rattle.std.proofs.Common.{◌≡◌, ℕ, ◌*◌, ◌/◌, Bool, true, false, cond, ℤ, pos, ◌*ℤ◌, neg_ℤ, unsigned_abs, int_div, int_lt, w64, to_z, of_z, to_z-of_z, FitsSigned, sym, ap, ◌∙◌, ap₂}
use Rattle.std.specs.Bool.{beq}
use Rattle.signed.specs.Wrap.{wrap64}
use Rattle.signed.specs.Wide.{wide}
use Rattle.signed.specs.declared.Wide.{Wide}
use Rattle.signed.specs.Laws.Quotient.{quot_product}
use Rattle.signed.specs.Laws.WrapLaws.{wrap64_read, wrap64_low, wrap64_negl}
use Rattle.signed.proofs.mul_div_million.Goals as goal

abbrev size : ℤ → ℤ → ℕ
size a b = unsigned_abs a * unsigned_abs b / 1000000

-- the lower word of the quotient has its low bits
lower : (a b : ℤ) (product quotient : Wide) (m n : ℕ) (low : ℤ) → FitsSigned w64 a → FitsSigned w64 b →
    m ≡ unsigned_abs (to_z w64 (of_z w64 a)) → n ≡ unsigned_abs (to_z w64 (of_z w64 b)) → wide product ≡ m * n → wide quotient ≡ wide product / 1000000 →
    low ≡ wrap64 (pos quotient.low) → low ≡ wrap64 (pos (size a b))
lower a b product quotient m n low fa fb em en ep eq el =
    let e : wide quotient ≡ size a b = eq ∙ ap (λ (k : ℕ). k / 1000000) (ep ∙ ap₂ ◌*◌ (em ∙ ap unsigned_abs (to_z-of_z fa)) (en ∙ ap unsigned_abs (to_z-of_z fb))) in
    el ∙ sym (wrap64_low quotient.high quotient.low) ∙ ap (λ (k : ℕ). wrap64 (pos k)) e

-- the quotient of the product, by the test of the signs
signs : (a b : ℤ) (t : Bool) → FitsSigned w64 a → FitsSigned w64 b →
    beq (int_lt (to_z w64 (of_z w64 a)) (pos 0)) (int_lt (to_z w64 (of_z w64 b)) (pos 0)) ≡ t →
    int_div (a *ℤ b) (pos 1000000) ≡ cond t (pos (size a b)) (neg_ℤ (pos (size a b)))
signs a b t fa fb e =
    quot_product a b 1000000
    ∙ ap (λ (x : Bool). cond x (pos (size a b)) (neg_ℤ (pos (size a b)))) (simp (to_z-of_z fa, to_z-of_z fb) at e)

pub returns-then-a-b : goal.returns-then-a-b
returns-then-a-b c =
    let a = c.args.a in
    let b = c.args.b in
    wrap64_read _ _ (lower a b _ _ _ _ _ c.ranges.a c.ranges.b c.unsigned_abs.ensures c.unsigned_abs-2.ensures c.widening_mul.ensures c.div_million-quotient.ensures c.as_i64-low.ensures)
    ∙ ap wrap64 (sym (signs a b true c.ranges.a c.ranges.b c.if-a-b.true))

pub returns-else-a-b : goal.returns-else-a-b
returns-else-a-b c =
    let a = c.args.a in
    let b = c.args.b in
    let low : to_z w64 (of_z w64 c.as_i64-low.result) ≡ wrap64 (pos (size a b)) =
    wrap64_read _ _ (lower a b _ _ _ _ _ c.ranges.a c.ranges.b c.unsigned_abs.ensures c.unsigned_abs-2.ensures c.widening_mul.ensures c.div_million-quotient.ensures c.as_i64-low.ensures) in
    wrap64_read _ _ c.wrapping_neg.ensures
    ∙ ap (λ (z : ℤ). wrap64 (neg_ℤ z)) low
    ∙ wrap64_negl (pos (size a b))
    ∙ ap wrap64 (sym (signs a b false c.ranges.a c.ranges.b c.if-a-b.false))
