-- A ping on every interface to each address.
use Rattle.std.specs.Prelude.{ℕ, min, ◌≡◌, ◌*◌, ◌≤◌, length}
use native.Mathlib.Omega.{arith}
use native.Mathlib.Nat.{mul-le-mul_left, mul-le-mul_right, le_trans}
use mathlib.Core.Path.{sym, ap, ap₂, ◌∙◌}
use Rattle.interface_map.specs.declared.Interfaces.{Interfaces}
use Rattle.interface_map.specs.Held.{interfaces_of}
use Rattle.answer.specs.Laws.Amounts.{few_interfaces, ping_extends}
use Rattle.answer.proofs.extent.of_pings.Goals as goal

few : (is : Interfaces) (asked n m : ℕ) → n ≡ min asked 16 → m ≡ length (interfaces_of is) → n * m ≤ 64
few is asked n m e f =
    let k : min asked 16 ≤ 16 = omega arith in
    rw (e, f) (le_trans (mul-le-mul_left (min asked 16) (few_interfaces is)) (mul-le-mul_right 4 k))

pub overflow_mul-outputs : goal.overflow_mul-outputs
overflow_mul-outputs c = omega (arith, few c.args.interfaces c.args.asked _ _ c.held.ensures c.len.ensures)

pub overflow_mul-result : goal.overflow_mul-result
overflow_mul-result c = omega (arith, few c.args.interfaces c.args.asked _ _ c.held.ensures c.len.ensures)

pub returns-clause-extends : goal.returns-clause-extends
returns-clause-extends c =
    let is = c.args.interfaces in
    λ t to h.
    let n = ap₂ ◌*◌ (c.held.ensures ∙ sym h) c.len.ensures in
    ping_extends t (interfaces_of is) to (few_interfaces is) (omega (arith, h)) (n, ap (λ k. k * 35) n)

pub returns-clause-outputs_bound : goal.returns-clause-outputs_bound
returns-clause-outputs_bound c =
    let k = few c.args.interfaces c.args.asked _ _ c.held.ensures c.len.ensures in
    (k, omega (arith, k))
