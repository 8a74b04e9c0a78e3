-- So many of one size, or none.
use Rattle.std.proofs.Common.{arith, ap, ◌∙◌, ◌+◌, ◌*◌}
use Rattle.wire.specs.Laws.Sizes.{byebye_20, mep4_14}
use Rattle.interface_map.specs.Held.{interfaces_of}
use Rattle.output.specs.Laws.Sizes.{length_send}
use Rattle.answer.specs.Inner.Planned.{multicast_outputs}
use Rattle.answer.specs.Laws.Amounts.{length_alive, few_interfaces, none_extends, map_extends}
use Rattle.answer.proofs.extent.of_multicast.Goals as goal

pub returns-in_default : goal.returns-in_default
unfolding multicast_outputs
returns-in_default c = rw c.in_default.is (none_extends c.none.ensures)

pub overflow_mul-result : goal.overflow_mul-result
overflow_mul-result c = omega (arith, c.len-outputs.ensures, few_interfaces c.args.interfaces)

pub overflow_mul-result-in-ByeBye : goal.overflow_mul-result-in-ByeBye
overflow_mul-result-in-ByeBye c = omega (arith, c.len-outputs.ensures, few_interfaces c.args.interfaces)

pub returns-in-Alive : goal.returns-in-Alive
unfolding multicast_outputs
returns-in-Alive c =
    let is = c.args.interfaces in
    rw c.in-Some.is
    (rw (c.in-Alive.is, multicast_outputs)
    (map_extends _ 117 (λ i. length_send _ _ _ ∙ ap (λ n. 10 + n) (length_alive _ _ _ ∙ ap (λ n. 93 + n) (mep4_14 i.addr)))
    (interfaces_of is) (few_interfaces is) (omega arith) (c.len-outputs.ensures, ap (λ n. n * 117) c.len-outputs.ensures)))

pub returns-in-ByeBye : goal.returns-in-ByeBye
unfolding multicast_outputs
returns-in-ByeBye c =
    let is = c.args.interfaces in
    rw c.in-Some.is
    (rw (c.in-ByeBye.is, multicast_outputs)
    (map_extends _ 30 (λ i. length_send _ _ _ ∙ ap (λ n. 10 + n) (byebye_20 _))
    (interfaces_of is) (few_interfaces is) (omega arith) (c.len-outputs.ensures, ap (λ n. n * 30) c.len-outputs.ensures)))
