-- One output, or none.
use Rattle.std.proofs.Common.{arith, sym, ◌≤◌, length, subst}
use borrow.Author.Tests.{le-leb}
use Rattle.output.specs.Laws.Sizes.{output_most}
use Rattle.answer.specs.Inner.Values.{maybe_outputs}
use Rattle.answer.specs.Laws.Amounts.{none_extends, one_extends}
use Rattle.answer.proofs.extent.of_single.Goals as goal

pub returns-in-Some : goal.returns-in-Some
unfolding maybe_outputs
returns-in-Some c =
    let h : length c.args.echo.now ≤ 503 = subst (λ x. length x ≤ 503) c.bytes.ensures.whole c.bytes.ensures.len_bound in
    let n = rw (c.bytes.ensures.whole, le-leb _ _ h) at c.size.ensures in
    rw c.in-Some.is (one_extends _ (sym n) (omega (arith, n, output_most c.args.echo.now h c.in-Some.x)) c.one.ensures)

pub returns-in-None : goal.returns-in-None
unfolding maybe_outputs
returns-in-None c = rw c.in-None.is (none_extends c.none.ensures)
