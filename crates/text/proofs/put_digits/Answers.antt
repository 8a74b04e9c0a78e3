use Rattle.std.proofs.Common.{length, sym, ap, ◌∙◌, arith, rules}
use Rattle.text.specs.Placed.{behind}
use Rattle.text.specs.Laws.Decimals.{length_digits}
use Rattle.text.specs.Laws.Placing.{moved_within, unmoved_put}
use Rattle.text.proofs.put_digits.Goals as goal

pub spell-requires : goal.spell-requires
spell-requires c =
    let a = c.args in
    let h = moved_within (length a.s.now) a.at a.width (omega (arith, c.behind-next.ensures)) in
    (search rules, search rules, h)

pub returns-then-at-next : goal.returns-then-at-next
returns-then-at-next c =
    let a = c.args in
    record {
      bytes = c.spell.ensures;
      place = c.behind-next.ensures ∙ ap (behind (length a.s.now) a.at) (sym (length_digits a.base a.width a.n));
    }

pub returns-else-at-next : goal.returns-else-at-next
returns-else-at-next c =
    let a = c.args in
    let e = c.behind-next.ensures ∙ ap (behind (length a.s.now) a.at) (sym (length_digits a.base a.width a.n)) in
    record { bytes = sym (unmoved_put a.at _ a.s.now (omega (arith, e))); place = e }
