use Rattle.std.proofs.Common.{◌≡◌, ◌+◌, ◌-◌, ◌/◌, ◌≤◌, sym, ap, ◌∙◌, arith, slice_set, length-set}
use Rattle.big_endian.specs.Bytes.{put}
use Rattle.big_endian.specs.Laws.Puts.{put_empty}
use Rattle.text.specs.Numerals.{digits}
use Rattle.text.specs.Laws.Decimals.{put_last}
use Rattle.text.proofs.spell.Goals as goal

pub loop-left-preserved : goal.loop-left-preserved
loop-left-preserved c =
    let l = c.loop-left in
    let a = c.args in
    let h : l.left ≤ a.width = c.loop-left.auto.left in
    record {
      same_length = length-set l.s _ _ ∙ l.invariant.same_length;
      to_be = ap (λ d. put a.at (digits a.base (l.left - 1) (l.rest / a.base)) (slice_set l.s (a.at + (l.left - 1)) d)) c.digit.ensures
          ∙ put_last a.base a.at l.left l.rest l.s (omega arith) (omega arith)
          ∙ l.invariant.to_be;
    }

pub returns : goal.returns
unfolding digits
returns c =
    let l = c.loop-left in
    let z : l.left ≡ 0 = omega arith in
    sym (put_empty c.args.at l.s) ∙ ap (λ k. put c.args.at (digits c.args.base k l.rest) l.s) (sym z) ∙ l.invariant.to_be
