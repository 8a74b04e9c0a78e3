-- No answer is longer than the array, so that all of it is put there, and then where it was asked for.
use Rattle.std.proofs.Common.{arith, sym, ap, ◌∙◌, length-take-le}
use Rattle.big_endian.specs.Bytes.{put}
use Rattle.text.specs.Laws.Parts.{counted, within, standing}
use Rattle.tempo_text.proofs.put_answer.Goals as goal

pub slice_bounds-answer-end : goal.slice_bounds-answer-end
slice_bounds-answer-end c = within c.put_text-end.ensures (omega arith)

pub slice_bounds-put_bytes-end : goal.slice_bounds-put_bytes-end
slice_bounds-put_bytes-end c = sym (length-take-le _ _ (within c.put_text-end.ensures (omega arith)))

pub returns-clause-out_after : goal.returns-clause-out_after
returns-clause-out_after c =
    c.put_bytes.ensures.bytes ∙ ap (λ text. put 0 text c.args.out.now) (standing c.put_text-end.ensures (omega arith))

pub returns-clause-value : goal.returns-clause-value
returns-clause-value c = counted c.put_text-end.ensures (omega arith)

pub returns-clause-upper_bound : goal.returns-clause-upper_bound
returns-clause-upper_bound c = let t = c.put_text-end.ensures in omega (arith, counted t (omega arith), t.short)
