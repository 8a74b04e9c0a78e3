-- The label, and the content in its part.
use Rattle.std.proofs.Common.{arith, ◌≡◌, [], ◌∷◌, ◌+◌, ◌*◌, ◌-◌, ◌<◌, ◌≤◌, length, ℕ, List, cond, leb, sym, ap, ◌∙◌, subst, length-take, length-drop}
use borrow.Author.Tests.{le-leb}
use borrow.Rule.Slice.PartMut.{put_mid}
use Rattle.big_endian.specs.Laws.Puts.{put_part}
use Rattle.model.specs.Answer.{content}
use Rattle.output.specs.declared.Output.{Output}
use Rattle.output.specs.Inner.Outputs.{output_of}
use Rattle.output.specs.Laws.Parts.{echo_filled}
use Rattle.output.specs.Laws.Sizes.{output_most}
use Rattle.answer.specs.declared.cursor.Cursor.{Cursor}
use Rattle.answer.specs.Inner.Laid.{labelled, Room}
use Rattle.answer.specs.Laws.Runs.{one_room, one_laid}
use Rattle.answer.proofs.cursor.Cursor.write_output.Goals as goal

-- the size of the content, and the room for it
space : (c : Cursor) (o : Output) (echo bytes buf : List ℕ) (n : ℕ) → bytes ≡ echo → length bytes ≤ 503
    → n ≡ cond (leb (length bytes) 503) (length (content (output_of bytes o))) 0 → Room c (output_of echo o ∷ []) buf
    → (length (content (output_of echo o)) ≡ n) × ((4 + c.total + 2 * (c.index + 1) ≤ c.at) × ((c.at + n ≤ length buf) × (n < 65536)))
space c o echo bytes buf n e h s r =
    let k : length (content (output_of echo o)) ≡ n = subst (λ x. length (content (output_of x o)) ≡ n) e (sym (rw (le-leb _ _ h) at s)) in
    (k, one_room (output_of echo o) k (omega (arith, k, output_most echo (subst (λ x. length x ≤ 503) e h) o)) r)

pub label-next-requires-clause-size_in_bounds : goal.label-next-requires-clause-size_in_bounds
label-next-requires-clause-size_in_bounds c =
    (space c.args.self c.args.o c.args.echo.now c.bytes-echo.result.now c.args.buf.now c.size-size.result c.bytes-echo.ensures.whole c.bytes-echo.ensures.len_bound c.size-size.ensures c.requires).1.1.0

pub label-next-requires-clause-size_bound : goal.label-next-requires-clause-size_bound
label-next-requires-clause-size_bound c =
    (space c.args.self c.args.o c.args.echo.now c.bytes-echo.result.now c.args.buf.now c.size-size.result c.bytes-echo.ensures.whole c.bytes-echo.ensures.len_bound c.size-size.ensures c.requires).1.1.1

pub overflow_add-at : goal.overflow_add-at
overflow_add-at c =
    omega (arith, (space c.args.self c.args.o c.args.echo.now c.bytes-echo.result.now c.args.buf.now c.size-size.result c.bytes-echo.ensures.whole c.bytes-echo.ensures.len_bound c.size-size.ensures c.requires).1.1.0)

pub slice_bounds-write-end : goal.slice_bounds-write-end
slice_bounds-write-end c =
    omega (arith, (space c.args.self c.args.o c.args.echo.now c.bytes-echo.result.now c.args.buf.now c.size-size.result c.bytes-echo.ensures.whole c.bytes-echo.ensures.len_bound c.size-size.ensures c.requires).1.1.0)

pub returns : goal.returns
returns c =
    let echo = c.args.echo.now in
    let q = space c.args.self c.args.o echo c.bytes-echo.result.now c.args.buf.now c.size-size.result c.bytes-echo.ensures.whole c.bytes-echo.ensures.len_bound c.size-size.ensures c.requires in
    let at = c.args.self.at in
    let n = c.size-size.result in
    let buf = c.label-next.new.buf in
    let h : length echo ≤ 503 = subst (λ x. length x ≤ 503) c.bytes-echo.ensures.whole c.bytes-echo.ensures.len_bound in
    let k : (at + n) - at ≡ n = omega arith in
    let label = c.label-next.ensures.buf_after ∙ ap (λ (x : ℕ). labelled c.args.self x n c.args.buf.now) (c.kind.ensures echo) in
    one_laid (output_of echo c.args.o) q.0 c.label-next.ensures.value label
    (ap (put_mid at ((at + n) - at) buf) (echo_filled _ _ _ h (rw c.bytes-echo.ensures.whole at c.write.ensures) (simp (length-take, length-drop) (omega (arith, q.0, q.1.1.0))))
    ∙ put_part at ((at + n) - at) (content (output_of echo c.args.o)) buf (q.0 ∙ sym k) (omega (arith, q.1.1.0)))
