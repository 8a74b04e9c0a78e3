-- A size below 2 ^ 63.
use Rattle.std.proofs.Common.{pos, arith, ap, sym, ◌≡◌, ◌∙◌, le-leb, Some, to_z, of_z, ◌<◌, ◌^◌}
use Rattle.std.specs.Int.{w64}
use Rattle.std.proofs.lemmas.Bool.{lt-leb}
use Rattle.signed.specs.Laws.WrapLaws.{wrap64_read, bits_low}
use Rattle.tempo_text.specs.Laws.Sizes.{no_number_in, number_in}
use Rattle.tempo_text.proofs.numbers.nonnegative.Goals as goal

pub returns-in_err-size : goal.returns-in_err-size
returns-in_err-size c = c.from_residual.ensures ∙ no_number_in _ _ (omega arith) c.in_err-size.ensures pos

pub returns-then-fits : goal.returns-then-fits
returns-then-fits c =
    let n = c.in_ok-size.size in
    let h : n < 2 ^ 63 = omega arith in
    let z : to_z w64 (of_z w64 c.as_i64.result) ≡ pos n = wrap64_read _ _ c.as_i64.ensures ∙ bits_low n h in
    ap Some z ∙ sym (rw (le-leb n 9223372036854775807 (omega arith))) ∙ number_in _ _ (omega arith) _ c.in_ok-size.ensures pos

pub returns-else-fits : goal.returns-else-fits
returns-else-fits c =
    let n = c.in_ok-size.size in
    sym (rw (lt-leb n 9223372036854775807 (omega arith))) ∙ number_in _ _ (omega arith) _ c.in_ok-size.ensures pos
