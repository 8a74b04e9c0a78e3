-- The words, the number and the newline, side by side.
use Rattle.std.proofs.Common.{arith}
use Rattle.text.specs.Ascii.{ascii}
use Rattle.text.specs.Laws.Placing.{both}
use Rattle.tempo_text.specs.Answer.{numbered}
use Rattle.tempo_text.specs.Laws.Lengths.{numbered_most}
use Rattle.tempo_text.proofs.put_numbered.Goals as goal

pub returns : goal.returns
unfolding numbered ascii
returns c =
    let a = c.args in
    record {
      laid = both (both (λ _. c.put_bytes-at.ensures) (λ _. c.put_decimal-at.ensures)) (λ _. c.put_bytes.ensures);
      short = numbered_most a.words.now a.n (omega arith);
    }
