use Rattle.std.proofs.Common.{drop}
use Rattle.tempo_text.specs.Laws.Sizes.{Read}
use Rattle.tempo_text.proofs.numbers.size_of.Given as goal

abbrev pub invariant-loop-digit : goal.invariant-loop-digit
invariant-loop-digit l = Read l.word (drop l.digit-index l.word) l.n
