-- One output, or nothing.
use Rattle.answer.specs.Inner.Values.{maybe_outputs}
use Rattle.answer.specs.Laws.Runs.{none_laid}
use Rattle.answer.proofs.single.write_single.Goals as goal

pub write_output-requires : goal.write_output-requires
unfolding maybe_outputs
write_output-requires c = rw c.in-Some.is at c.requires

pub returns-in-Some : goal.returns-in-Some
unfolding maybe_outputs
returns-in-Some c = rw c.in-Some.is c.write_output.ensures

pub returns-in-None : goal.returns-in-None
unfolding maybe_outputs
returns-in-None c = rw c.in-None.is none_laid
