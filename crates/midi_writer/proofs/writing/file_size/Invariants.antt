use Rattle.std.proofs.Common.{drop}
use Rattle.midi_writer.specs.Laws.Turns.{Summed}
use Rattle.midi_writer.proofs.writing.file_size.Given as goal

abbrev pub invariant-loop-change : goal.invariant-loop-change
invariant-loop-change l = Summed l.changes (drop l.change-index l.changes) l.size l.forerunner
