use Rattle.std.proofs.Common.{drop}
use Rattle.midi_writer.specs.Laws.Laying.{Laid}
use Rattle.midi_writer.proofs.writing.write_track.Given as goal

abbrev pub invariant-loop-change : goal.invariant-loop-change
invariant-loop-change l = Laid l.initial.part l.changes l.part (drop l.change-index l.changes) l.at l.forerunner
