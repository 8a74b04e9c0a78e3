-- Each turn reads one event; the pairs that were read, before those that are left, are all that the track has.
use Rattle.std.proofs.Common.{length}
use Rattle.midi_reader.specs.Laws.Track.{Progress}
use Rattle.midi_reader.proofs.reading.read_track.Given as goal

abbrev pub invariant-loop-rest : goal.invariant-loop-rest
invariant-loop-rest l = Progress l.file l.list l.rest l.tick

abbrev pub decreases-loop-rest : goal.decreases-loop-rest
decreases-loop-rest l = length l.rest
