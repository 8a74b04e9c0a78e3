-- That the premises of the theorems can be met: by the largest file, and by a spelling that is not the shortest.
use Rattle.std.specs.Prelude.{◌≡◌, Some}
use Rattle.midi_file.specs.Layout.{file}
use Rattle.midi_file.specs.Reading.{read_file}
use Rattle.midi_file.specs.Laws.Numbers.{Bytes}
use Rattle.midi_file.specs.Laws.Refusals.{farthest, count_edges}
use Rattle.midi_file.proofs.Laws.Theorems.{written_reads_back}
use Rattle.midi_file.proofs.Laws.FileBytes.{file_bytes}

pub largest_bytes : Bytes (file (farthest 64 0))
largest_bytes = file_bytes (farthest 64 0) count_edges.1

pub largest_read : read_file (file (farthest 64 0)) ≡ Some (farthest 64 0)
largest_read = written_reads_back (farthest 64 0) count_edges.1
