-- The head is six numbers, side by side.
use Rattle.std.proofs.Common.{refl}
use Rattle.big_endian.specs.Bytes.{bytes}
use Rattle.big_endian.specs.Laws.Writing.{once, next}
use Rattle.midi_file.specs.Layout.{head}
use Rattle.midi_file.specs.Laws.Fields.{head_fields}
use Rattle.midi_writer.specs.Laws.Fields.{wrote_as}
use Rattle.midi_writer.proofs.writing.write_head.Goals as goal

pub returns : goal.returns
unfolding head bytes
returns c =
    wrote_as (head_fields _)
    (next (bytes 4 0x4d54_6864) c.write.ensures refl
    (next (bytes 4 6) c.write-2.ensures refl
    (next (bytes 4 1) c.write-3.ensures refl
    (next (bytes 2 1000) c.write-4.ensures refl
    (next (bytes 4 0x4d54_726b) c.write-5.ensures refl
    (once c.write-6.ensures))))))
    c.requires
