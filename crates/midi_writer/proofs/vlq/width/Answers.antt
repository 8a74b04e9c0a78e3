-- `width` counts what `vlq` writes, by the same bounds.
use Rattle.std.proofs.Common.{length, sym, ap}
use Rattle.midi_file.specs.Laws.Quantities.{vlq_1, vlq_2, vlq_3, vlq_4}
use Rattle.midi_writer.proofs.vlq.width.Goals as goal

pub returns-then-n-lt128 : goal.returns-then-n-lt128
returns-then-n-lt128 c = sym (ap length (vlq_1 _ c.if-n-lt128.true))

pub returns-then-n-lt16384 : goal.returns-then-n-lt16384
returns-then-n-lt16384 c = sym (ap length (vlq_2 _ c.if-n-lt128.false c.if-n-lt16384.true))

pub returns-then-n-lt2097152 : goal.returns-then-n-lt2097152
returns-then-n-lt2097152 c = sym (ap length (vlq_3 _ c.if-n-lt16384.false c.if-n-lt2097152.true))

pub returns-else-n-lt2097152 : goal.returns-else-n-lt2097152
returns-else-n-lt2097152 c = sym (ap length (vlq_4 _ c.if-n-lt2097152.false))
