-- The event is its delta, FF 51, and 03 with the tempo, side by side.
use Rattle.std.proofs.Common.{arith, refl}
use Rattle.big_endian.specs.Bytes.{bytes}
use Rattle.big_endian.specs.Laws.Writing.{once, next}
use Rattle.midi_file.specs.Laws.Fields.{event_fields}
use Rattle.midi_file.specs.Laws.Events.{length-event}
use Rattle.midi_writer.specs.Laws.Fields.{wrote_as}
use Rattle.midi_writer.proofs.writing.write_event.Goals as goal

pub write-next-requires-clause-n_in_bounds : goal.write-next-requires-clause-n_in_bounds
write-next-requires-clause-n_in_bounds c = omega (arith, c.requires.tempo_in_bounds, length-event c.args.delta c.args.tempo)

pub overflow_add-next : goal.overflow_add-next
overflow_add-next c = omega (arith, c.write-next.ensures.1, c.requires.tempo_in_bounds, length-event c.args.delta c.args.tempo)

pub overflow_add-result : goal.overflow_add-result
overflow_add-result c = omega (arith, c.write-next.ensures.1, c.requires.tempo_in_bounds, length-event c.args.delta c.args.tempo)

pub returns : goal.returns
unfolding bytes
returns c = (
  wrote_as (event_fields _ _ c.requires.tempo_bound)
      (next _ c.write-next.ensures.0 c.write-next.ensures.1
      (next _ c.write.ensures refl
      (once c.write-2.ensures)))
      c.requires.tempo_in_bounds,
  omega (arith, c.write-next.ensures.1, length-event c.args.delta c.args.tempo),
)
