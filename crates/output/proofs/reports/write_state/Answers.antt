-- The line, and the start and stop behind it.
use Rattle.std.proofs.Common.{arith, refl}
use Rattle.big_endian.specs.Bytes.{bytes}
use Rattle.wire.specs.Layout.{timeline_bytes, start_stop_bytes}
use Rattle.model.specs.Answer.{content}
use Rattle.big_endian.specs.Laws.Writing.{once, next, wrote}
use Rattle.output.proofs.reports.write_state.Goals as goal

pub returns : goal.returns
unfolding content timeline_bytes start_stop_bytes bytes
returns c = wrote (next _ c.put_timeline.ensures refl (once c.put_start_stop.ensures)) (omega arith)
