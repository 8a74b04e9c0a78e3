-- Each byte is looked at in turn, as `quantity_size` does, and the value is summed from the highest digit on.
use Rattle.std.proofs.Common.{arith}
use Rattle.midi_reader.specs.Laws.Found.{found_1, found_2, found_3, found_4, nothing_1, nothing_5}
use Rattle.midi_reader.proofs.vlq.read.Goals as goal

pub returns-then-a-lt128 : goal.returns-then-a-lt128
returns-then-a-lt128 c = found_1 _ _ c.byte_at-a.ensures c.if-a-lt128.true

pub returns-then-is_leading_zero : goal.returns-then-is_leading_zero
returns-then-is_leading_zero c = nothing_1 _ _ c.byte_at-a.ensures (omega arith)

pub returns-then-b-lt128 : goal.returns-then-b-lt128
returns-then-b-lt128 c =
    found_2 _ _ _ c.byte_at-a.ensures c.byte_at-b.ensures (omega arith) (omega arith) c.if-b-lt128.true

pub returns-then-c-lt128 : goal.returns-then-c-lt128
returns-then-c-lt128 c =
    found_3 _ _ _ _ c.byte_at-a.ensures c.byte_at-b.ensures c.byte_at-c.ensures (omega arith) (omega arith) (omega arith) (omega arith) c.if-c-lt128.true

pub returns-then-d-lt128 : goal.returns-then-d-lt128
returns-then-d-lt128 c =
    found_4 _ _ _ _ _ c.byte_at-a.ensures c.byte_at-b.ensures c.byte_at-c.ensures c.byte_at-d.ensures (omega arith) (omega arith) (omega arith) (omega arith) (omega arith) (omega arith) c.if-d-lt128.true

pub returns : goal.returns
returns c =
    nothing_5 _ _ _ _ _ c.byte_at-a.ensures c.byte_at-b.ensures c.byte_at-c.ensures c.byte_at-d.ensures (omega arith) (omega arith) (omega arith) (omega arith)
