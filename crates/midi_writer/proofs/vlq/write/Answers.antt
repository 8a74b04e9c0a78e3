-- Each width is one or two numbers of the digits, side by side.
use Rattle.std.proofs.Common.{◌<◌, ◌≤◌, length, arith, ap}
use Rattle.midi_file.specs.Laws.Quantities.{vlq_3}
use Rattle.midi_writer.specs.Laws.Digits.{lays_1, lays_2, lays_3, lays_4}
use Rattle.midi_writer.proofs.vlq.write.Goals as goal

pub returns-then-n-lt128 : goal.returns-then-n-lt128
returns-then-n-lt128 c = lays_1 _ _ _ _ (omega arith) c.write.ensures

pub returns-then-n-lt16384 : goal.returns-then-n-lt16384
returns-then-n-lt16384 c = lays_2 _ _ _ _ (omega arith) (omega arith) c.write-then-n-lt16384.ensures

pub returns-then-n-lt2097152 : goal.returns-then-n-lt2097152
returns-then-n-lt2097152 c =
    let n = c.args.n in
    let k : 0x4000 ≤ n = omega arith in
    let h : n < 0x20_0000 = omega arith in
    lays_3 _ _ _ _ _ k h c.write-then-n-lt2097152.ensures c.write-then-n-lt2097152-2.ensures (omega (arith, c.requires.n_in_bounds, ap length (vlq_3 n k h)))

pub returns : goal.returns
returns c = lays_4 _ _ _ _ (omega arith) (omega arith) c.write-2.ensures
