use Rattle.std.proofs.Common.{rules, arith, w64, FitsSigned}
use Rattle.std.proofs.Math.Facts.{to_z-of_z}
use Rattle.peer_table.specs.Laws.Samples.{more_changes, no_more}
use Rattle.peer_table.proofs.samples.push_sample.Goals as goal

pub returns-then-n-lt-MAX : goal.returns-then-n-lt-MAX
returns-then-n-lt-MAX c =
    let a = c.args in
    let f : FitsSigned w64 a.v.0 = search rules in
    let g : FitsSigned w64 a.ping_time.0 = search rules in
    rw (c.put_word.ensures, c.put_number-then-n-lt-MAX.ensures, c.put_number.ensures, to_z-of_z f, to_z-of_z g)
    (more_changes a.words.now a.numbers.now a.i c.sample_count-n.result a.ping_time a.v.0 (search rules) (search rules) (c.sample_count-n.ensures a.numbers.now) c.if-n-lt-MAX.true)

pub returns-else-n-lt-MAX : goal.returns-else-n-lt-MAX
returns-else-n-lt-MAX c =
    let a = c.args in
    no_more a.words.now a.numbers.now a.i a.ping_time a.v.0 (omega (arith, c.if-n-lt-MAX.false, c.sample_count-n.ensures a.numbers.now))
