use Rattle.std.proofs.Common.{rules, w64, FitsSigned}
use Rattle.std.proofs.Math.Facts.{to_z-of_z}
use Rattle.std.specs.Prelude.{pos}
use Rattle.peer_table.specs.Places.{wide}
use Rattle.peer_table.specs.Laws.Moved.{moving_start, moving_on, moving_end}
use Rattle.peer_table.proofs.moves.move_numbers.Goals as goal

pub loop-k-init : goal.loop-k-init
loop-k-init c = moving_start (pos 0) wide.numbers c.args.numbers.now c.args.from c.args.to (search rules)

pub loop-k-preserved : goal.loop-k-preserved
loop-k-preserved c =
    let a = c.args in
    let l = c.loop-k in
    let f : FitsSigned w64 c.number_at-x.result = search rules in
    rw (c.put_number.ensures, to_z-of_z f, c.number_at-x.ensures) (moving_on (pos 0) wide.numbers a.numbers.now a.from a.to l.numbers l.k l.invariant (search rules))

pub returns : goal.returns
returns c =
    let a = c.args in
    let l = c.loop-k in
    moving_end (pos 0) wide.numbers a.numbers.now a.from a.to l.numbers l.k l.invariant (search rules)
