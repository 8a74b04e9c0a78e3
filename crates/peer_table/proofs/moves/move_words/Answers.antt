use Rattle.std.proofs.Common.{rules}
use Rattle.peer_table.specs.Places.{wide}
use Rattle.peer_table.specs.Laws.Moved.{moving_start, moving_on, moving_end}
use Rattle.peer_table.proofs.moves.move_words.Goals as goal

pub loop-k-init : goal.loop-k-init
loop-k-init c = moving_start 0 wide.words c.args.words.now c.args.from c.args.to (search rules)

pub loop-k-preserved : goal.loop-k-preserved
loop-k-preserved c =
    let a = c.args in
    let l = c.loop-k in
    rw (c.put_word.ensures, c.word_at-x.ensures) (moving_on 0 wide.words a.words.now a.from a.to l.words l.k l.invariant (search rules))

pub returns : goal.returns
returns c =
    let a = c.args in
    let l = c.loop-k in
    moving_end 0 wide.words a.words.now a.from a.to l.words l.k l.invariant (search rules)
