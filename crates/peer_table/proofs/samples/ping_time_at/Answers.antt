use Rattle.std.proofs.Common.{rules, ap, pos, get_or}
use Rattle.peer_table.specs.Laws.Samples.{time_read}
use Rattle.peer_table.proofs.samples.ping_time_at.Goals as goal

pub returns : goal.returns
returns c =
    let a = c.args in
    let there = time_read a.words.now a.numbers.now a.i a.j in
    let all = ap (λ l. get_or l a.j (pos 0)) c.run_of-times.ensures in
    search rules
