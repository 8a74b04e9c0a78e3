use Rattle.std.proofs.Common.{rules, ◌∙◌, ap, pos, get_or}
use Rattle.peer_table.specs.Laws.Samples.{all_samples}
use Rattle.peer_table.proofs.samples.sample_at.Goals as goal

pub returns : goal.returns
returns c =
    let a = c.args in
    let all = c.run_of-samples.ensures ∙ all_samples a.words.now a.numbers.now a.i in
    let there = ap (λ l. get_or l a.j (pos 0)) all in
    search rules
