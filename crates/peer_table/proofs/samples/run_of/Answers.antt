use Rattle.std.proofs.Common.{rules, arith, pos, ◌≡◌, ◌+◌, ◌-◌, ◌*◌, ◌∙◌, ap, ℕ}
use Rattle.peer_table.specs.Rows.{upto, number}
use Rattle.peer_table.specs.Laws.Samples.{few, none_past}
use Rattle.peer_table.specs.Laws.Upto.{run_is}
use Rattle.std.specs.Prelude.{take, drop}
use Rattle.peer_table.proofs.samples.run_of.Goals as goal

pub overflow_add-result : goal.overflow_add-result
overflow_add-result c = omega (arith, c.sample_count.ensures c.args.numbers.now, few c.args.words.now c.args.numbers.now c.args.i)

pub slice_bounds-result-end : goal.slice_bounds-result-end
slice_bounds-result-end c =
    let n = c.sample_count.ensures c.args.numbers.now in
    let most = few c.args.words.now c.args.numbers.now c.args.i in
    search rules

pub returns-then-i-lt-MOST : goal.returns-then-i-lt-MOST
returns-then-i-lt-MOST c =
    let a = c.args in
    let l = a.numbers.now in
    let n = c.sample_count.result in
    let start = a.i * 47 + a.at in
    let e : start + n - start ≡ n = omega arith in
    ap (λ (k : ℕ). take k (drop start l)) e
    ∙ run_is l (a.i * 47) a.at n (pos 0) (omega (arith, c.told-numbers, c.sample_count.ensures l, few a.words.now l a.i, c.requires, c.if-i-lt-MOST.true))
    ∙ ap (upto (number l a.i) a.at) (c.sample_count.ensures l)

pub returns-else-i-lt-MOST : goal.returns-else-i-lt-MOST
unfolding upto
returns-else-i-lt-MOST c = rw (none_past c.args.words.now c.args.numbers.now c.args.i (search rules) (search rules))
