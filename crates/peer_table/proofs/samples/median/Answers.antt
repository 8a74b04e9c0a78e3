use Rattle.std.proofs.Common.{rules, arith, ◌≡◌, ◌<◌, ◌/◌, List, ℤ, pos, length, get_or, w64, ◌∙◌, sym, ap, take_at, ℕ}
use Rattle.std.proofs.Math.Path.{ap₂}
use Rattle.std.proofs.Math.Facts.{to_z-of_z}
use Rattle.std.proofs.Math.ListN.{get_or-append}
use Rattle.std.proofs.lemmas.List.{length-take}
use Rattle.model.specs.Peers.{sorted, median_offset}
use Rattle.peer.proofs.Sorting.{length-sorted, median_none}
use Rattle.peer_table.specs.Rows.{peer_at}
use Rattle.peer_table.specs.Laws.Samples.{all_samples, few}
use Rattle.peer_table.proofs.samples.median.Goals as goal

pub returns-then-n-eq0 : goal.returns-then-n-eq0
returns-then-n-eq0 c =
    let a = c.args in
    let all = c.run_of-samples.ensures ∙ all_samples a.words.now a.numbers.now a.i in
    sym (median_none _ (sym (ap length all) ∙ c.if-n-eq0.true))

pub slice_bounds-copy-end : goal.slice_bounds-copy-end
slice_bounds-copy-end c =
    let a = c.args in
    let all = ap length (c.run_of-samples.ensures ∙ all_samples a.words.now a.numbers.now a.i) in
    omega (arith, all, few a.words.now a.numbers.now a.i)

pub slice_bounds-copy_from_slice-end : goal.slice_bounds-copy_from_slice-end
slice_bounds-copy_from_slice-end c =
    let a = c.args in
    let all = ap length (c.run_of-samples.ensures ∙ all_samples a.words.now a.numbers.now a.i) in
    simp length-take (omega (arith, all, few a.words.now a.numbers.now a.i))

pub copy_from_slice-requires : goal.copy_from_slice-requires
copy_from_slice-requires c =
    let a = c.args in
    let all = ap length (c.run_of-samples.ensures ∙ all_samples a.words.now a.numbers.now a.i) in
    simp length-take (omega (arith, all, few a.words.now a.numbers.now a.i))

pub returns : goal.returns
unfolding median_offset
returns c =
    let a = c.args in
    let os = (peer_at a.words.now a.numbers.now a.i).samples.offsets in
    let all = c.run_of-samples.ensures ∙ all_samples a.words.now a.numbers.now a.i in
    let run = c.copy_from_slice.ensures.after in
    let sorts : c.sort.new.s ≡ sorted os = c.sort.ensures ∙ ap sorted (take_at _ _ _ (ap length run) ∙ run ∙ all) in
    let many = ap length all in
    let inside : length c.run_of-samples.result.now / 2 < length c.sort.new.s = omega (arith, ap length sorts, length-sorted os, many, c.if-n-eq0.false) in
    let middle = ap₂ (λ (t : List ℤ) (n : ℕ). get_or t (n / 2) (pos 0)) sorts many in
    let there = get_or-append c.sort.new.s _ (pos 0) _ inside in
    to_z-of_z {w = w64} (search rules) ∙ there ∙ middle
