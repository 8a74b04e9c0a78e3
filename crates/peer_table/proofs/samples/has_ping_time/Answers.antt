use Rattle.std.proofs.Common.{rules, ap, ◌∙◌, ◌≡◌, take_all}
use Rattle.std.specs.List.{list_any}
use Rattle.std.specs.Ordering.{int_eq}
use Rattle.peer_table.specs.Laws.Samples.{has_time}
use Rattle.peer_table.proofs.samples.has_ping_time.Goals as goal

pub returns : goal.returns
returns c =
    let a = c.args in
    let is_among : list_any (λ x. int_eq x a.ping_time.0) c.run_of-times.result.now ≡ _ = ap (list_any (λ x. int_eq x a.ping_time.0)) c.run_of-times.ensures in
    search (rules, take_all) ∙ is_among ∙ has_time a.words.now a.numbers.now a.i a.ping_time
