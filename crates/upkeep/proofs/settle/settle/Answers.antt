-- Whether one goes is asked of the one that was seen longest ago; the three ends of the function are by the laws of upkeep.
use Rattle.std.proofs.Common.{◌≡◌, sym, ap, ◌∙◌, rules, not, List, pos}
use Rattle.std.proofs.Math.Path.{ap₂}
use borrow.Author.Tests.{not-true, not-false}
use Rattle.std.specs.Int.Signed.{le_z}
use Rattle.time.specs.declared.HostTime.{HostTime}
use Rattle.model.specs.Sums.{minus, never}
use Rattle.lists.specs.Lists.{keep}
use Rattle.model.specs.Peers.{Peer}
use Rattle.model.specs.Produce.{earliest_ping, min_last_seen, or_timeout, timer_outputs, recent}
use Rattle.peer_table.specs.Rows.{peers_of}
use Rattle.peer_walks.specs.Inner.Asked.{addrs_of}
use Rattle.upkeep.specs.Inner.Decided.{pinged}
use Rattle.upkeep.specs.Laws.AllStay.{all_kept, all_rest, none_held}
use Rattle.upkeep.specs.Laws.Kept.{loses}
use Rattle.upkeep.specs.Laws.Oldest.{oldest_stays}
use Rattle.upkeep.specs.Laws.Settled.{one_goes}
use Rattle.upkeep.proofs.settle.settle.Goals as goal

-- none goes exactly where the one that was seen longest ago stays
none_lost : (at cutoff seen : HostTime) (qs : List Peer) → cutoff ≡ minus at (pos 6_000_000) → seen ≡ min_last_seen never qs → le_z cutoff.0 seen.0 ≡ not (loses (recent at) qs)
none_lost at cutoff seen qs e f = ap₂ (λ (a b : HostTime). le_z a.0 b.0) e f ∙ oldest_stays at qs

pub returns-then-before : goal.returns-then-before
returns-then-before c =
    let a = c.args in
    let known = c.survey-before.ensures in
    let kept = c.all_stay.ensures in
    all_rest a.at a.own a.next (peers_of a.count a.words.now a.numbers.now) c.survey-before.result a.count 0 _ _ c.all_stay.result kept (sym known.is_calm_value ∙ c.if-before.true)
    (record { ping = known.ping_value; seen = known.seen_value; count = known.count_value })
    (ap (λ n. peers_of n a.words.now a.numbers.now) kept.left)
    (ap (λ n. addrs_of n a.asked.now) kept.asked ∙ none_held a.asked.now)

pub returns-then-le : goal.returns-then-le
returns-then-le c =
    let a = c.args in
    let p = c.poll-asks in
    let known = c.survey-polled.ensures in
    let kept = c.all_stay-then-le.ensures in
    let qs = peers_of a.count p.new.words p.new.numbers in
    let test : c.le.result ≡ le_z c.oldest_kept-cutoff.result.0 c.survey-polled.result.seen.0 = search rules in
    let stay = none_lost a.at c.oldest_kept-cutoff.result c.survey-polled.result.seen qs c.oldest_kept-cutoff.ensures known.seen_value in
    all_kept a.at a.own a.next (peers_of a.count a.words.now a.numbers.now) c.survey-polled.result a.count p.result _ _ c.all_stay-then-le.result kept qs p.ensures.numbers_after
    (not-true _ (sym stay ∙ sym test ∙ c.if-le.true))
    (record { ping = known.ping_value; seen = known.seen_value; count = known.count_value })
    (ap (λ n. peers_of n p.new.words p.new.numbers) kept.left)
    (ap (λ n. addrs_of n p.new.to) kept.asked ∙ p.ensures.to_after)

pub returns : goal.returns
returns c =
    let a = c.args in
    let p = c.poll-asks in
    let ps = peers_of a.count a.words.now a.numbers.now in
    let qs = peers_of a.count p.new.words p.new.numbers in
    let known = c.survey-rest.ensures in
    let test : c.le.result ≡ le_z c.oldest_kept-cutoff.result.0 c.survey-polled.result.seen.0 = search rules in
    let stay = none_lost a.at c.oldest_kept-cutoff.result c.survey-polled.result.seen qs c.oldest_kept-cutoff.ensures c.survey-polled.ensures.seen_value in
    let left = peers_of c.retain_since-left.result c.retain_since-left.new.words c.retain_since-left.new.numbers in
    let kept : left ≡ keep (recent a.at) qs = c.retain_since-left.ensures ∙ ap (λ (t : HostTime). keep (λ q. le_z t.0 q.last_seen.0) qs) c.oldest_kept-cutoff.ensures in
    let r = one_goes a.at a.own a.next ps qs c.resolve_session-resolved.result p.ensures.numbers_after left (not-false _ (sym stay ∙ sym test ∙ c.if-le.false)) kept c.resolve_session-resolved.ensures in
    let ping : c.survey-polled.result.ping ≡ earliest_ping a.next (pinged a.at ps) = c.survey-polled.ensures.ping_value ∙ ap (earliest_ping a.next) p.ensures.numbers_after in
    record {
      neighbours = r.0;
      pings = p.ensures.to_after;
      election = r.1;
      timer = c.timer_at.ensures ∙ ap timer_outputs (ap₂ or_timeout ping (known.seen_value ∙ ap (min_last_seen never) r.0));
      number = known.count_value;
    }
