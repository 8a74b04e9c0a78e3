-- One neighbour is polled, and noted where it is asked.
use Rattle.std.specs.Prelude.{◌≡◌, ◌<◌, min, length, take}
use Rattle.std.proofs.Common.{rules, arith, sym, ap, ◌∙◌}
use Rattle.model.specs.Produce.{after_ping, asks}
use Rattle.peer_table.specs.Rows.{upto, peer_at, peers_of}
use Rattle.peer_walks.specs.Inner.Asked.{asked, addrs_of}
use Rattle.peer_walks.specs.Laws.Polling.{polling_start, changed, noted, polling_end}
use Rattle.peer_walks.proofs.polling.poll.Invariants.{addr}
use Rattle.peer_walks.proofs.polling.poll.Goals.{then-poll_at, else-poll_at}
use Rattle.peer_walks.proofs.polling.poll.Goals as goal

pub loop-i-init : goal.loop-i-init
unfolding peers_of asked
loop-i-init c =
    let a = c.args in
    let e = c.held-n.ensures in
    let k : length a.to.now ≡ 16 = search rules in
    (e, rw (← e) (polling_start (after_ping a.at) (asks a.at) addr c.held-n.result (peer_at a.words.now a.numbers.now) a.to.now (omega (arith, e, k))))

pub loop-i-preserved : goal.loop-i-preserved
unfolding after_ping
loop-i-preserved c =
    let a = c.args in
    let n = c.held-n.result in
    let i = c.loop-i.i in
    let f = peer_at c.loop-i.words c.loop-i.numbers in
    let f' = peer_at c.poll_at.new.words c.poll_at.new.numbers in
    let inv = c.loop-i.invariant in
    let below : i < n = omega arith in
    let one = c.poll_at.ensures.changed in
    let there = one.here (omega (arith, below, inv.0)) in
    elim c.if-poll_at.branch [
      | then-poll_at w ↦
          let told = w.if-poll_at.true in
          (inv.0, rw (w.to-is, w.k-is) (noted (after_ping a.at) (asks a.at) addr n _ _ f c.loop-i.to c.loop-i.k i inv.1 f' below one.others there _ (w.addr_at.ensures c.poll_at.new.numbers ∙ ap addr there) (sym c.poll_at.ensures.value ∙ told)))
      | else-poll_at w ↦
          let told = w.if-poll_at.false in
          (inv.0, rw (w.to-is, w.k-is) (changed (after_ping a.at) (asks a.at) addr n _ _ f c.loop-i.to c.loop-i.k i inv.1 f' below one.others there (sym c.poll_at.ensures.value ∙ told)))
    ]

pub returns-clause-numbers_after : goal.returns-clause-numbers_after
unfolding peers_of
returns-clause-numbers_after c =
    let a = c.args in
    let f = peer_at c.loop-i.words c.loop-i.numbers in
    let inv = c.loop-i.invariant in
    let done = polling_end (after_ping a.at) (asks a.at) addr c.held-n.result _ _ f c.loop-i.to c.loop-i.k c.loop-i.i inv.1 (omega arith) in
    ap (upto f 0) (sym inv.0) ∙ done.0

pub returns-clause-to_after : goal.returns-clause-to_after
unfolding addrs_of
returns-clause-to_after c =
    let a = c.args in
    let f = peer_at c.loop-i.words c.loop-i.numbers in
    let inv = c.loop-i.invariant in
    let done = polling_end (after_ping a.at) (asks a.at) addr c.held-n.result _ _ f c.loop-i.to c.loop-i.k c.loop-i.i inv.1 (omega arith) in
    let some : min c.loop-i.k 16 ≡ c.loop-i.k = omega (arith, inv.0, inv.1.within, inv.1.behind) in
    ap (λ m. take m c.loop-i.to) some ∙ done.1
