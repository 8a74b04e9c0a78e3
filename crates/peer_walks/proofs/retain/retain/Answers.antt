-- The one at i stays, or goes.
use Rattle.std.specs.Prelude.{◌≡◌, ◌<◌, min}
use Rattle.std.proofs.Common.{arith, sym, ap, ◌∙◌}
use Rattle.peer_table.specs.Rows.{upto, peer_at, peers_of}
use Rattle.peer_walks.specs.Laws.Keeping.{keeping_start, keeping_in, keeping_out, keeping_end}
use Rattle.peer_walks.proofs.retain.retain.Goals.{then-stays, else-stays}
use Rattle.peer_walks.proofs.retain.retain.Goals as goal

pub loop-i-init : goal.loop-i-init
unfolding peers_of
loop-i-init g c =
    let e = c.held-n.ensures in
    (omega arith, e, λ test h. rw (← e) (keeping_start test c.held-n.result (peer_at c.args.words.now c.args.numbers.now)))

pub loop-i-preserved : goal.loop-i-preserved
loop-i-preserved g c =
    let i = c.loop-i.i in
    let n = c.held-n.result in
    let inv = c.loop-i.invariant in
    let f = peer_at c.loop-i.words c.loop-i.numbers in
    let below : i < n = omega arith in
    elim c.if-stays.branch [
      | then-stays w ↦ (
        omega (arith, w.kept-is, inv.0),
        inv.1,
        λ test h.
            let told : c.stays.result ≡ test (f i) = h (f i) c.stays.result (rw (sym (c.id_at-id.ensures c.loop-i.numbers), sym (c.seen_at-seen.ensures c.loop-i.words)) c.stays.ensures) in
            rw (w.words-is, w.numbers-is, w.kept-is)
            (keeping_in test n _ f c.loop-i.kept i (inv.2 test h) (peer_at w.move_down.new.words w.move_down.new.numbers) below (sym told ∙ w.if-stays.true) (w.move_down.ensures.here (omega (arith, below, inv.1, inv.0))) w.move_down.ensures.others),
      )
      | else-stays w ↦ (
        omega (arith, w.kept-is, inv.0),
        inv.1,
        λ test h.
            let told : c.stays.result ≡ test (f i) = h (f i) c.stays.result (rw (sym (c.id_at-id.ensures c.loop-i.numbers), sym (c.seen_at-seen.ensures c.loop-i.words)) c.stays.ensures) in
            rw (w.words-is, w.numbers-is, w.kept-is) (keeping_out test n _ f c.loop-i.kept i (inv.2 test h) below (sym told ∙ w.if-stays.false)),
      )
    ]

pub returns : goal.returns
unfolding peers_of
returns g c =
    λ test h.
    let k = c.loop-i.invariant.2 test h in
    let f = peer_at c.loop-i.words c.loop-i.numbers in
    let all : min c.loop-i.kept 16 ≡ c.loop-i.kept = omega (arith, c.loop-i.invariant.0, c.loop-i.invariant.1, k.within) in
    ap (upto f 0) all ∙ keeping_end test c.held-n.result _ f c.loop-i.kept c.loop-i.i k (omega arith)
