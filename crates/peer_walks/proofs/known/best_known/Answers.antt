-- One neighbour is taken on from those that are left.
use Rattle.std.specs.Prelude.{◌≡◌, ◌-◌, min}
use Rattle.std.proofs.Common.{arith, sym, ap, ◌∙◌}
use Rattle.model.specs.Peers.{Peer}
use Rattle.peer_table.specs.Rows.{upto, peer_at, peers_of}
use Rattle.peer_table.specs.Laws.Upto.{none_left, folded}
use Rattle.peer_walks.specs.Inner.Known.{Known, shared, best_known, known_with}
use Rattle.peer_walks.specs.Laws.Known.{best_known_none, best_known_cons}
use Rattle.peer_walks.proofs.known.best_known.Goals as goal

pub loop-i-init : goal.loop-i-init
unfolding peers_of
loop-i-init c =
    let a = c.args in
    let e : c.held-n.result - 0 ≡ min a.count 16 = omega (arith, c.held-n.ensures) in
    (c.held-n.ensures, ap (λ k. best_known a.session (shared a.own) (upto (peer_at a.words.now a.numbers.now) 0 k)) e)

pub loop-i-preserved : goal.loop-i-preserved
loop-i-preserved c =
    let a = c.args in
    let f = peer_at a.words.now a.numbers.now in
    let i = c.loop-i.i in
    let step : Known → Peer → Known = λ k p. known_with a.session p.session_id p.timeline_ghost p.start_stop_ghost k in
    let next : shared c.with_known-known.result ≡ step (shared c.loop-i.known) (f i) =
    c.with_known-known.ensures ∙ rw (c.session_at-theirs.ensures a.numbers.now, c.line_at-line.ensures, c.start_stop_at-start_stop.ensures)
    in (
      c.loop-i.invariant.0,
      folded f i c.held-n.result (omega arith) (best_known a.session) step (best_known_cons a.session) (shared c.loop-i.known) (shared c.with_known-known.result) next ∙ c.loop-i.invariant.1,
    )

pub returns : goal.returns
returns c =
    let a = c.args in
    let known = shared c.loop-i.known in
    sym (best_known_none a.session known)
    ∙ ap (best_known a.session known) (sym (none_left (peer_at a.words.now a.numbers.now) c.loop-i.i c.held-n.result (omega arith)))
    ∙ c.loop-i.invariant.1
