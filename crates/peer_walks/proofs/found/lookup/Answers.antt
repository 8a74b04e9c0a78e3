-- The one at i fits, or the search goes on behind it.
use Rattle.std.specs.Prelude.{◌≡◌, ◌-◌, min}
use Rattle.std.proofs.Common.{arith, sym, ap, ◌∙◌}
use Rattle.lists.specs.Inner.Places.{place_from}
use Rattle.peer_table.specs.Rows.{upto, peer_at, peers_of}
use Rattle.peer_table.specs.Laws.Upto.{none_left, hit, miss}
use Rattle.peer_walks.proofs.found.lookup.Goals as goal

pub loop-i-init : goal.loop-i-init
unfolding peers_of
loop-i-init g c =
    let e : c.held-n.result - 0 ≡ min c.args.count 16 = omega (arith, c.held-n.ensures) in
    (c.held-n.ensures, λ test h r. ap (λ j. place_from test 0 (upto (peer_at c.args.words.now r) 0 j)) e)

pub returns-then-fits : goal.returns-then-fits
returns-then-fits g c =
    λ test h r.
    let p = peer_at c.args.words.now r c.loop-i.i in
    let told : c.fits.result ≡ test p = h p c.fits.result (rw (sym (c.id_at-id.ensures r), sym (c.addr_at-addr.ensures r)) c.fits.ensures) in
    sym (hit (peer_at c.args.words.now r) c.loop-i.i c.held-n.result (omega arith) test (sym told ∙ c.if-fits.true)) ∙ c.loop-i.invariant.1 test h r

pub loop-i-preserved : goal.loop-i-preserved
loop-i-preserved g c = (
  c.loop-i.invariant.0,
  λ test h r.
      let p = peer_at c.args.words.now r c.loop-i.i in
      let told : c.fits.result ≡ test p = h p c.fits.result (rw (sym (c.id_at-id.ensures r), sym (c.addr_at-addr.ensures r)) c.fits.ensures) in
      miss (peer_at c.args.words.now r) c.loop-i.i c.held-n.result (omega arith) test (sym told ∙ c.if-fits.false) ∙ c.loop-i.invariant.1 test h r,
)

pub returns : goal.returns
unfolding place_from
returns g c = λ test h r. ap (place_from test c.loop-i.i) (sym (none_left (peer_at c.args.words.now r) c.loop-i.i c.held-n.result (omega arith))) ∙ c.loop-i.invariant.1 test h r
