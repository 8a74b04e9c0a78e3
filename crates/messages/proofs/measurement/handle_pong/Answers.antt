-- From its owner, or nobody.
use Rattle.std.proofs.Common.{sym, ◌∙◌}
use Rattle.model.specs.Packet.{owns}
use Rattle.peer.specs.Inner.Said.{pong_msg}
use Rattle.peer_table.specs.Rows.{peers_of}
use Rattle.peer_walks.specs.Laws.Placed.{found_below}
use Rattle.messages.specs.Inner.Heard.{box_of}
use Rattle.messages.specs.Laws.Heard.{nothing_told, pong_held, pong_refused, pong_unheld}
use Rattle.messages.proofs.measurement.handle_pong.Goals as goal

pub returns-in_default : goal.returns-in_default
returns-in_default c =
    let a = c.args in
    let w = a.words.now in
    let l = a.numbers.now in
    λ own is.
    pong_unheld own is a.count w l a.arrival (pong_msg a.said) _ (sym (c.find_addr.ensures l) ∙ c.in_default.is) (nothing_told a.count w l own is)

pub returns-then-sampled_before : goal.returns-then-sampled_before
unfolding pong_msg
returns-then-sampled_before c =
    let a = c.args in
    let l = a.numbers.now in
    λ own is.
    pong_refused own is a.count a.words.now l a.arrival (pong_msg a.said) c.in-Some.i (sym (c.find_addr.ensures l) ∙ c.in-Some.is)
    (sym c.sampled_before.ensures ∙ c.if-sampled_before.true)

pub handle_pong_at-requires : goal.handle_pong_at-requires
handle_pong_at-requires c =
    let a = c.args in
    let l = a.numbers.now in
    found_below (owns a.arrival.from) a.count a.words.now l c.in-Some.i (sym (c.find_addr.ensures l) ∙ c.in-Some.is)

pub returns : goal.returns
unfolding pong_msg
returns c =
    let a = c.args in
    let w = a.words.now in
    let l = a.numbers.now in
    λ own is.
    pong_held own is a.count w l a.arrival (pong_msg a.said) c.in-Some.i (sym (c.find_addr.ensures l) ∙ c.in-Some.is) c.handle_pong_at.result c.handle_pong_at.new.words c.handle_pong_at.new.numbers
    (sym c.sampled_before.ensures ∙ c.if-sampled_before.false)
    c.handle_pong_at.ensures.changed
    (c.handle_pong_at.ensures.tells (box_of own is (peers_of a.count w l)))
