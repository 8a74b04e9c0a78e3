-- From the one that was found.
use Rattle.std.proofs.Common.{sym, ◌∙◌}
use Rattle.lists.specs.Lists.{has_key}
use Rattle.model.specs.Peers.{peer_key}
use Rattle.peer.specs.Inner.Said.{alive_msg}
use Rattle.peer_table.specs.Rows.{peers_of}
use Rattle.peer_walks.specs.Laws.Placed.{found_below}
use Rattle.messages.specs.Laws.Heard.{alive_held}
use Rattle.messages.proofs.discovery.handle_alive.Goals as goal

pub handle_alive_at-requires : goal.handle_alive_at-requires
handle_alive_at-requires c =
    let a = c.args in
    let l = a.numbers.now in
    found_below (has_key peer_key a.said.node_id.0) a.count a.words.now l c.in-Some.i (sym (c.find.ensures l) ∙ c.in-Some.is)

pub returns-in-Some : goal.returns-in-Some
unfolding alive_msg
returns-in-Some c =
    let a = c.args in
    let w = a.words.now in
    let l = a.numbers.now in
    alive_held a.own a.interfaces a.count w l a.arrival (alive_msg a.said) c.handle_alive_at.result c.handle_alive_at.new.words c.handle_alive_at.new.numbers c.in-Some.i
    (sym (c.find.ensures l) ∙ c.in-Some.is)
    c.handle_alive_at.ensures.changed
    (c.handle_alive_at.ensures.tells (peers_of a.count w l))
