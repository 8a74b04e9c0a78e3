-- Of the neighbour that goes in.
use Rattle.std.specs.Prelude.{Bool, true, false, cond, ltb, length, ◌≡◌}
use Rattle.std.proofs.Common.{refl, sym, ap, subst, ◌∙◌, arith, lt-ltb}
use Rattle.lists.specs.Lists.{insert}
use Rattle.model.specs.Peers.{Peer, no_samples, peer_key}
use Rattle.model.specs.Packet.{session_changed, after_alive, handle_alive_of}
use Rattle.peer.specs.Held.{peer}
use Rattle.peer.specs.Inner.Said.{alive_msg}
use Rattle.peer_table.specs.Rows.{peers_of}
use Rattle.peer_table.specs.Laws.Peers.{length_peers}
use Rattle.messages.specs.Inner.Heard.{arrival_of, box_of, Tells}
use Rattle.messages.specs.Laws.Heard.{alive_new, alive_refused}
use Rattle.messages.proofs.discovery.handle_new.Goals as goal

-- none, cleared or not
either : (b : Bool) → cond b no_samples no_samples ≡ no_samples
either true = refl
either false = refl

pub returns-then-is_full : goal.returns-then-is_full
unfolding alive_msg
returns-then-is_full c =
    let a = c.args in
    alive_refused a.own a.interfaces a.count a.words.now a.numbers.now a.arrival (alive_msg a.said) c.requires c.if-is_full.true

pub returns : goal.returns
unfolding alive_msg
returns c =
    let a = c.args in
    let w = a.words.now in
    let l = a.numbers.now in
    let n = c.insert-grown.result in
    let m = alive_msg a.said in
    let from = a.arrival.from in
    let at = a.arrival.now in
    let ps = peers_of a.count w l in
    let fresh = c.new-fresh.ensures in
    let heard = c.after_alive-heard.result in
    let room = c.if-is_full.false in
    let same : peer heard no_samples ≡ after_alive from m at (peer c.new-fresh.result no_samples) = sym (ap (peer heard) (either (session_changed m (peer c.new-fresh.result no_samples)))) ∙ c.after_alive-heard.ensures no_samples in
    let below : ltb (length ps) 16 ≡ true = lt-ltb (length ps) 16 (omega (arith, room, length_peers a.count w l)) in
    let grown = c.insert-grown.ensures ∙ ap (λ (b : Bool). cond b (insert peer_key (peer heard no_samples) ps) ps) below ∙ ap (λ (p : Peer). insert peer_key p ps) (same ∙ ap (after_alive from m at) fresh) in
    alive_new a.own a.interfaces a.count w l a.arrival m c.requires c.answer_alive.result c.insert-grown.new.words c.insert-grown.new.numbers n room grown
    (subst (λ (p : Peer). Tells c.answer_alive.result n (handle_alive_of (box_of a.own a.interfaces ps) (arrival_of a.arrival) m p)) fresh (c.answer_alive.ensures from at ps no_samples no_samples same refl))
