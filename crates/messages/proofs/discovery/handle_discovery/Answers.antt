-- A bye is always taken.
use Rattle.std.specs.Prelude.{Ok, Some}
use Rattle.std.proofs.Common.{refl, sym, subst}
use Rattle.wire.specs.declared.Message.TheVariants.{Discovery}
use Rattle.model.specs.Packet as packet
use Rattle.model.specs.Calls.{refusal_by}
use Rattle.peer_table.specs.Rows.{peers_of}
use Rattle.messages.specs.Inner.Heard.{box_of, Hears}
use Rattle.messages.specs.Laws.Heard.{taking}
use Rattle.messages.proofs.discovery.handle_discovery.Goals as goal

pub returns-in-ByeBye : goal.returns-in-ByeBye
unfolding refusal_by packet.handle_message
returns-in-ByeBye c =
    let a = c.args in
    let r = c.handle_byebye.result in
    let w = a.words.now in
    let l = a.numbers.now in
    let w' = c.handle_byebye.new.words in
    let l' = c.handle_byebye.new.numbers in
    let e = box_of a.own a.interfaces (peers_of a.count w l) in
    subst (λ d. Hears (Ok r) a.own a.interfaces a.count w w' l l' a.arrival (Some (Discovery d))) (sym c.in-ByeBye.is)
    (taking r 0 w w' l l' e (λ _. packet.handle_byebye e c.in-ByeBye.node_id) refl (c.handle_byebye.ensures a.own a.interfaces))
