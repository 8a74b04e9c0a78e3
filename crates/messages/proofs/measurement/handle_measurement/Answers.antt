-- A pong is of its sender's row.
use Rattle.std.specs.Prelude.{Some}
use Rattle.std.proofs.Common.{sym, subst}
use Rattle.wire.specs.declared.Message.TheVariants.{Measurement}
use Rattle.model.specs.Packet as packet
use Rattle.model.specs.Calls.{refusal_by}
use Rattle.peer.specs.Inner.Said.{pong_msg}
use Rattle.messages.specs.Inner.Heard.{box_of, Hears}
use Rattle.messages.proofs.measurement.handle_measurement.Goals as goal

pub returns-in-Pong : goal.returns-in-Pong
unfolding refusal_by packet.handle_message pong_msg box_of
returns-in-Pong c =
    let a = c.args in
    let r = c.handle_pong.result in
    let w = a.words.now in
    let l = a.numbers.now in
    let w' = c.handle_pong.new.words in
    let l' = c.handle_pong.new.numbers in
    λ is. subst (λ d. Hears r a.own is a.count w w' l l' a.arrival (Some (Measurement d))) (sym c.in-Pong.is) (c.handle_pong.ensures a.own is)
