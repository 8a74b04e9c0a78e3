-- `call_packet::in_place::packet_in` meets its contract.
use Rattle.std.proofs.Common.{◌≡◌, ◌≤◌, ℕ, ℤ, refl, sym, ap, ◌∙◌, subst, arith, length, drop, length-drop, List, ne_eqb, Option}
use Rattle.model.specs.Engine.{with_peers}
use Rattle.model.specs.Peers.{Peer}
use Rattle.model.specs.Produce.{produce_outputs}
use Rattle.model.specs.Packet.{Arrival, Handled, handle_message}
use Rattle.model.specs.Calls.{refused, packet, read_refusal, resolved_if_needed, step, handle_packet}
use Rattle.peer_table.specs.Rows.{peers_of}
use Rattle.wire.specs.declared.Message.{Message}
use Rattle.wire.specs.declared.SocketAddrPlain.{SocketAddrPlain}
use Rattle.engine_state.specs.declared.core_state.Core.{Core}
use Rattle.engine_state.specs.declared.OwnState.{OwnState}
use Rattle.engine_state.specs.Held.{core_box, held_in, own_in}
use Rattle.messages.specs.declared.Heard.{Heard}
use Rattle.messages.specs.declared.Refusal as message
use Rattle.messages.specs.declared.Refusal.TheVariants.{PeersFull, PongDoubled}
use Rattle.messages.specs.Inner.Heard.{box_of, heard, number_of}
use Rattle.call.specs.Inner.Answered.{written_answer}
use Rattle.call.specs.Laws.Admitted.{number_above}
use Rattle.call.specs.Laws.Ended.{Ended, ends_at_once, ends_refused, ends_done, ends_empty}
use Rattle.call_packet.specs.Inner.Received.{after_message}
use Rattle.call_packet.specs.Laws.Heard.{too_long, unheard, turned_down, handled_so}
use Rattle.call_packet.specs.Laws.Parts.{onto, message_parts, refusal_parts}
use Rattle.call_packet.proofs.in_place.packet_in.Goals as goal

-- what is said of the engine's parts holds of the box that it means
module _ (e : Core) (ps : List Peer) (own : OwnState) (is_own : own ≡ own_in e) (m : Option Message) where
  refusal_is : (from : SocketAddrPlain) → read_refusal (box_of own e.interfaces ps) from m ≡ read_refusal (core_box e ps) from m
  refusal_is from = ap (λ (o : OwnState). read_refusal (box_of o e.interfaces ps) from m) is_own ∙ refusal_parts e ps from m

  agrees : (t : Heard) (qs rs : List Peer) (a : Arrival) (bytes : List ℕ) → heard t qs bytes (box_of own e.interfaces ps) ≡ handle_message (box_of own e.interfaces ps) a bytes m
      → heard t qs bytes (core_box e rs) ≡ handle_message (core_box e ps) a bytes m
  unfolding heard with_peers core_box box_of
  agrees t qs rs a bytes k =
      ap (λ (h : Handled). onto h (core_box e ps)) k
      ∙ ap (λ (o : OwnState). onto (handle_message (box_of o e.interfaces ps) a bytes m) (core_box e ps)) is_own
      ∙ message_parts e ps a bytes m

-- of tables that are as they were
as-they-were : (P : List ℕ → List ℤ → Type 0) {w w' : List ℕ} {l l' : List ℤ} → w' ≡ w → l' ≡ l → P w l → P w' l'
as-they-were P {w} {w'} {l} {l'} p q x = subst (λ (a : List ℕ). P a l') (sym p) (subst (λ (a : List ℤ). P w a) (sym q) x)

-- no message that is turned down has the number of a call that is done
message_above : (r : message.Refusal) → number_of r ≡ 0 → ⊥
message_above PeersFull e = omega (arith, e)
message_above PongDoubled e = omega (arith, e)

pub returns-in-Err : goal.returns-in-Err
unfolding step
returns-in-Err c =
    let s = c.args in
    let arrival : Arrival = record { iface = s.iface.0; from = s.from; now = s.at } in
    let r = ends_at_once s.e s.words.now s.numbers.now (packet s.iface.0 s.from s.bytes.now s.at (length s.buf.now)) s.buf.now s.at
    (handle_packet (held_in s.e s.words.now s.numbers.now) arrival s.bytes.now) refl _ (c.number.ensures ∙ c.in-Err.ensures)
    (λ z. number_above c.in-Err.refusal (sym c.number.ensures ∙ z)) in
    record { returns_in = r.0; buf_after = r.1 }

pub returns-then-bytes-gt-LONGEST_PACKET : goal.returns-then-bytes-gt-LONGEST_PACKET
unfolding step
returns-then-bytes-gt-LONGEST_PACKET c =
    let s = c.args in
    let b = held_in s.e s.words.now s.numbers.now in
    let arrival : Arrival = record { iface = s.iface.0; from = s.from; now = s.at } in
    let r = ends_refused s.e s.words.now s.numbers.now (packet s.iface.0 s.from s.bytes.now s.at (length s.buf.now)) s.buf.now s.at
    (handle_packet b arrival s.bytes.now) refl 0 c.in_default.ensures refl _
    (too_long b arrival s.bytes.now c.if-bytes-gt-LONGEST_PACKET.true ∙ ap refused (sym c.number-then-bytes-gt-LONGEST_PACKET.ensures)) in
    record { returns_in = r.0; buf_after = r.1 }

pub returns-then-not-hears : goal.returns-then-not-hears
unfolding step core_box
returns-then-not-hears c =
    let s = c.args in
    let b = held_in s.e s.words.now s.numbers.now in
    let arrival : Arrival = record { iface = s.iface.0; from = s.from; now = s.at } in
    let r = ends_empty s.e s.words.now s.numbers.now (packet s.iface.0 s.from s.bytes.now s.at (length s.buf.now)) s.buf.now s.at
    (handle_packet b arrival s.bytes.now) refl 0 c.in_default.ensures refl _
    (unheard b arrival s.bytes.now c.parse_message-m.result c.parse_message-m.ensures c.if-bytes-gt-LONGEST_PACKET.false (sym c.hears.ensures ∙ c.if-not-hears.true))
    c.write_empty.ensures in
    record { returns_in = r.0; buf_after = r.1 }

pub returns-in-Err-handle_message : goal.returns-in-Err-handle_message
unfolding step core_box
returns-in-Err-handle_message c =
    let s = c.args in
    let b = held_in s.e s.words.now s.numbers.now in
    let ps = peers_of s.e.count s.words.now s.numbers.now in
    let m = c.parse_message-m.result in
    let arrival : Arrival = record { iface = s.iface.0; from = s.from; now = s.at } in
    let n = c.number-in-Err-handle_message.result in
    let is = c.number-in-Err-handle_message.ensures in
    let turned = c.in-Err-handle_message.ensures in
    let call = packet s.iface.0 s.from s.bytes.now s.at (length s.buf.now) in
    let r = as-they-were (λ (w : List ℕ) (l : List ℤ). Ended s.e s.words.now s.numbers.now call s.buf.now (record { core = s.e; number = n }) w l s.buf.now) turned.stays.0 turned.stays.1
    (ends_refused s.e s.words.now s.numbers.now call s.buf.now s.at (handle_packet b arrival s.bytes.now) refl 0 c.in_default.ensures refl n
    (turned_down b arrival s.bytes.now m c.parse_message-m.ensures c.if-bytes-gt-LONGEST_PACKET.false (sym c.hears.ensures ∙ c.if-not-hears.false) n
    (ne_eqb n 0 (λ z. message_above c.in-Err-handle_message.turned_down (sym is ∙ z)))
    (sym (refusal_is s.e ps c.own.result c.own.ensures m s.from) ∙ sym turned.number ∙ sym is))) in
    record { returns_in = r.0; buf_after = r.1 }

pub returns-in-Ok : goal.returns-in-Ok
unfolding step core_box
returns-in-Ok c =
    let s = c.args in
    let b = held_in s.e s.words.now s.numbers.now in
    let ps = peers_of s.e.count s.words.now s.numbers.now in
    let m = c.parse_message-m.result in
    let arrival : Arrival = record { iface = s.iface.0; from = s.from; now = s.at } in
    let taken = c.in-Ok.ensures in
    let short = c.if-bytes-gt-LONGEST_PACKET.false in
    let t = c.take_heard-core in
    let echo = drop 9 s.bytes.now in
    let brief : length echo ≤ 503 = omega (arith, short, length-drop 9 s.bytes.now) in
    let same = agrees s.e ps c.own.result c.own.ensures m c.in-Ok.taken _ _ arrival s.bytes.now (taken.takes.agrees s.bytes.now) in
    let r = ends_done s.e s.words.now s.numbers.now (packet s.iface.0 s.from s.bytes.now s.at (length s.buf.now)) s.buf.now s.at
    (handle_packet b arrival s.bytes.now) refl 0 c.in_default.ensures refl _ _ echo t.result _ _ _
    (handled_so b arrival s.bytes.now m c.parse_message-m.ensures short (sym c.hears.ensures ∙ c.if-not-hears.false)
    (sym (refusal_is s.e ps c.own.result c.own.ensures m s.from) ∙ sym taken.number))
    brief
    (t.ensures.numbers_after ∙ ap (λ (h : Handled). (produce_outputs s.at (resolved_if_needed s.at h).box).box) same)
    (t.ensures.buf_after ∙ ap (λ (h : Handled). written_answer echo (after_message s.at h) s.buf.now) same) in
    record { returns_in = r.0; buf_after = r.1 }
