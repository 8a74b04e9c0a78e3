-- The list of a packet call's elections leaves none out: where each of them keeps session and offset, the call does.
use Rattle.std.specs.Prelude.{ℕ, ◌≡◌, refl, Bool, true, false, cond, List, [], ◌∷◌, Option}
use Rattle.std.proofs.Common.{sym, ◌∙◌, subst}
use Rattle.time.specs.declared.HostTime.{HostTime}
use Rattle.wire.specs.declared.SocketAddrPlain.{SocketAddrPlain}
use Rattle.wire.specs.Parse.{parse}
use Rattle.model.specs.Engine.{Box, Produced, Output, with_peers, with_next_broadcast, with_num_session_peers}
use Rattle.model.specs.Election.{resolve_if}
use Rattle.model.specs.Produce.{after_pings, after_broadcast, lapse, lapses, produce_outputs}
use Rattle.model.specs.Laws.Calls.Stages.{polled, settled, upkeep_box}
use Rattle.model.specs.Packet.{Arrival, Handled, handle_message}
use Rattle.model.specs.Calls.{packet, done, step, resolved_if_needed}
use Rattle.model.specs.Laws.Calls.Messages.{arrived}
use Rattle.lists.specs.Laws.Bools.{split}
use Rattle.lists.specs.Laws.Each.{Each, head, each_left, each_right}
use Rattle.model.proofs.Laws.Calls.Steps.{message_peers, produce_on, produce_off}
use Rattle.model.specs.Laws.Calls.Course.{Course, packet_ignored, packet_taken}
use Rattle.model.proofs.Laws.Calls.Course.{course}
use Rattle.model.specs.Laws.Distance.Statement.{Keeps, upkeep_elections, packet_elections}
use Rattle.model.proofs.Laws.Distance.Held.{elections_on}
use Rattle.model.specs.Laws.Distance.Elections.{Stays}
use Rattle.wire.specs.declared.Message.{Message}

stays_trans : {e x y : Box} → Stays e x → Stays x y → Stays e y
stays_trans p q = record { session = q.session ∙ p.session; offset = q.offset ∙ p.offset }

stays_resolve : (t : Bool) (now : HostTime) (e : Box) → Each (Keeps now) (cond t (e ∷ []) []) → Stays e (resolve_if t now e).box
unfolding resolve_if
stays_resolve true now e h = record { session = (head h).session; offset = (head h).offset }
stays_resolve false now e h = record { session = refl; offset = refl }

stays_produce : (now : HostTime) (e : Box) → Each (Keeps now) (upkeep_elections now e) → Stays e (produce_outputs now e).box
unfolding upkeep_box with_num_session_peers settled lapse polled after_pings after_broadcast with_peers with_next_broadcast
stays_produce now e h = split e.enabled
    (λ on. let s = stays_resolve (lapses now (polled now e)) now (lapse now (polled now e)) (subst (Each (Keeps now)) (elections_on now e on) h) in
    subst (λ (x : Produced). Stays e x.box) (sym (produce_on now e on)) (record { session = s.session; offset = s.offset }))
    (λ off. subst (λ (x : Produced). Stays e x.box) (sym (produce_off now e off)) (record { session = refl; offset = refl }))

stays_handle : (e : Box) (a : Arrival) (bytes : List ℕ) (m : Option Message) → Stays e (handle_message e a bytes m).box
unfolding with_peers
stays_handle e a bytes m = subst (Stays e) (sym (message_peers e a bytes m)) (record { session = refl; offset = refl })

-- an accepted packet call
pub packet_stays : (e : Box) (i : ℕ) (from : SocketAddrPlain) (bytes : List ℕ) (now : HostTime) (buf_size : ℕ) (after : Box) (os : List Output)
    → step e (packet i from bytes now buf_size) ≡ done after os → Each (Keeps now) (packet_elections e i from bytes now) → Stays e after
unfolding resolved_if_needed packet_elections
packet_stays e i from bytes now buf_size after os h ks = go (course e (packet i from bytes now buf_size) after os h)
  where
    go : Course e after os (packet i from bytes now buf_size) → Stays e after
    go (packet_ignored a t k) = subst (Stays e) (sym k.box) (record { session = refl; offset = refl })
    go (packet_taken a l on own full k) =
        let h : Handled = handle_message e (arrived i from now) bytes (parse bytes) in
        subst (Stays e) (sym k.box)
        (stays_trans (stays_handle e (arrived i from now) bytes (parse bytes))
        (stays_trans (stays_resolve h.needs_resolution now h.box (each_left (cond h.needs_resolution (h.box ∷ []) []) (upkeep_elections now (resolved_if_needed now h).box) ks))
        (stays_produce now (resolved_if_needed now h).box (each_right (cond h.needs_resolution (h.box ∷ []) []) (upkeep_elections now (resolved_if_needed now h).box) ks))))
