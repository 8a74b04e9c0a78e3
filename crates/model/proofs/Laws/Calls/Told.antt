-- What the outputs of calls tell of last: a box that tells of a value wherever a stage changes it has told of the one that it holds.
use Rattle.std.specs.Prelude.{ℕ, ◌≡◌, Bool, Option, Some, None, unwrap_or}
use Rattle.std.proofs.Math.Path.{refl, sym, ap}
use Rattle.std.proofs.Common.{◌∙◌}
use Rattle.std.proofs.Math.Bool.{true, false}
use mathlib.Core.List.{List, [], ◌∷◌, ◌++◌}
use Rattle.time.specs.declared.HostTime.{HostTime}
use Rattle.time.specs.Same.{same_time}
use Rattle.wire.specs.declared.SocketAddrPlain.{SocketAddrPlain}
use Rattle.wire.specs.declared.DiscoveryMsg.TheVariants.{Alive, ByeBye}
use Rattle.wire.specs.declared.MeasurementMsg.TheVariants.{Ping, Pong}
use Rattle.wire.specs.declared.Message.TheVariants.{Discovery, Measurement}
use Rattle.wire.specs.Layout.{byebye_bytes, ping_bytes}
use Rattle.wire.specs.Parse.{parse}
use Rattle.lists.specs.Lists.{first}
use Rattle.model.specs.Sums.{never}
use Rattle.model.specs.Peers.{Peer, Interface}
use Rattle.model.specs.Engine.{Box, Output, send, set_timer, multicast}
use Rattle.model.specs.Election.{resolve_if}
use Rattle.model.specs.Produce.{broadcast_due, broadcasts, after_broadcast, pings, after_pings, lapse, lapses, timer_outputs, count_outputs, asks}
use Rattle.model.specs.Laws.Calls.Messages.{arrived, pong_msg}
use Rattle.model.specs.Laws.Calls.Stages.{polled, settled, upkeep_outputs, upkeep_box, timer}
use Rattle.model.specs.Packet.{Arrival, unchanged, news, after_pong, response, handle_alive_of, handle_alive, handle_byebye, handle_ping, handle_pong_of, handle_pong, handle_message, owns}
use Rattle.model.specs.Calls.{Call, packet, tick, commit, switch, interface_added, interface_removed, io_error, Outcome, then_produce, resolved_if_needed, take_message, handle_timer, switch_on, switch_off, remove_interface, handle_io_error, step, next, run, outputs_of}
use Rattle.lists.specs.Laws.Each.{Each, nil, ◌▸◌, either, each_of_map, each_of_flat_map}
use Rattle.model.proofs.Laws.Calls.Steps.{by_admit, by_packet, by_commit, by_switch, by_add, by_produce, message_peers}
use Rattle.model.specs.Laws.Calls.Told.{last_told, told_over, Untold, Tells}
use Rattle.wire.specs.declared.Message.{Message}

-- a picker takes a value from some of the outputs
module _ {A : Type 0} (pick : Output → Option A) where
  pub told_append : (a : A) (xs ys : List Output) → last_told pick a (xs ++ ys) ≡ last_told pick (last_told pick a xs) ys
  told_append a [] ys = refl
  told_append a (x ∷ xs) ys = told_append (unwrap_or (pick x) a) xs ys

  pub told_past : {xs : List Output} → Each (Untold pick) xs → (a : A) (ys : List Output) → last_told pick a (xs ++ ys) ≡ last_told pick a ys
  told_past nil a ys = refl
  told_past (◌▸◌ {xs = xs} p h) a ys = ap (λ (o : Option A). last_told pick (unwrap_or o a) (xs ++ ys)) p ∙ told_past h a ys

  -- ---- packets and timers tell of none

  module _ (sends : (iface : ℕ) (to : SocketAddrPlain) (ps : List ℕ) → Untold pick (send iface to ps)) where
    untold_broadcasts : (now : HostTime) (e : Box) → Each (Untold pick) (broadcasts now e)
    unfolding broadcasts
    untold_broadcasts now e = either (broadcast_due now e) (each_of_map _ (λ i. sends i.id _ _) e.interfaces) nil

    untold_pings : (now : HostTime) (is : List Interface) (p : Peer) → Each (Untold pick) (pings now is p)
    unfolding pings
    untold_pings now is p = either (asks now p) (each_of_map _ (λ i. sends i.id _ _) is) nil

    untold_message : (e : Box) (a : Arrival) (bytes : List ℕ) (m : Option Message) → Each (Untold pick) (handle_message e a bytes m).outputs
    unfolding handle_message unchanged handle_alive handle_alive_of response handle_byebye handle_ping handle_pong handle_pong_of
    untold_message e a bytes None = nil
    untold_message e a bytes (Some (Discovery (Alive node timeline start_stop session mep4))) = either (news _ _) (sends a.iface _ _ ▸ nil) nil
    untold_message e a bytes (Some (Discovery (ByeBye node))) = nil
    untold_message e a bytes (Some (Measurement (Ping time prev))) = sends a.iface _ _ ▸ nil
    untold_message e a bytes (Some (Measurement (Pong session b2 a2 b1))) = go (first (owns a.from) e.peers)
      where
        go : (o : Option Peer) → Each (Untold pick) (handle_pong_of e a (pong_msg session b2 a2 b1) o).outputs
        go None = nil
        go (Some p) = either (after_pong (pong_msg session b2 a2 b1) a.now p).measuring (sends a.iface p.addr (ping_bytes a.now (Some b2)) ▸ nil) nil

  untold_timer : ((t : HostTime) → Untold pick (set_timer t)) → (t : HostTime) → Each (Untold pick) (timer_outputs t)
  unfolding timer_outputs
  untold_timer timers t = either (same_time t never) nil (timers t ▸ nil)

  -- ---- every call, and every list of calls

  module _ (held : Box → A) (t : Tells pick held) where
    tells_election : (b : Bool) (now : HostTime) (e : Box) → last_told pick (held e) (resolve_if b now e).outputs ≡ held (resolve_if b now e).box
    unfolding resolve_if
    tells_election true now e = t.election now e
    tells_election false now e = refl

    held_lapsed : (now : HostTime) (e : Box) → held (lapse now (polled now e)) ≡ held e
    unfolding lapse polled after_pings after_broadcast
    held_lapsed now e = t.peers _ _ ∙ t.peers _ _ ∙ t.broadcast _ e

    tells_settled : (now : HostTime) (e : Box) → last_told pick (held e) (settled now e).outputs ≡ held (settled now e).box
    unfolding settled
    tells_settled now e = ap (λ (a : A). last_told pick a (settled now e).outputs) (sym (held_lapsed now e)) ∙ tells_election (lapses now (polled now e)) now (lapse now (polled now e))

    tells_upkeep : (now : HostTime) (e : Box) → last_told pick (held e) (upkeep_outputs now e) ≡ held (upkeep_box now e)
    unfolding upkeep_outputs upkeep_box
    tells_upkeep now e =
        told_past (untold_broadcasts t.sends now e) (held e) _
        ∙ told_past (each_of_flat_map (pings now e.interfaces) (untold_pings t.sends now e.interfaces) e.peers) (held e) _
        ∙ told_append (held e) (settled now e).outputs _
        ∙ ap (λ (a : A). last_told pick a (timer_outputs (timer now e) ++ count_outputs (settled now e).box)) (tells_settled now e)
        ∙ told_past (untold_timer t.timers (timer now e)) (held (settled now e).box) _
        ∙ t.count (settled now e).box

    tells_message : (e : Box) (a : Arrival) (bytes : List ℕ) (m : Option Message)
        → let h = handle_message e a bytes m in last_told pick (held e) (h.outputs ++ (resolved_if_needed a.now h).outputs) ≡ held (resolved_if_needed a.now h).box
    unfolding resolved_if_needed
    tells_message e a bytes m =
        let h = handle_message e a bytes m in
        told_past (untold_message t.sends e a bytes m) (held e) (resolve_if h.needs_resolution a.now h.box).outputs
        ∙ ap (λ (x : A). last_told pick x (resolve_if h.needs_resolution a.now h.box).outputs) (sym (ap held (message_peers e a bytes m) ∙ t.peers _ e))
        ∙ tells_election h.needs_resolution a.now h.box

    module _ (e : Box) where
      abbrev Told : Outcome → Type 0
      Told o = last_told pick (held e) (outputs_of o) ≡ held (next e o)

      tells_produce : (os : List Output) (now : HostTime) (x : Box) → last_told pick (held e) os ≡ held x → Told (then_produce os now x)
      tells_produce os now x q =
          by_produce Told (λ n. refl) os now x
          (λ on. told_append (held e) os _ ∙ ap (λ (a : A). last_told pick a (upkeep_outputs now x)) q ∙ tells_upkeep now x)
          (λ off. told_append (held e) os [] ∙ q)

      tells_off : Told (switch_off e)
      unfolding switch_off
      tells_off = told_past (each_of_map _ (λ i. t.sends i.id multicast (byebye_bytes e.node_id)) e.interfaces) (held e) _ ∙ t.off e

      pub tells_step : (c : Call) → last_told pick (held e) (outputs_of (step e c)) ≡ held (next e (step e c))
      unfolding step take_message handle_timer switch_on remove_interface handle_io_error
      tells_step (packet iface from bytes now buf_size) = by_admit Told (λ n. refl) now buf_size _ (λ f. by_packet Told (λ n. refl) e refl (arrived iface from now) bytes
          (λ l on free. tells_produce _ now _ (tells_message e (arrived iface from now) bytes (parse bytes))))
      tells_step (tick now buf_size) = by_admit Told (λ n. refl) now buf_size _ (λ f. tells_produce [] now e refl)
      tells_step (commit s now buf_size) = by_admit Told (λ n. refl) now buf_size _ (λ f. by_commit Told (λ n. refl) e refl s now (tells_produce _ now _ (t.takes e s now)))
      tells_step (switch b now buf_size) = by_admit Told (λ n. refl) now buf_size _ (λ f. by_switch Told (λ n. refl) e refl b now (λ off. tells_produce _ now _ (t.on e now)) (λ on. tells_off))
      tells_step (interface_added iface addr) = by_add Told (λ n. refl) e (record { id = iface; addr = addr }) (λ free. sym (t.interfaces _ e))
      tells_step (interface_removed iface) = sym (t.interfaces _ e)
      tells_step (io_error iface error) = sym (t.interfaces _ e)

    -- from any box
    pub tells_run : (e : Box) (cs : List Call) → told_over pick (held e) e cs ≡ held (run e cs)
    unfolding run
    tells_run e [] = refl
    tells_run e (c ∷ cs) = ap (λ (a : A). told_over pick a (next e (step e c)) cs) (tells_step e c) ∙ tells_run (next e (step e c)) cs
