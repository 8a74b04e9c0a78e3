-- What every call keeps of both lists, by what their operations keep.
use Rattle.std.specs.Prelude.{ℕ, ◌≤◌, ◌<◌, ◌≡◌, refl, Bool, true, false, ◌&&◌, not, cond, List, leb, length, Option, Some, None, unwrap_or}
use Rattle.std.proofs.Common.{arith, sym, ap, ◌∙◌, SFits, eqb-true, leb-false}
use Rattle.std.proofs.Math.Path.{subst}
use Rattle.std.proofs.lemmas.List.{length-map}
use Rattle.std.specs.Int.{w64}
use Rattle.time.specs.declared.HostTime.{HostTime}
use Rattle.timeline.specs.declared.SessionState.{SessionState}
use Rattle.wire.specs.declared.NodeId.{NodeId}
use Rattle.wire.specs.declared.SocketAddrPlain.{SocketAddrPlain}
use Rattle.wire.specs.declared.DiscoveryMsg.TheVariants.{Alive, ByeBye}
use Rattle.wire.specs.declared.MeasurementMsg.TheVariants.{Ping, Pong}
use Rattle.wire.specs.declared.Message.TheVariants.{Discovery, Measurement}
use Rattle.wire.specs.Parse.{parse}
use Rattle.lists.specs.Lists.{found, first, has_key, upsert, without}
use Rattle.model.specs.Peers.{Peer, Interface, peer_key, new_peer}
use Rattle.model.specs.Engine.{Box, Produced, with_state, with_interfaces, with_peers, with_num_session_peers, with_next_broadcast}
use Rattle.model.specs.Produce.{after_broadcast, after_ping, after_pings, lapse, produce_outputs}
use Rattle.model.specs.Laws.Calls.Messages.{arrived, alive_said, pong_msg}
use Rattle.model.specs.Laws.Calls.Stages.{polled, settled, upkeep_box}
use Rattle.model.specs.Packet.{Arrival, AliveMsg, unchanged, after_alive, handle_alive_of, handle_alive, handle_byebye, handle_ping, moved, measured, after_pong, handle_pong_of, handle_pong, handle_message, held_peer, owns}
use Rattle.model.specs.Commit.{taken}
use Rattle.model.specs.Calls.{Call, packet, tick, commit, switch, interface_added, interface_removed, io_error, Outcome, then_produce, resolved_if_needed, take_message, no_room_for, refusal_by, read_refusal, handle_timer, committed, switched_on, switched_off, switch_on, switch_off, remove_interface, handle_io_error, step, next, run}
use Rattle.lists.specs.Laws.Bools.{split, by_cond}
use Rattle.lists.specs.Laws.Each.{Each, nil, ◌▸◌, each_mem, each_map, each_keep, each_change_first, each_upsert_any, first_mem, length_keep, length-change, length_upsert_held, length_upsert_new, Ascending, none_left, ascending_upsert, ascending_keep, ascending_map, ascending_change}
use Rattle.model.proofs.Laws.Calls.Steps.{by_admit, by_packet, by_commit, by_switch, by_add, resolve_if_peers, resolve_if_interfaces, message_interfaces, settled_peers, produce_on, produce_off, produce_interfaces, committed_interfaces}
use Rattle.model.specs.Laws.Calls.Kept.{KeepsPeers, SaidIn, Anything, KeepsInterfaces, HasIn, Anywhere, KeepsPeer}
use Rattle.wire.specs.declared.Message.{Message}

pub anything_said : (c : Call) → SaidIn Anything c
anything_said c iface from bytes now buf_size e = tt

module _ {Says : SocketAddrPlain → Option Message → HostTime → Type 0} {L : List Peer → Type 0} (k : KeepsPeers Says L) where
  pub peers_lapse : (now : HostTime) (e : Box) → SFits w64 now.0 → L e.peers → L (lapse now (polled now e)).peers
  unfolding lapse polled after_pings after_broadcast with_peers with_next_broadcast
  peers_lapse now e f h = k.kept _ (k.pinged now f h)

  pub peers_settled : (now : HostTime) (e : Box) → SFits w64 now.0 → L e.peers → L (settled now e).box.peers
  peers_settled now e f h = subst L (sym (settled_peers now e)) (peers_lapse now e f h)

  pub peers_produce : (now : HostTime) (e : Box) → SFits w64 now.0 → L e.peers → L (produce_outputs now e).box.peers
  unfolding upkeep_box with_num_session_peers
  peers_produce now e f h = split e.enabled
      (λ on. subst (λ (x : Produced). L x.box.peers) (sym (produce_on now e on)) (peers_settled now e f h))
      (λ off. subst (λ (x : Produced). L x.box.peers) (sym (produce_off now e off)) h)

  pub peers_message : (e : Box) (a : Arrival) (bytes : List ℕ) (m : Option Message) → SFits w64 a.now.0 → Says a.from m a.now → read_refusal e a.from m ≡ 0
      → L e.peers → L (handle_message e a bytes m).box.peers
  unfolding handle_message unchanged handle_alive handle_alive_of handle_byebye handle_ping handle_pong handle_pong_of with_peers without
  peers_message e a bytes None f s free h = h
  peers_message e a bytes (Some (Discovery (Alive node timeline start_stop session mep4))) f s free h = k.alive a.from _ a.now f s free h
  peers_message e a bytes (Some (Discovery (ByeBye node))) f s free h = k.kept _ h
  peers_message e a bytes (Some (Measurement (Ping time prev))) f s free h = h
  peers_message e a bytes (Some (Measurement (Pong session b2 a2 b1))) f s free h = go (first (owns a.from) e.peers)
    where
      go : (o : Option Peer) → L (handle_pong_of e a (pong_msg session b2 a2 b1) o).box.peers
      go None = h
      go (Some p) = k.pong a.from (pong_msg session b2 a2 b1) a.now f s free h

  -- after a message and the election that it may call for
  pub peers_resolved : (e : Box) (a : Arrival) (bytes : List ℕ) (m : Option Message) → SFits w64 a.now.0 → Says a.from m a.now → read_refusal e a.from m ≡ 0
      → L e.peers → L (resolved_if_needed a.now (handle_message e a bytes m)).box.peers
  unfolding resolved_if_needed
  peers_resolved e a bytes m f s free h = subst L (sym (resolve_if_peers _ a.now _)) (peers_message e a bytes m f s free h)

  module _ (e : Box) (h : L e.peers) where
    abbrev Peered : Outcome → Type 0
    Peered o = L (next e o).peers

    pub peers_committed : (s : SessionState) (now : HostTime) → L (committed e s now).peers
    unfolding committed with_state with_next_broadcast
    peers_committed s now = by_cond (λ (x : Box). L x.peers) e.enabled (with_next_broadcast now (with_state (taken e s) e)) (with_state (taken e s) e) (λ on. h) (λ off. h)

    pub peers_step : (c : Call) → SaidIn Says c → L (next e (step e c)).peers
    unfolding step then_produce take_message handle_timer switch_on switched_on switch_off switched_off remove_interface handle_io_error with_interfaces
    peers_step (packet iface from bytes now buf_size) s = by_admit Peered (λ n. h) now buf_size _ (λ f. by_packet Peered (λ n. h) e h (arrived iface from now) bytes
        (λ l on free. peers_produce now _ f (peers_resolved e (arrived iface from now) bytes (parse bytes) f (s iface from bytes now buf_size refl) free h)))
    peers_step (tick now buf_size) s = by_admit Peered (λ n. h) now buf_size _ (λ f. peers_produce now e f h)
    peers_step (commit s now buf_size) u = by_admit Peered (λ n. h) now buf_size _ (λ f. by_commit Peered (λ n. h) e h s now (peers_produce now (committed e s now) f (peers_committed s now)))
    peers_step (switch b now buf_size) s = by_admit Peered (λ n. h) now buf_size _ (λ f. by_switch Peered (λ n. h) e h b now (λ off. peers_produce now (switched_on e now) f h) (λ on. k.alone))
    peers_step (interface_added iface addr) s = by_add Peered (λ n. h) e (record { id = iface; addr = addr }) (λ free. h)
    peers_step (interface_removed iface) s = h
    peers_step (io_error iface error) s = h

  pub peers_run : (e : Box) → L e.peers → {cs : List Call} → Each (SaidIn Says) cs → L (run e cs).peers
  unfolding run
  peers_run e h nil = h
  peers_run e h (◌▸◌ {x = c} s ss) = peers_run (next e (step e c)) (peers_step e h c s) ss

pub anywhere_added : (c : Call) → HasIn Anywhere c
anywhere_added c iface addr e = tt

module _ {Has : Interface → Type 0} {I : List Interface → Type 0} (k : KeepsInterfaces Has I) (e : Box) (h : I e.interfaces) where
  abbrev Placed : Outcome → Type 0
  Placed o = I (next e o).interfaces

  interfaces_produce : (now : HostTime) (x : Box) → x.interfaces ≡ e.interfaces → I (produce_outputs now x).box.interfaces
  interfaces_produce now x q = subst I (sym (produce_interfaces now x ∙ q)) h

  pub interfaces_step : (c : Call) → HasIn Has c → I (next e (step e c)).interfaces
  unfolding step then_produce take_message resolved_if_needed handle_timer switch_on switched_on switch_off switched_off remove_interface handle_io_error with_interfaces without
  interfaces_step (packet iface from bytes now buf_size) s = by_admit Placed (λ n. h) now buf_size _ (λ f. by_packet Placed (λ n. h) e h (arrived iface from now) bytes
      (λ l on free. interfaces_produce now _ (resolve_if_interfaces _ now _ ∙ message_interfaces e (arrived iface from now) bytes (parse bytes))))
  interfaces_step (tick now buf_size) s = by_admit Placed (λ n. h) now buf_size _ (λ f. interfaces_produce now e refl)
  interfaces_step (commit s now buf_size) u = by_admit Placed (λ n. h) now buf_size _ (λ f. by_commit Placed (λ n. h) e h s now (interfaces_produce now (committed e s now) (committed_interfaces e s now)))
  interfaces_step (switch b now buf_size) s = by_admit Placed (λ n. h) now buf_size _ (λ f. by_switch Placed (λ n. h) e h b now (λ off. interfaces_produce now (switched_on e now) refl) (λ on. h))
  interfaces_step (interface_added iface addr) s = by_add Placed (λ n. h) e (record { id = iface; addr = addr }) (λ free. k.added (record { id = iface; addr = addr }) (s iface addr refl) free h)
  interfaces_step (interface_removed iface) s = k.kept _ h
  interfaces_step (io_error iface error) s = k.kept _ h

-- ---- lists of neighbours: few, ascending, each with a property

-- the sender is held or new, under its id
pub sender_key : (n : NodeId) (from : SocketAddrPlain) (now : HostTime) (ps : List Peer) → (unwrap_or (held_peer n ps) (new_peer n from now)).id.0 ≡ n.0
unfolding new_peer
sender_key n from now ps = go (held_peer n ps) refl
  where
    go : (o : Option Peer) → held_peer n ps ≡ o → (unwrap_or o (new_peer n from now)).id.0 ≡ n.0
    go None e = refl
    go (Some p) e = eqb-true _ _ (first_mem (has_key peer_key n.0) p ps e).1

-- an alive that is not refused is from a node that is held or has room
pub has_room : (ps : List Peer) (from : SocketAddrPlain) (m : AliveMsg) → refusal_by ps from (alive_said m) ≡ 0 → no_room_for ps m.node_id ≡ false
unfolding refusal_by
has_room ps from m h = go (no_room_for ps m.node_id) h
  where
    go : (t : Bool) → ◌≡◌ {A = ℕ} (cond t 5 0) 0 → t ≡ false
    go true e = let o : ⊥ = omega arith in absurd o
    go false e = refl

-- `upsert` where a new key has room
pub upsert_few : {A : Type 0} (key : A → ℕ) (k n : ℕ) (x : A) (xs : List A) → key x ≡ k → not (found (first (has_key key k) xs)) && leb n (length xs) ≡ false → length xs ≤ n → length (upsert key x xs) ≤ n
upsert_few key k n x xs q free h = split (found (first (has_key key (key x)) xs))
    (λ e. omega (arith, length_upsert_held key x xs e))
    (λ e. let l : length xs < n = leb-false n (length xs) (ap (λ (t : Bool). not t && leb n (length xs)) (sym e ∙ ap (λ (j : ℕ). found (first (has_key key j) xs)) q) ∙ free) in
    omega (arith, length_upsert_new key x xs e))

pub keeps_few : KeepsPeers Anything (λ ps. length ps ≤ 16)
unfolding after_alive
keeps_few = record {
  alone = omega arith;
  pinged = λ now f {ps} h. omega (arith, length-map ps (after_ping now));
  kept = λ t {ps} h. omega (arith, length_keep t ps);
  alive = λ from m now f s {ps} free h. upsert_few peer_key m.node_id.0 16 (after_alive from m now (unwrap_or (held_peer m.node_id ps) (new_peer m.node_id from now))) ps
      (sender_key m.node_id from now ps) (has_room ps from m free) h;
  pong = λ from m now f s {ps} free h. omega (arith, length-change (owns from) (after_pong m now) ps);
}

pub keeps_ascending : KeepsPeers Anything (Ascending peer_key)
unfolding after_ping after_pong measured moved
keeps_ascending = record {
  alone = none_left;
  pinged = λ now f h. ascending_map peer_key (after_ping now) (λ p. refl) h;
  kept = λ t h. ascending_keep peer_key t h;
  alive = λ from m now f s free h. ascending_upsert peer_key _ h;
  pong = λ from m now f s free h. ascending_change peer_key _ _ (λ p e. refl) h;
}

module _ {Says : SocketAddrPlain → Option Message → HostTime → Type 0} {P : Peer → Type 0} (k : KeepsPeer Says P) where
  -- of the sender, held or new
  each_sender : (n : NodeId) (p : Peer) → P p → {ps : List Peer} → Each P ps → P (unwrap_or (held_peer n ps) p)
  each_sender n p new {ps} h = go (held_peer n ps) refl
    where
      go : (o : Option Peer) → held_peer n ps ≡ o → P (unwrap_or o p)
      go None e = new
      go (Some q) e = each_mem h (first_mem (has_key peer_key n.0) q ps e).0

  pub keeps_each : KeepsPeers Says (Each P)
  keeps_each = record {
    alone = nil;
    pinged = λ now f h. each_map (after_ping now) (k.pinged now f) h;
    kept = λ t h. each_keep t h;
    alive = λ from m now f s free h. each_upsert_any peer_key _ (k.alive from m now f s _ (each_sender m.node_id _ (k.fresh from m now f s) h)) h;
    pong = λ from m now f s {ps} free h. each_change_first _ _ (λ p e q. k.pong from m now f s ps p e free q) h;
  }
