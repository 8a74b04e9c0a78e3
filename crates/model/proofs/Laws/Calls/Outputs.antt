-- How much a call puts out: at most 73 outputs, whose answer fits 4,096 bytes, from any box within 16 neighbours and 4 interfaces.
use Rattle.std.specs.Prelude.{ℕ, ◌+◌, ◌*◌, ◌≤◌, ◌≡◌, refl, Bool, true, false, cond, eqb, drop, Option, Some, None}
use Rattle.std.proofs.Common.{mul-le-mul_right, arith, sym, ◌∙◌, subst, length-append, length-drop, SFits}
use mathlib.Core.List.{List, [], ◌∷◌, ◌++◌, map, flat_map}
use Rattle.std.proofs.Math.ListN.{length}
use Rattle.std.specs.Int.{w64}
use Rattle.big_endian.specs.Bytes.{bytes}
use Rattle.big_endian.specs.Laws.Numbers.{length-bytes}
use Rattle.time.specs.declared.HostTime.{HostTime}
use Rattle.time.specs.Same.{same_time}
use Rattle.timeline.specs.declared.Timeline.{Timeline}
use Rattle.timeline.specs.declared.StartStopState.{StartStopState}
use Rattle.timeline.specs.declared.SessionState.{SessionState}
use Rattle.wire.specs.declared.NodeId.{NodeId}
use Rattle.wire.specs.declared.SocketAddrPlain.{SocketAddrPlain}
use Rattle.wire.specs.declared.DiscoveryMsg.TheVariants.{Alive, ByeBye}
use Rattle.wire.specs.declared.MeasurementMsg.TheVariants.{Ping, Pong}
use Rattle.wire.specs.declared.Message.TheVariants.{Discovery, Measurement}
use Rattle.wire.specs.Layout.{timeline_bytes, start_stop_bytes, addr_bytes, ping_bytes, pong_bytes, byebye_bytes}
use Rattle.wire.specs.Parse.{parse}
use Rattle.wire.specs.Laws.Sizes.{alive_93, alive_107, byebye_20, ping_25, ping_41, pong_size}
use Rattle.model.specs.Sums.{never}
use Rattle.lists.specs.Lists.{first}
use Rattle.model.specs.Peers.{Peer, Interface}
use Rattle.model.specs.Engine.{Box, Output, send, state_changed, num_peers_changed, set_timer, multicast, our_alive, timeline_to_ghost, start_stop_to_ghost}
use Rattle.model.specs.Election.{best_session, changes, resolve_outputs, resolve_if}
use Rattle.model.specs.Produce.{broadcast_due, broadcasts, pings, timer_outputs, session_peers, count_outputs, asks}
use Rattle.model.specs.Laws.Calls.Messages.{arrived, pong_msg}
use Rattle.model.specs.Laws.Calls.Stages.{settled, upkeep_outputs, timer}
use Rattle.model.specs.Packet.{Arrival, Handled, unchanged, news, response, handle_alive_of, handle_alive, handle_byebye, handle_ping, after_pong, handle_pong_of, handle_pong, handle_message, owns}
use Rattle.model.specs.Calls.{Call, packet, tick, commit, switch, interface_added, interface_removed, io_error, Outcome, refused, done, then_produce, resolved_if_needed, take_message, read_refusal, handle_timer, committed, unstarted, switched_on, switch_on, switch_off, remove_interface, handle_io_error, step}
use Rattle.model.specs.Answer.{kind, content, contents, answer, buffer_after}
use Rattle.lists.specs.Laws.Bools.{by_cond}
use Rattle.model.proofs.Laws.Calls.Steps.{by_admit, by_packet, by_commit, by_switch, by_add, by_produce, resolve_if_interfaces, message_interfaces, committed_interfaces}
use Rattle.model.proofs.Laws.Calls.Kept.{keeps_few, peers_resolved, peers_committed}
use Rattle.model.specs.Laws.Calls.Outputs.{size, sizes, Upto}
use Rattle.wire.specs.declared.Message.{Message}

lengths_contents : (os : List Output) → length (map kind os) + (length (flat_map (λ o. bytes 2 (length (content o))) os) + length (contents os)) ≡ sizes os
unfolding sizes contents flat_map
lengths_contents [] = refl
lengths_contents (o ∷ os) = omega (
  arith,
  lengths_contents os,
  length-append (bytes 2 (length (content o))) (flat_map (λ (x : Output). bytes 2 (length (content x))) os),
  length-bytes 2 (length (content o)),
  length-append (content o) (flat_map content os),
)

-- two numbers of two bytes in front
pub answer_size : (os : List Output) → length (answer os) ≡ 4 + sizes os
unfolding answer
answer_size os =
    let ks = map kind os in
    let ls = flat_map (λ (o : Output). bytes 2 (length (content o))) os in
    omega (
      arith,
      lengths_contents os,
      length-append (bytes 2 (length os)) (bytes 2 (length (contents os)) ++ (ks ++ (ls ++ contents os))),
      length-append (bytes 2 (length (contents os))) (ks ++ (ls ++ contents os)),
      length-append ks (ls ++ contents os),
      length-append ls (contents os),
      length-bytes 2 (length os),
      length-bytes 2 (length (contents os)),
    )

sizes_append : (xs ys : List Output) → sizes (xs ++ ys) ≡ sizes xs + sizes ys
unfolding sizes
sizes_append [] ys = omega arith
sizes_append (x ∷ xs) ys = omega (arith, sizes_append xs ys)

upto_nil : {n b : ℕ} → Upto n b []
unfolding sizes
upto_nil = record { few = omega arith; small = omega arith }

upto_one : {b : ℕ} (o : Output) → size o ≤ b → Upto 1 b (o ∷ [])
unfolding sizes
upto_one o h = record { few = omega arith; small = omega arith }

upto_append : {m n b c : ℕ} (xs ys : List Output) → Upto m b xs → Upto n c ys → Upto (m + n) (b + c) (xs ++ ys)
upto_append xs ys h k = record { few = omega (arith, length-append xs ys, h.few, k.few); small = omega (arith, sizes_append xs ys, h.small, k.small) }

upto_more : {m n b c : ℕ} {os : List Output} → m ≤ n → b ≤ c → Upto m b os → Upto n c os
upto_more h k u = record { few = omega (arith, u.few); small = omega (arith, u.small) }

-- where the test fails nothing is put out
upto_if : {n b : ℕ} (t : Bool) (os : List Output) → Upto n b os → Upto n b (cond t os [])
upto_if {n} {b} t os u = by_cond (Upto n b) t os [] (λ e. u) (λ e. upto_nil)

upto_unless : {n b : ℕ} (t : Bool) (os : List Output) → Upto n b os → Upto n b (cond t [] os)
upto_unless {n} {b} t os u = by_cond (Upto n b) t [] os (λ e. upto_nil) (λ e. u)

module _ {A : Type 0} (n b : ℕ) (f : A → List Output) (h : (x : A) → Upto n b (f x)) where
  upto_each : (xs : List A) → Upto (length xs * n) (length xs * b) (flat_map f xs)
  unfolding flat_map
  upto_each [] = upto_nil
  upto_each (x ∷ xs) = let u = upto_append (f x) (flat_map f xs) (h x) (upto_each xs) in record { few = omega (arith, u.few); small = omega (arith, u.small) }

  upto_flat_map : (k : ℕ) (xs : List A) → length xs ≤ k → Upto (k * n) (k * b) (flat_map f xs)
  upto_flat_map k xs l = upto_more (mul-le-mul_right n l) (mul-le-mul_right b l) (upto_each xs)

-- one output an entry
upto_map : {A : Type 0} (b : ℕ) (f : A → Output) → ((x : A) → size (f x) ≤ b) → (k : ℕ) (xs : List A) → length xs ≤ k → Upto k (k * b) (map f xs)
upto_map {A} b f h k xs l = upto_more l (mul-le-mul_right b l) (go xs)
  where
    go : (xs : List A) → Upto (length xs) (length xs * b) (map f xs)
    go [] = upto_nil
    go (x ∷ xs) = let u = upto_append (f x ∷ []) (map f xs) (upto_one (f x) (h x)) (go xs) in record { few = omega (arith, u.few); small = omega (arith, u.small) }

-- ---- the sizes

-- the interface and the address take 10 bytes
size_send : (iface : ℕ) (to : SocketAddrPlain) (ps : List ℕ) → size (send iface to ps) ≡ 13 + length ps
unfolding content addr_bytes bytes
size_send iface to ps = omega arith

module _ (iface : ℕ) (to : SocketAddrPlain) (e : Box) (reply : Bool) where
  abbrev shared_line : Timeline
  shared_line = timeline_to_ghost e.session_offset e.state.timeline

  abbrev shared_start_stop : StartStopState
  shared_start_stop = start_stop_to_ghost e.session_offset e.state.start_stop

  size_alive : (mep4 : Option SocketAddrPlain) → size (send iface to (our_alive e mep4 reply)) ≤ 120
  unfolding our_alive
  size_alive None = omega (arith, size_send iface to (our_alive e None reply), alive_93 e.node_id e.session_id shared_line shared_start_stop reply)
  size_alive (Some a) = omega (arith, size_send iface to (our_alive e (Some a) reply), alive_107 e.node_id e.session_id shared_line shared_start_stop reply a)

size_byebye : (iface : ℕ) (to : SocketAddrPlain) (node : NodeId) → size (send iface to (byebye_bytes node)) ≤ 33
size_byebye iface to node = omega (arith, size_send iface to (byebye_bytes node), byebye_20 node)

size_ping : (iface : ℕ) (to : SocketAddrPlain) (now : HostTime) → size (send iface to (ping_bytes now None)) ≤ 38
size_ping iface to now = omega (arith, size_send iface to (ping_bytes now None), ping_25 now)

-- the ping that answers a pong
size_next_ping : (iface : ℕ) (to : SocketAddrPlain) (now ghost : HostTime) → size (send iface to (ping_bytes now (Some ghost))) ≤ 557
size_next_ping iface to now ghost = omega (arith, size_send iface to (ping_bytes now (Some ghost)), ping_41 now ghost)

-- of a ping of 512 bytes
size_pong : (iface : ℕ) (to : SocketAddrPlain) (session : NodeId) (ghost : HostTime) (bytes : List ℕ) → length bytes ≤ 512 → size (send iface to (pong_bytes session ghost (drop 9 bytes))) ≤ 557
size_pong iface to session ghost bytes h =
    omega (arith, size_send iface to (pong_bytes session ghost (drop 9 bytes)), pong_size session ghost (drop 9 bytes), length-drop 9 bytes)

size_state : (s : SessionState) → size (state_changed s) ≤ 44
unfolding content timeline_bytes start_stop_bytes bytes
size_state s = omega arith

size_timer : (t : HostTime) → size (set_timer t) ≤ 11
unfolding content bytes
size_timer t = omega arith

size_count : (n : ℕ) → size (num_peers_changed n) ≤ 7
unfolding content bytes
size_count n = omega arith

-- ---- the stages

upto_broadcasts : (now : HostTime) (e : Box) → length e.interfaces ≤ 4 → Upto 4 480 (broadcasts now e)
unfolding broadcasts
upto_broadcasts now e hi = upto_if (broadcast_due now e) _ (upto_map 120 (λ i. send i.id multicast (our_alive e (Some i.addr) false)) (λ i. size_alive i.id multicast e false _) 4 e.interfaces hi)

upto_pings : (now : HostTime) (is : List Interface) → length is ≤ 4 → (p : Peer) → Upto 4 152 (pings now is p)
unfolding pings
upto_pings now is hi p = upto_if (asks now p) _ (upto_map 38 (λ i. send i.id p.addr (ping_bytes now None)) (λ i. size_ping i.id p.addr now) 4 is hi)

upto_election : (t : Bool) (now : HostTime) (e : Box) → Upto 1 44 (resolve_if t now e).outputs
unfolding resolve_if resolve_outputs
upto_election true now e = upto_if (changes (best_session now e) e) _ (upto_one _ (size_state _))
upto_election false now e = upto_nil

upto_timer : (t : HostTime) → Upto 1 11 (timer_outputs t)
unfolding timer_outputs
upto_timer t = upto_unless (same_time t never) _ (upto_one _ (size_timer t))

upto_count : (e : Box) → Upto 1 7 (count_outputs e)
unfolding count_outputs
upto_count e = upto_unless (eqb (session_peers e) e.num_session_peers) _ (upto_one _ (size_count _))

pub upto_upkeep : (now : HostTime) (e : Box) → length e.peers ≤ 16 → length e.interfaces ≤ 4 → Upto 71 2974 (upkeep_outputs now e)
unfolding upkeep_outputs settled
upto_upkeep now e hp hi =
    upto_append (broadcasts now e) _ (upto_broadcasts now e hi)
    (upto_append (flat_map (pings now e.interfaces) e.peers) _ (upto_flat_map 4 152 (pings now e.interfaces) (upto_pings now e.interfaces hi) 16 e.peers hp)
    (upto_append (settled now e).outputs _ (upto_election _ now _) (upto_append (timer_outputs (timer now e)) _ (upto_timer _) (upto_count (settled now e).box))))

-- a message is answered by one packet at most
pub upto_message : (e : Box) (a : Arrival) (bytes : List ℕ) (m : Option Message) → length bytes ≤ 512 → Upto 1 557 (handle_message e a bytes m).outputs
unfolding handle_message unchanged handle_alive handle_alive_of response handle_byebye handle_ping handle_pong handle_pong_of
upto_message e a bytes None hb = upto_nil
upto_message e a bytes (Some (Discovery (Alive node timeline start_stop session mep4))) hb =
    upto_if (news _ _) _ (upto_more (omega arith) (omega arith) (upto_one _ (size_alive a.iface _ e true _)))
upto_message e a bytes (Some (Discovery (ByeBye node))) hb = upto_nil
upto_message e a bytes (Some (Measurement (Ping time prev))) hb = upto_one _ (size_pong a.iface a.from _ _ bytes hb)
upto_message e a bytes (Some (Measurement (Pong session b2 a2 b1))) hb = go (first (owns a.from) e.peers)
  where
    go : (o : Option Peer) → Upto 1 557 (handle_pong_of e a (pong_msg session b2 a2 b1) o).outputs
    go None = upto_nil
    go (Some p) = upto_if (after_pong (pong_msg session b2 a2 b1) a.now p).measuring (send a.iface p.addr (ping_bytes a.now (Some b2)) ∷ [])
        (upto_one (send a.iface p.addr (ping_bytes a.now (Some b2))) (size_next_ping a.iface p.addr a.now b2))

-- ---- the calls

abbrev Fits : Outcome → Type 0
Fits (refused n) = Unit {0}
Fits (done e os) = Upto 73 3575 os

-- two outputs before upkeep
fits_produce : (os : List Output) (now : HostTime) (e : Box) → Upto 2 601 os → length e.peers ≤ 16 → length e.interfaces ≤ 4 → Fits (then_produce os now e)
fits_produce os now e u hp hi =
    by_produce Fits (λ n. tt) os now e
    (λ on. upto_append os (upkeep_outputs now e) u (upto_upkeep now e hp hi))
    (λ off. upto_more (omega arith) (omega arith) (upto_append os [] u (upto_nil {n = 0} {b = 0})))

fits_one : {o : Output} → size o ≤ 44 → Upto 2 601 (o ∷ [])
fits_one {o} h = upto_more (omega arith) (omega arith) (upto_one o h)

module _ (e : Box) (hp : length e.peers ≤ 16) (hi : length e.interfaces ≤ 4) where
  -- the packet's answer and the election's state, and upkeep's outputs
  fits_message : (a : Arrival) (bytes : List ℕ) → SFits w64 a.now.0 → length bytes ≤ 512 → read_refusal e a.from (parse bytes) ≡ 0
      → Fits (take_message e a bytes (parse bytes))
  unfolding take_message resolved_if_needed
  fits_message a bytes f hb free =
      let h : Handled = handle_message e a bytes (parse bytes) in
      fits_produce _ a.now (resolved_if_needed a.now h).box
      (upto_append h.outputs _ (upto_message e a bytes (parse bytes) hb) (upto_election h.needs_resolution a.now h.box))
      (peers_resolved keeps_few e a bytes (parse bytes) f tt free hp)
      (subst (λ (is : List Interface). length is ≤ 4) (sym (resolve_if_interfaces h.needs_resolution a.now h.box ∙ message_interfaces e a bytes (parse bytes))) hi)

  fits_step : (c : Call) → Fits (step e c)
  unfolding step handle_timer switch_on switched_on switch_off remove_interface handle_io_error
  fits_step (packet iface from bytes now buf_size) = by_admit Fits (λ n. tt) now buf_size _ (λ f. by_packet Fits (λ n. tt) e upto_nil (arrived iface from now) bytes (λ hb on free. fits_message (arrived iface from now) bytes f hb free))
  fits_step (tick now buf_size) = by_admit Fits (λ n. tt) now buf_size _ (λ f. fits_produce [] now e upto_nil hp hi)
  fits_step (commit s now buf_size) = by_admit Fits (λ n. tt) now buf_size _ (λ f. by_commit Fits (λ n. tt) e upto_nil s now
      (fits_produce _ now (committed e s now) (fits_one (size_state _)) (peers_committed keeps_few e hp s now) (subst (λ (is : List Interface). length is ≤ 4) (sym (committed_interfaces e s now)) hi)))
  fits_step (switch b now buf_size) = by_admit Fits (λ n. tt) now buf_size _ (λ f. by_switch Fits (λ n. tt) e upto_nil b now
      (λ off. fits_produce _ now (switched_on e now) (upto_if (unstarted e.state) _ (fits_one (size_state _))) hp hi)
      (λ on. upto_more (omega arith) (omega arith) (upto_append _ _ (upto_map 33 (λ i. send i.id multicast (byebye_bytes e.node_id)) (λ i. size_byebye i.id multicast e.node_id) 4 e.interfaces hi)
      (upto_unless (eqb e.num_session_peers 0) _ (upto_one _ (size_count 0))))))
  fits_step (interface_added iface addr) = by_add Fits (λ n. tt) e (record { id = iface; addr = addr }) (λ free. upto_nil)
  fits_step (interface_removed iface) = upto_nil
  fits_step (io_error iface error) = upto_nil

module _ (e : Box) (c : Call) (e' : Box) (os : List Output) where
  pub upto_step : length e.peers ≤ 16 → length e.interfaces ≤ 4 → step e c ≡ done e' os → Upto 73 3575 os
  upto_step hp hi h = subst Fits h (fits_step e hp hi c)

  pub few_outputs : length e.peers ≤ 16 → length e.interfaces ≤ 4 → step e c ≡ done e' os → length os ≤ 73
  few_outputs hp hi h = (upto_step hp hi h).few

  pub fits_buffer : length e.peers ≤ 16 → length e.interfaces ≤ 4 → step e c ≡ done e' os → length (answer os) ≤ 4096
  fits_buffer hp hi h = omega (arith, answer_size os, (upto_step hp hi h).small)

-- so a buffer that is lent for it keeps its length
pub buffer_length : (e : Box) (c : Call) (old : List ℕ) → length e.peers ≤ 16 → length e.interfaces ≤ 4 → 4096 ≤ length old → length (buffer_after (step e c) old) ≡ length old
unfolding buffer_after
buffer_length e c old hp hi l = go (step e c) (fits_step e hp hi c)
  where
    go : (o : Outcome) → Fits o → length (buffer_after o old) ≡ length old
    go (refused n) u = refl
    go (done e' os) u = omega (arith, answer_size os, u.small, length-append (answer os) (drop (length (answer os)) old), length-drop (length (answer os)) old)
