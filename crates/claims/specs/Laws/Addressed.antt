-- Boxes that an engine can hold. A row reads an address and a number of pings by remainders, so no neighbour is held with one that its type cannot hold. Calls
-- lead from such boxes to such boxes where their packets are of bytes and from addresses of that type, as all that a host can hand over; other calls always.
use Rattle.std.specs.Prelude.{ℕ, zero, suc, ◌^◌, ◌<◌, Bool, true, false, ◌&&◌, not, cond, List, leb, Option, Some, None}
use Rattle.std.proofs.Common.{mod-lt, arith, subst, SFits, leb-false}
use Rattle.std.specs.Int.{w64}
use Rattle.big_endian.specs.Bytes.{bytes}
use Rattle.time.specs.declared.HostTime.{HostTime}
use Rattle.timeline.specs.declared.Timeline.{Timeline}
use Rattle.timeline.specs.declared.StartStopState.{StartStopState}
use Rattle.wire.specs.declared.NodeId.{NodeId}
use Rattle.wire.specs.declared.SocketAddrPlain.{SocketAddrPlain}
use Rattle.wire.specs.Layout.{entry, timeline_bytes, start_stop_bytes, addr_bytes, mep4_entry, discovery_head, alive_bytes, measurement_head, pong_bytes}
use Rattle.wire.specs.Laws.RoundTrip.{AddrFits, AddrHeld}
use Rattle.wire.specs.Laws.RoundTrip.AddrHeld.{absent, present}
use Rattle.model.specs.Peers.{Peer, new_peer}
use Rattle.model.specs.Engine.{Box}
use Rattle.model.specs.Produce.{ping_due, after_ping}
use Rattle.model.specs.Packet.{AliveMsg, addr_or, session_changed, after_alive, moved, measured, after_pong}
use Rattle.model.specs.Calls.{Call, packet, tick, commit, switch, interface_added, interface_removed, io_error, step, next}
use Rattle.lists.specs.Laws.Bools.{by_cond, not_true}
use Rattle.lists.specs.Laws.Each.{Each, nil, ◌▸◌, each_append}
use Rattle.model.specs.Laws.Calls.Fits.{CallFits, packet_fits, tick_fits, commit_fits, switch_fits, added_fits, removed_fits, error_fits}
use Rattle.model.specs.Laws.Calls.Kept.{KeepsPeer, SaidIn}
use Rattle.model.proofs.Laws.Calls.Kept.{keeps_each, peers_step}
use Rattle.model.specs.Laws.Calls.Messages.{alive_said}
use Rattle.model.specs.Laws.Calls.Says.{Bytes, MessageFits, says_alive, parse_fits}
use Rattle.model.specs.Laws.Calls.Within.{Within}
use Rattle.model.proofs.Laws.Calls.Within.{within_step}
use Rattle.peer_table.specs.Laws.Stored.{Narrow}
use Rattle.peer_table.specs.Laws.Tables.{state_of}
use Rattle.wire.specs.declared.Message.{Message}

-- ---- calls

abbrev pub Addressed : Call → Type 0
Addressed (packet iface from bytes now buf_size) = AddrFits from × Bytes bytes
Addressed (tick now buf_size) = Unit {0}
Addressed (commit s now buf_size) = Unit {0}
Addressed (switch enabled now buf_size) = Unit {0}
Addressed (interface_added iface addr) = Unit {0}
Addressed (interface_removed iface) = Unit {0}
Addressed (io_error iface error) = Unit {0}

-- every call is so whose arguments fit their types
pub fits_addressed : (c : Call) → CallFits c → Addressed c
fits_addressed _ (packet_fits i a b t r) = (a, b)
fits_addressed _ (tick_fits t r) = tt
fits_addressed _ (commit_fits l s t r) = tt
fits_addressed _ (switch_fits t r) = tt
fits_addressed _ (added_fits i a) = tt
fits_addressed _ (removed_fits i) = tt
fits_addressed _ (error_fits i) = tt

-- what is then said of a packet's sender and message
abbrev Says : SocketAddrPlain → Option Message → HostTime → Type 0
Says from m now = AddrFits from × MessageFits m

said : (c : Call) → Addressed c → SaidIn Says c
said c h iface from bytes now buf_size e = let g : Addressed (packet iface from bytes now buf_size) = subst Addressed e h in (g.0, parse_fits g.1)

-- ---- neighbours

abbrev pub NarrowPeer : Peer → Type 0
NarrowPeer p = Narrow (state_of p)

narrow : (p : Peer) → AddrFits p.addr → p.ping_timeouts < 2 ^ 32 → NarrowPeer p
narrow p a n = record { ip = a.ip; port = a.port; pings = n }

addr_fits : (p : Peer) → NarrowPeer p → AddrFits p.addr
addr_fits p h = record { ip = h.ip; port = h.port }

addr_or_fits : (from : SocketAddrPlain) → AddrFits from → {a : Option SocketAddrPlain} → AddrHeld a → AddrFits (addr_or from a)
addr_or_fits from f absent = f
addr_or_fits from f (present h) = h

-- a ping that is sent follows fewer than five; and back at 0
few_pings : (due : Bool) (n : ℕ) → n < 2 ^ 32 → cond (due && not (leb 5 n)) (suc n) n < 2 ^ 32
few_pings false n h = h
few_pings true n h = by_cond (λ (k : ℕ). k < 2 ^ 32) (not (leb 5 n)) (suc n) n (λ e. let l : n < 5 = leb-false 5 n (not_true _ e) in omega (arith, l)) (λ e. h)

back_at_0 : (t : Bool) (n : ℕ) → n < 2 ^ 32 → cond t 0 n < 2 ^ 32
back_at_0 t n h = by_cond (λ (k : ℕ). k < 2 ^ 32) t 0 n (λ e. omega arith) (λ e. h)

narrow_new : (from : SocketAddrPlain) (m : AliveMsg) (now : HostTime) → SFits w64 now.0 → Says from (alive_said m) now → NarrowPeer (new_peer m.node_id from now)
unfolding new_peer
narrow_new from m now f s = narrow (new_peer m.node_id from now) s.0 (omega arith)

narrow_alive : (from : SocketAddrPlain) (m : AliveMsg) (now : HostTime) → SFits w64 now.0 → Says from (alive_said m) now → (p : Peer) → NarrowPeer p → NarrowPeer (after_alive from m now p)
unfolding after_alive
narrow_alive from m now f (a, says_alive n t s x y) p h = narrow (after_alive from m now p) (addr_or_fits from a y) (back_at_0 (session_changed m p) p.ping_timeouts h.pings)

keeps_narrow : KeepsPeer Says NarrowPeer
unfolding after_ping after_pong measured moved
keeps_narrow = record {
  fresh = narrow_new;
  pinged = λ now f p h. narrow (after_ping now p) (addr_fits p h) (few_pings (ping_due now p) p.ping_timeouts h.pings);
  alive = narrow_alive;
  pong = λ from m now f s ps p o free h. narrow (after_pong m now p) (addr_fits p h) (back_at_0 p.measuring p.ping_timeouts h.pings);
}

-- ---- boxes

-- within the tables' sizes, with neighbours that rows can hold
pub record Fitting (e : Box) : Type 0 where
  pub within : Within e
  pub narrow : Each NarrowPeer e.peers

pub fitting_step : (e : Box) → Fitting e → (c : Call) → Addressed c → Fitting (next e (step e c))
fitting_step e h c a = record { within = within_step e h.within c; narrow = peers_step (keeps_each keeps_narrow) e h.narrow c (said c a) }

-- ---- what the layout writes is bytes

pub number_bytes : (w n : ℕ) → Bytes (bytes w n)
unfolding bytes
number_bytes zero n = nil
number_bytes (suc w) n = mod-lt _ (omega arith) ▸ number_bytes w n

pub entry_bytes : (key : ℕ) {value : List ℕ} → Bytes value → Bytes (entry key value)
unfolding entry
entry_bytes key h = each_append (number_bytes 4 key) (each_append (number_bytes 4 _) h)

pub head_bytes : (kind ttl : ℕ) (node : NodeId) → Bytes (discovery_head kind ttl node)
unfolding discovery_head
head_bytes kind ttl node = each_append (number_bytes 8 _) (each_append (number_bytes 1 kind) (each_append (number_bytes 1 ttl) (each_append (number_bytes 2 0) (number_bytes 8 node.0))))

mep4_bytes : (a : Option SocketAddrPlain) → Bytes (mep4_entry a)
unfolding mep4_entry addr_bytes
mep4_bytes None = nil
mep4_bytes (Some a) = entry_bytes _ (each_append (number_bytes 4 a.ip) (number_bytes 2 a.port))

pub alives_bytes : (node session : NodeId) (t : Timeline) (s : StartStopState) (a : Option SocketAddrPlain) (is_response : Bool) → Bytes (alive_bytes node session t s a is_response)
unfolding alive_bytes timeline_bytes start_stop_bytes
alives_bytes node session t s a is_response =
    each_append (head_bytes _ 5 node)
    (each_append (entry_bytes _ (each_append (number_bytes 8 _) (each_append (number_bytes 8 _) (number_bytes 8 _))))
    (each_append (entry_bytes _ (number_bytes 8 session.0))
    (each_append (entry_bytes _ (each_append (number_bytes 1 _) (each_append (number_bytes 8 _) (number_bytes 8 _)))) (mep4_bytes a))))

pub pongs_bytes : (session : NodeId) (ghost : HostTime) {echo : List ℕ} → Bytes echo → Bytes (pong_bytes session ghost echo)
unfolding pong_bytes measurement_head
pongs_bytes session ghost h =
    each_append (each_append (number_bytes 8 _) (number_bytes 1 _)) (each_append (entry_bytes _ (number_bytes 8 session.0)) (each_append (entry_bytes _ (number_bytes 8 _)) h))
