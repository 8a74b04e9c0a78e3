-- What an accepted call makes of the neighbours that a box holds.
-- The definitions; the theorems stand in proofs/Laws/Clerk/Neighbours.
use Rattle.std.specs.Prelude.{◌≡◌, Bool, false, ◌&&◌, not, cond, List, [], map, pos}
use Rattle.time.specs.declared.HostTime.{HostTime}
use Rattle.timeline.specs.Same.{same_state}
use Rattle.wire.specs.Parse.{parse}
use Rattle.lists.specs.Lists.{keep}
use Rattle.model.specs.Peers.{Peer}
use Rattle.model.specs.Engine.{Box}
use Rattle.model.specs.Produce.{after_ping, recent}
use Rattle.model.specs.Packet.{handle_message}
use Rattle.model.specs.Calls.{Call, packet, tick, commit, switch, interface_added, interface_removed, io_error, hears}
use Rattle.model.specs.Laws.Calls.Messages.{arrived}

-- ---- which calls run upkeep, and on what

-- whether a call, once accepted, runs upkeep
abbrev pub runs_upkeep : Box → Call → Bool
runs_upkeep e (packet iface from bytes now buf_size) = hears e (parse bytes)
runs_upkeep e (tick now buf_size) = e.enabled
runs_upkeep e (commit s now buf_size) = e.enabled && not (same_state e.state s)
runs_upkeep e (switch b now buf_size) = b && not e.enabled
runs_upkeep e (interface_added iface addr) = false
runs_upkeep e (interface_removed iface) = false
runs_upkeep e (io_error iface error) = false

-- whether it switches an enabled engine off
abbrev pub goes_off : Box → Call → Bool
goes_off e (packet iface from bytes now buf_size) = false
goes_off e (tick now buf_size) = false
goes_off e (commit s now buf_size) = false
goes_off e (switch b now buf_size) = not b && e.enabled
goes_off e (interface_added iface addr) = false
goes_off e (interface_removed iface) = false
goes_off e (io_error iface error) = false

-- the time of a call; 0 for those that take none, which run no upkeep
abbrev pub call_time : Call → HostTime
call_time (packet iface from bytes now buf_size) = now
call_time (tick now buf_size) = now
call_time (commit s now buf_size) = now
call_time (switch b now buf_size) = now
call_time (interface_added iface addr) = record { 0 = pos 0 }
call_time (interface_removed iface) = record { 0 = pos 0 }
call_time (io_error iface error) = record { 0 = pos 0 }

-- the neighbours as upkeep begins: a packet's message has been handled
abbrev pub heard : Box → Call → List Peer
heard e (packet iface from bytes now buf_size) = (handle_message e (arrived iface from now) bytes (parse bytes)).box.peers
heard e (tick now buf_size) = e.peers
heard e (commit s now buf_size) = e.peers
heard e (switch b now buf_size) = e.peers
heard e (interface_added iface addr) = e.peers
heard e (interface_removed iface) = e.peers
heard e (io_error iface error) = e.peers

-- ---- what upkeep makes of them

abbrev pub upkept : HostTime → List Peer → List Peer
upkept now ps = keep (recent now) (map (after_ping now) ps)

-- ---- a message switches nothing

-- e' has e's node id and is enabled where e is
pub record Alike (e e' : Box) : Type 0 where
  pub enabled : e'.enabled ≡ e.enabled
  pub node : e'.node_id ≡ e.node_id

-- ---- the neighbours after an accepted call

-- upkeep's, or none after switching off, or as they were
abbrev pub peers_after : Box → Call → List Peer
peers_after e c = cond (runs_upkeep e c) (upkept (call_time c) (heard e c)) (cond (goes_off e c) [] e.peers)
