-- A neighbour that does not answer: how often it is asked, and when measuring it ends.
-- The definitions; the theorems stand in proofs/Laws/Clerk/Silent.
use Rattle.std.specs.Prelude.{ℕ, ◌+◌, ◌≡◌, Bool, ◌&&◌, cond, Option, Some, None}
use Rattle.std.proofs.Math.Bool.{false}
use mathlib.Core.List.{List, [], ◌∷◌}
use Rattle.time.specs.declared.HostTime.{HostTime}
use Rattle.wire.specs.declared.NodeId.{NodeId}
use Rattle.wire.specs.declared.SocketAddrPlain.{SocketAddrPlain}
use Rattle.wire.specs.declared.DiscoveryMsg.TheVariants.{Alive, ByeBye}
use Rattle.wire.specs.declared.MeasurementMsg.TheVariants.{Ping, Pong}
use Rattle.wire.specs.declared.Message.TheVariants.{Discovery, Measurement}
use Rattle.wire.specs.Parse.{parse}
use Rattle.wire.specs.Same.{same_node}
use Rattle.lists.specs.Lists.{first}
use Rattle.model.specs.Peers.{Peer}
use Rattle.model.specs.Engine.{Box}
use Rattle.model.specs.Produce.{asks}
use Rattle.model.specs.Packet.{AliveMsg, session_changed, held_peer, owns}
use Rattle.model.specs.Calls.{Call, packet, tick, commit, switch, interface_added, interface_removed, io_error, Outcome, refused, done, next, step}
use Rattle.model.specs.Laws.Clerk.Neighbours.{runs_upkeep, call_time, heard}
use Rattle.wire.specs.declared.Message.{Message}

-- ---- resets

-- an alive of another session from the neighbour p
abbrev pub alive_resets : Peer → AliveMsg → Bool
alive_resets p m = same_node m.node_id p.id && session_changed m p

-- a sample taken of the neighbour p: the pong's owner is p, and it is measured
abbrev pub pong_resets : Peer → Option Peer → Bool
pong_resets p None = false
pong_resets p (Some q) = same_node q.id p.id && q.measuring

-- whether a message sets the neighbour p's count of unanswered pings back
abbrev pub message_resets : Peer → List Peer → SocketAddrPlain → Option Message → Bool
message_resets p ps from None = false
message_resets p ps from (Some (Discovery (Alive node timeline start_stop session mep4))) =
    alive_resets p (record { node_id = node; timeline = timeline; start_stop = start_stop; session_id = session; mep4 = mep4 })
message_resets p ps from (Some (Discovery (ByeBye node))) = false
message_resets p ps from (Some (Measurement (Ping time prev))) = false
message_resets p ps from (Some (Measurement (Pong session b2 a2 b1))) = pong_resets p (first (owns from) ps)

-- whether a call's packet does
abbrev pub resets : Peer → Box → Call → Bool
resets p e (packet iface from bytes now buf_size) = message_resets p e.peers from (parse bytes)
resets p e (tick now buf_size) = false
resets p e (commit s now buf_size) = false
resets p e (switch b now buf_size) = false
resets p e (interface_added iface addr) = false
resets p e (interface_removed iface) = false
resets p e (io_error iface error) = false

-- ---- what measuring a neighbour hangs on

-- q has p's part in measuring
pub record Like (p q : Peer) : Type 0 where
  pub timeouts : q.ping_timeouts ≡ p.ping_timeouts
  pub measuring : q.measuring ≡ p.measuring
  pub next : q.next_ping_time ≡ p.next_ping_time

-- ---- how often it is asked

-- 1 where a ping is due and goes out, else 0
abbrev pub ask_count : HostTime → Peer → ℕ
ask_count now p = cond (asks now p) 1 0

abbrev pub asks_held : HostTime → Option Peer → ℕ
asks_held now None = 0
asks_held now (Some p) = ask_count now p

-- how often a call asks the neighbour n: in its upkeep, if it has one
abbrev pub asked_by : NodeId → Box → Call → Outcome → ℕ
asked_by n e c (refused k) = 0
asked_by n e c (done e' os) = cond (runs_upkeep e c) (asks_held (call_time c) (held_peer n (heard e c))) 0

abbrev pub asked : NodeId → Box → Call → ℕ
asked n e c = asked_by n e c (step e c)

unfoldable pub asked_over : NodeId → Box → List Call → ℕ
asked_over n e [] = 0
asked_over n e (c ∷ cs) = asked n e c + asked_over n (next e (step e c)) cs

-- whether a call resets the neighbour p, by its outcome: one that is turned down resets nothing
abbrev pub resets_in : Peer → Box → Call → Outcome → Bool
resets_in p e c (refused k) = false
resets_in p e c (done e' os) = resets p e c

-- the neighbour n is held as each of the calls begins, and none resets it
pub data Unreset (n : NodeId) : Box → List Call → Type 0 where
  over : {e : Box} → Unreset n e []
  goes_on : {e : Box} {c : Call} {cs : List Call} (p : Peer) → held_peer n e.peers ≡ Some p → resets_in p e c (step e c) ≡ false → Unreset n (next e (step e c)) cs → Unreset n e (c ∷ cs)
