-- The pings that no sample calls for, which have no `_pgt`: a call puts out one on each interface for each neighbour that its upkeep asks, and no other.
-- The definitions; the theorems stand in proofs/Laws/Clerk/Pings.
use Rattle.std.specs.Prelude.{ℕ, Bool, ◌&&◌, cond, eqb, Option, Some, None}
use Rattle.std.proofs.Math.Bool.{true, false}
use mathlib.Core.List.{List, [], map}
use Rattle.time.specs.declared.HostTime.{HostTime}
use Rattle.wire.specs.declared.SocketAddrPlain.{SocketAddrPlain}
use Rattle.wire.specs.declared.MeasurementMsg.TheVariants.{Ping, Pong}
use Rattle.wire.specs.declared.Message.TheVariants.{Discovery, Measurement}
use Rattle.wire.specs.Layout.{ping_bytes}
use Rattle.wire.specs.Parse.{parse}
use Rattle.wire.specs.Same.{same_addr}
use Rattle.lists.specs.Lists.{keep}
use Rattle.model.specs.Peers.{Peer, Interface}
use Rattle.model.specs.Engine.{Box, Output, send, state_changed, num_peers_changed, set_timer}
use Rattle.model.specs.Produce.{asks}
use Rattle.model.specs.Calls.{Call, Outcome, refused, done, step}
use Rattle.model.specs.Laws.Clerk.Neighbours.{runs_upkeep, call_time, heard}
use Rattle.wire.specs.declared.Message.{Message}

-- ---- an ask, by what its bytes read as

abbrev pub is_ask : Option Message → Bool
is_ask None = false
is_ask (Some (Discovery m)) = false
is_ask (Some (Measurement (Ping time None))) = true
is_ask (Some (Measurement (Ping time (Some prev)))) = false
is_ask (Some (Measurement (Pong session b2 a2 b1))) = false

-- ---- among outputs

abbrev pub sends_ask : Output → Bool
sends_ask (send iface to packet) = is_ask (parse packet)
sends_ask (state_changed s) = false
sends_ask (num_peers_changed n) = false
sends_ask (set_timer t) = false

-- what is sent to the neighbour p on the interface i, and on all
abbrev pub ask : HostTime → Peer → Interface → Output
ask now p i = send i.id p.addr (ping_bytes now None)

abbrev pub asks_of : HostTime → List Interface → Peer → List Output
asks_of now is p = map (ask now p) is

-- ---- a call

-- the neighbours that a call asks: those whose ping is due as its upkeep begins, and whose last five were not unanswered
abbrev pub asked_in : Box → Call → Outcome → List Peer
asked_in e c (refused n) = []
asked_in e c (done e' os) = cond (runs_upkeep e c) (keep (asks (call_time c)) (heard e c)) []

abbrev pub asked_ones : Box → Call → List Peer
asked_ones e c = asked_in e c (step e c)

-- ---- on one interface, and to one address

abbrev pub goes_by : ℕ → Output → Bool
goes_by i (send iface to packet) = eqb iface i
goes_by i (state_changed s) = false
goes_by i (num_peers_changed n) = false
goes_by i (set_timer t) = false

abbrev pub goes_to : SocketAddrPlain → Output → Bool
goes_to a (send iface to packet) = same_addr to a
goes_to a (state_changed s) = false
goes_to a (num_peers_changed n) = false
goes_to a (set_timer t) = false

-- an ask on interface i
abbrev pub asks_on : ℕ → Output → Bool
asks_on i o = sends_ask o && goes_by i o

-- an ask on interface i to address a
abbrev pub asks_at : ℕ → SocketAddrPlain → Output → Bool
asks_at i a o = asks_on i o && goes_to a o
