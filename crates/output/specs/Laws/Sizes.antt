-- How many bytes the content of an output takes.
use Rattle.std.specs.Prelude.{ℕ, ◌+◌, ◌≤◌, ◌≡◌, refl, List, length, Option, Some, None}
use Rattle.std.proofs.Common.{arith}
use Rattle.big_endian.specs.Bytes.{bytes}
use Rattle.time.specs.declared.HostTime.{HostTime}
use Rattle.timeline.specs.declared.SessionState.{SessionState}
use Rattle.wire.specs.declared.SocketAddrPlain.{SocketAddrPlain}
use Rattle.wire.specs.Layout.{timeline_bytes, start_stop_bytes, addr_bytes, mep4_entry, pgt_entry}
use Rattle.wire.specs.Laws.Sizes.{mep4_14, pgt_16, alive_size, byebye_20, ping_size, pong_size}
use Rattle.model.specs.Engine.{send, state_changed, num_peers_changed, set_timer}
use Rattle.model.specs.Answer.{content}
use Rattle.output.specs.declared.Packet.{Packet}
use Rattle.output.specs.declared.Packet.TheVariants as packet
use Rattle.output.specs.declared.Output.{Output}
use Rattle.output.specs.declared.Output.TheVariants as output
use Rattle.output.specs.Inner.Outputs.{packet_bytes, output_of}

-- the interface, the address and the port take 10 bytes
pub length_send : (iface : ℕ) (to : SocketAddrPlain) (ps : List ℕ) → length (content (send iface to ps)) ≡ 10 + length ps
unfolding content addr_bytes bytes
length_send iface to ps = omega arith

pub length_state : (s : SessionState) → length (content (state_changed s)) ≡ 41
unfolding content timeline_bytes start_stop_bytes bytes
length_state s = refl

pub length_count : (n : ℕ) → length (content (num_peers_changed n)) ≡ 4
unfolding content bytes
length_count n = refl

pub length-timer : (t : HostTime) → length (content (set_timer t)) ≡ 8
unfolding content bytes
length-timer t = refl

-- ---- at most, with an echo of 503 bytes at most

pub mep4_most : (mep4 : Option SocketAddrPlain) → length (mep4_entry mep4) ≤ 14
unfolding mep4_entry
mep4_most (Some a) = omega (arith, mep4_14 a)
mep4_most None = omega arith

pub pgt_most : (prev : Option HostTime) → length (pgt_entry prev) ≤ 16
unfolding pgt_entry
pgt_most (Some t) = omega (arith, pgt_16 t)
pgt_most None = omega arith

module _ (echo : List ℕ) (h : length echo ≤ 503) where
  pub packet_most : (p : Packet) → length (packet_bytes echo p) ≤ 544
  unfolding packet_bytes
  packet_most (packet.Alive a) = omega (arith, alive_size a.node_id a.session_id a.timeline a.start_stop a.is_response a.mep4, mep4_most a.mep4)
  packet_most (packet.ByeBye node) = omega (arith, byebye_20 node)
  packet_most (packet.Ping time prev) = omega (arith, ping_size time prev, pgt_most prev)
  packet_most (packet.Pong session ghost_time) = omega (arith, pong_size session ghost_time echo)

  pub output_most : (o : Output) → length (content (output_of echo o)) ≤ 554
  unfolding output_of
  output_most (output.Send iface to p) = omega (arith, length_send iface to (packet_bytes echo p), packet_most p)
  output_most (output.StateChanged s) = omega (arith, length_state s)
  output_most (output.NumPeersChanged n) = omega (arith, length_count n)
  output_most (output.SetTimer t) = omega (arith, length-timer t)

-- ---- for the search

pub ruleset lengths = (length_send, length_state, length_count, length-timer)

pub ruleset packet_lengths = (alive_size, byebye_20, ping_size, pong_size, mep4_most, pgt_most)
