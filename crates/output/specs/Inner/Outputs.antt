-- The bytes of a packet, and the output of the definition that an output stands for: both with what a pong echoes.
use Rattle.std.specs.Prelude.{ℕ, List}
use Rattle.wire.specs.Layout.{alive_bytes, byebye_bytes, ping_bytes, pong_bytes}
use Rattle.model.specs.Engine.{Output, send, state_changed, num_peers_changed, set_timer}
use Rattle.output.specs.declared.Packet.{Packet}
use Rattle.output.specs.declared.Packet.TheVariants as packet
use Rattle.output.specs.declared.Output as declared
use Rattle.output.specs.declared.Output.TheVariants as output

unfoldable pub packet_bytes : List ℕ → Packet → List ℕ
packet_bytes echo (packet.Alive a) = alive_bytes a.node_id a.session_id a.timeline a.start_stop a.mep4 a.is_response
packet_bytes echo (packet.ByeBye node) = byebye_bytes node
packet_bytes echo (packet.Ping time prev) = ping_bytes time prev
packet_bytes echo (packet.Pong session ghost_time) = pong_bytes session ghost_time echo

unfoldable pub output_of : List ℕ → declared.Output → Output
output_of echo (output.Send iface to p) = send iface to (packet_bytes echo p)
output_of echo (output.StateChanged s) = state_changed s
output_of echo (output.NumPeersChanged n) = num_peers_changed n
output_of echo (output.SetTimer t) = set_timer t
