-- Arrivals, and the messages that say an alive and a pong.
use Rattle.std.specs.Prelude.{ℕ, Option, Some}
use Rattle.time.specs.declared.HostTime.{HostTime}
use Rattle.wire.specs.declared.SocketAddrPlain.{SocketAddrPlain}
use Rattle.wire.specs.declared.DiscoveryMsg.TheVariants.{Alive}
use Rattle.wire.specs.declared.MeasurementMsg.TheVariants.{Pong}
use Rattle.wire.specs.declared.Message.TheVariants.{Discovery, Measurement}
use Rattle.model.specs.Packet.{Arrival, AliveMsg, PongMsg}
use Rattle.wire.specs.declared.NodeId.{NodeId}
use Rattle.wire.specs.declared.Message.{Message}

-- on this interface, from there, at this time
abbrev pub arrived : ℕ → SocketAddrPlain → HostTime → Arrival
arrived iface from now = record { iface = iface; from = from; now = now }

abbrev pub alive_said : AliveMsg → Option Message
alive_said m = Some (Discovery (Alive m.node_id m.timeline m.start_stop m.session_id m.mep4))

abbrev pub pong_said : PongMsg → Option Message
pong_said m = Some (Measurement (Pong m.session_id m.ghost_time m.ping_host_time m.ping_prev_ghost_time))

-- what a pong of these fields says
abbrev pub pong_msg : Option NodeId → HostTime → HostTime → Option HostTime → PongMsg
pong_msg session ghost ping prev = record { session_id = session; ghost_time = ghost; ping_host_time = ping; ping_prev_ghost_time = prev }
