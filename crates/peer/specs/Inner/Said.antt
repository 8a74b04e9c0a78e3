-- What the messages say, as the definition has it.
use Rattle.model.specs.Packet as packet
use Rattle.peer.specs.declared.said.AliveMsg.{AliveMsg}
use Rattle.peer.specs.declared.said.PongMsg.{PongMsg}

-- what the messages say
unfoldable pub alive_msg : AliveMsg → packet.AliveMsg
alive_msg m = record {
  node_id = m.node_id;
  timeline = m.timeline;
  start_stop = m.start_stop;
  session_id = m.session_id;
  mep4 = m.mep4;
}

unfoldable pub pong_msg : PongMsg → packet.PongMsg
pong_msg m = record {
  session_id = m.session_id;
  ghost_time = m.ghost_time;
  ping_host_time = m.ping_host_time;
  ping_prev_ghost_time = m.ping_prev_ghost_time;
}
