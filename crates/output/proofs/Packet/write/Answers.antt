-- By the packet: its writer's answer, and no echo is too long.
use Rattle.std.proofs.Common.{◌∙◌}
use Rattle.output.specs.Inner.Outputs.{packet_bytes}
use Rattle.output.specs.Laws.Parts.{echo_allowed}
use Rattle.output.proofs.Packet.write.Goals as goal

pub returns-in-Pong : goal.returns-in-Pong
unfolding packet_bytes
returns-in-Pong c =
    let bytes = c.bytes.ensures in
    rw (c.in-Pong.is, ← bytes.whole) (c.serialize_measurement_pong.ensures ∙ echo_allowed _ _ _ bytes.len_bound)
