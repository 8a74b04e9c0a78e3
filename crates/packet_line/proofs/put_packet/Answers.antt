-- A refusal's line is shorter than the longest.
use Rattle.std.proofs.Common.{length, arith}
use Rattle.std.proofs.lemmas.Bool.{lt-leb}
use Rattle.text.specs.Ascii.{ascii}
use Rattle.text.specs.Laws.Parts.{word, longer}
use Rattle.packet_line.specs.Line.{packet_text}
use Rattle.packet_line.proofs.put_packet.Goals as goal

pub returns-else-packet-le-MAX_PACKET : goal.returns-else-packet-le-MAX_PACKET
unfolding packet_text ascii
returns-else-packet-le-MAX_PACKET c =
    rw (lt-leb (length c.args.packet.now) 512 (omega arith)) (longer 184 (omega arith) (word c.put_bytes.ensures))
