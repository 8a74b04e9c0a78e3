-- What `showpacket` prints of the bytes of a packet: one line, in ASCII. `ascii` gives the codes of a quoted text.
use Rattle.std.specs.Prelude.{ℕ, ◌/◌, ◌%◌, cond, List, ◌++◌, leb, length, Option, Some, None}
use Rattle.text.specs.Ascii.{ascii}
use Rattle.text.specs.Numerals.{hexadecimal, decimal, integer}
use Rattle.wire.specs.Parse.{parse}
use Rattle.wire.specs.declared.NodeId.{NodeId}
use Rattle.wire.specs.declared.DiscoveryMsg.TheVariants.{Alive, ByeBye}
use Rattle.wire.specs.declared.MeasurementMsg.TheVariants.{Ping, Pong}
use Rattle.wire.specs.declared.Message.{Message}
use Rattle.wire.specs.declared.Message.TheVariants.{Discovery, Measurement}
use Rattle.wire.specs.declared.SocketAddrPlain.{SocketAddrPlain}
use Rattle.time.specs.declared.HostTime.{HostTime}
use Rattle.timeline.specs.declared.Timeline.{Timeline}
use Rattle.timeline.specs.declared.StartStopState.{StartStopState}

-- ---- values

-- an id is 16 lowercase hexadecimal digits
unfoldable pub id_text : NodeId → List ℕ
id_text node = hexadecimal 16 node.0

-- what is absent
unfoldable pub absent : List ℕ
absent = ascii "-"

-- T,B,O: tempo, beat origin, time origin
unfoldable pub timeline_text : Option Timeline → List ℕ
timeline_text None = absent
timeline_text (Some t) = integer t.tempo.0 ++ ascii "," ++ integer t.beat_origin.0 ++ ascii "," ++ integer t.time_origin.0

-- P,B,T: 1 where it plays and 0 where not, beat, time
unfoldable pub start_stop_text : Option StartStopState → List ℕ
start_stop_text None = absent
start_stop_text (Some s) = cond s.is_playing (ascii "1") (ascii "0") ++ ascii "," ++ integer s.beat.0 ++ ascii "," ++ integer s.time.0

unfoldable pub session_text : Option NodeId → List ℕ
session_text None = absent
session_text (Some node) = id_text node

-- a.b.c.d: the four bytes of an address, the highest first
unfoldable pub dotted : ℕ → List ℕ
dotted ip = decimal (ip / 0x100_0000 % 256) ++ ascii "." ++ decimal (ip / 0x1_0000 % 256) ++ ascii "." ++ decimal (ip / 0x100 % 256) ++ ascii "." ++ decimal (ip % 256)

-- a.b.c.d:port
unfoldable pub address_text : Option SocketAddrPlain → List ℕ
address_text None = absent
address_text (Some a) = dotted a.ip ++ ascii ":" ++ decimal a.port

unfoldable pub time_text : Option HostTime → List ℕ
time_text None = absent
time_text (Some t) = integer t.0

-- ---- the line

unfoldable pub message_text : Message → List ℕ
message_text (Discovery (ByeBye node)) = ascii "byebye " ++ id_text node
message_text (Discovery (Alive node timeline start_stop session mep4)) =
    ascii "alive " ++ id_text node ++ ascii " tl=" ++ timeline_text timeline ++ ascii " ss=" ++ start_stop_text start_stop
    ++ ascii " sess=" ++ session_text session ++ ascii " mep4=" ++ address_text mep4
message_text (Measurement (Ping time prev)) = ascii "ping ht=" ++ integer time.0 ++ ascii " pgt=" ++ time_text prev
message_text (Measurement (Pong session ghost time prev)) =
    ascii "pong sess=" ++ session_text session ++ ascii " gt=" ++ integer ghost.0 ++ ascii " ht=" ++ integer time.0 ++ ascii " pgt=" ++ time_text prev

-- 4: the reader reads none
unfoldable pub read_text : Option Message → List ℕ
read_text (Some message) = message_text message
read_text None = ascii "refused 4"

-- 3: more than 512 bytes
unfoldable pub packet_text : List ℕ → List ℕ
packet_text packet = cond (leb (length packet) 512) (read_text (parse packet)) (ascii "refused 3")

unfoldable pub line_of : List ℕ → List ℕ
line_of packet = packet_text packet ++ ascii "\n"
