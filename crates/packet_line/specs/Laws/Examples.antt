-- Lines of given packets: the definitions compute.
use Rattle.std.specs.Prelude.{true, [], ◌∷◌, ◌≡◌, refl, pos, negsuc, replicate, Some, None}
use Rattle.big_endian.specs.Bytes.{number, number_at}
use Rattle.text.specs.Ascii.{ascii}
use Rattle.text.specs.Numerals.{digits, places, places_within, decimal, integer}
use Rattle.wire.specs.Parse.{parse, parse_discovery}
use Rattle.wire.specs.declared.DiscoveryMsg.TheVariants.{Alive}
use Rattle.wire.specs.declared.MeasurementMsg.TheVariants.{Ping}
use Rattle.wire.specs.declared.Message.TheVariants.{Discovery, Measurement}
use Rattle.packet_line.specs.Line.{id_text, absent, timeline_text, start_stop_text, session_text, dotted, address_text, time_text, message_text, read_text, packet_text, line_of}

-- the scope's: `5f617364705f7601 03000000 0000000000000001`
byebye : line_of (0x5f ∷ 0x61 ∷ 0x73 ∷ 0x64 ∷ 0x70 ∷ 0x5f ∷ 0x76 ∷ 0x01 ∷ 0x03 ∷ 0 ∷ 0 ∷ 0 ∷ 0 ∷ 0 ∷ 0 ∷ 0 ∷ 0 ∷ 0 ∷ 0 ∷ 1 ∷ []) ≡ ascii "byebye 0000000000000001\n"
unfolding line_of packet_text read_text message_text id_text ascii digits parse parse_discovery number number_at
byebye = refl

no_packet : line_of [] ≡ ascii "refused 4\n"
unfolding line_of packet_text read_text ascii parse number_at
no_packet = refl

too_long : line_of (replicate 513 0) ≡ ascii "refused 3\n"
unfolding line_of packet_text ascii
too_long = refl

-- the longest, but for the newline
alive : message_text (Discovery (Alive (record { 0 = 0xfedc_ba98_7654_3210 })
    (Some (record { tempo = record { 0 = negsuc 9223372036854775807 }; beat_origin = record { 0 = negsuc 9223372036854775806 }; time_origin = record { 0 = negsuc 9223372036854775805 } }))
    (Some (record { is_playing = true; beat = record { 0 = negsuc 9223372036854775804 }; time = record { 0 = negsuc 9223372036854775803 } }))
    (Some (record { 0 = 0x00ff }))
    (Some (record { ip = 0xc0a8_b2fe; port = 65535 }))))
    ≡ ascii "alive fedcba9876543210 tl=-9223372036854775808,-9223372036854775807,-9223372036854775806 ss=1,-9223372036854775805,-9223372036854775804 sess=00000000000000ff mep4=192.168.178.254:65535"
unfolding message_text id_text timeline_text start_stop_text session_text address_text dotted ascii digits places places_within decimal integer
alive = refl

ping : message_text (Measurement (Ping (record { 0 = pos 0 }) None)) ≡ ascii "ping ht=0 pgt=-"
unfolding message_text time_text absent ascii digits places places_within decimal integer
ping = refl
