-- The bytes of each packet. Every number is big-endian.
use Rattle.std.specs.Prelude.{ℕ, Bool, cond, List, [], ◌++◌, ℤ, length, Option, Some, None}
use Rattle.signed.specs.Wrap.{mod64}
use Rattle.big_endian.specs.Bytes.{bytes}
use Rattle.time.specs.declared.HostTime.{HostTime}
use Rattle.timeline.specs.declared.Timeline.{Timeline}
use Rattle.timeline.specs.declared.StartStopState.{StartStopState}
use Rattle.wire.specs.declared.NodeId.{NodeId}
use Rattle.wire.specs.declared.SocketAddrPlain.{SocketAddrPlain}

-- ---- names

-- `_asdp_v` and `_link_v`, each with byte 1
abbrev pub asdp_magic : ℕ
asdp_magic = 0x5f61_7364_705f_7601

abbrev pub link_magic : ℕ
link_magic = 0x5f6c_696e_6b5f_7601

-- the kinds of discovery packets, and of measurement packets
abbrev pub discovery_kinds : record { alive : ℕ; response : ℕ; byebye : ℕ }
discovery_kinds = record { alive = 1; response = 2; byebye = 3 }

abbrev pub measurement_kinds : record { ping : ℕ; pong : ℕ }
measurement_kinds = record { ping = 1; pong = 2 }

-- the keys, as the numbers that their four letters are: tmln, sess, stst, mep4, __ht, __gt, _pgt
abbrev pub keys : record { tmln : ℕ; sess : ℕ; stst : ℕ; mep4 : ℕ; ht : ℕ; gt : ℕ; pgt : ℕ }
keys = record { tmln = 0x746d_6c6e; sess = 0x7365_7373; stst = 0x7374_7374; mep4 = 0x6d65_7034; ht = 0x5f5f_6874; gt = 0x5f5f_6774; pgt = 0x5f70_6774 }

-- the sizes of the values under these keys; `time` is that of the last three
abbrev pub sizes : record { tmln : ℕ; sess : ℕ; stst : ℕ; mep4 : ℕ; time : ℕ }
sizes = record { tmln = 24; sess = 8; stst = 17; mep4 = 6; time = 8 }

-- ---- entries

-- the eight bytes of a signed number
abbrev pub int_bytes : ℤ → List ℕ
int_bytes z = bytes 8 (mod64 z)

-- a key, the value's size, the value
unfoldable pub entry : ℕ → List ℕ → List ℕ
entry key value = bytes 4 key ++ (bytes 4 (length value) ++ value)

unfoldable pub timeline_bytes : Timeline → List ℕ
timeline_bytes t = int_bytes t.tempo.0 ++ (int_bytes t.beat_origin.0 ++ int_bytes t.time_origin.0)

-- the playing byte is 1 or 0
unfoldable pub start_stop_bytes : StartStopState → List ℕ
start_stop_bytes s = bytes 1 (cond s.is_playing 1 0) ++ (int_bytes s.beat.0 ++ int_bytes s.time.0)

unfoldable pub addr_bytes : SocketAddrPlain → List ℕ
addr_bytes a = bytes 4 a.ip ++ bytes 2 a.port

-- entries that may be absent
unfoldable pub mep4_entry : Option SocketAddrPlain → List ℕ
mep4_entry (Some a) = entry keys.mep4 (addr_bytes a)
mep4_entry None = []

unfoldable pub pgt_entry : Option HostTime → List ℕ
pgt_entry (Some t) = entry keys.pgt (int_bytes t.0)
pgt_entry None = []

-- ---- packets

-- magic, kind, time to live, group 0, node id
unfoldable pub discovery_head : ℕ → ℕ → NodeId → List ℕ
discovery_head kind ttl node = bytes 8 asdp_magic ++ (bytes 1 kind ++ (bytes 1 ttl ++ (bytes 2 0 ++ bytes 8 node.0)))

-- `serialize_discovery_alive`: an alive, or a response
unfoldable pub alive_bytes : NodeId → NodeId → Timeline → StartStopState → Option SocketAddrPlain → Bool → List ℕ
alive_bytes node session timeline start_stop addr is_response =
    discovery_head (cond is_response discovery_kinds.response discovery_kinds.alive) 5 node
    ++ (entry keys.tmln (timeline_bytes timeline) ++ (entry keys.sess (bytes 8 session.0) ++ (entry keys.stst (start_stop_bytes start_stop) ++ mep4_entry addr)))

-- `serialize_discovery_byebye`
unfoldable pub byebye_bytes : NodeId → List ℕ
byebye_bytes node = discovery_head discovery_kinds.byebye 0 node

-- magic and kind
unfoldable pub measurement_head : ℕ → List ℕ
measurement_head kind = bytes 8 link_magic ++ bytes 1 kind

-- `serialize_measurement_ping`
unfoldable pub ping_bytes : HostTime → Option HostTime → List ℕ
ping_bytes time prev = measurement_head measurement_kinds.ping ++ (entry keys.ht (int_bytes time.0) ++ pgt_entry prev)

-- `serialize_measurement_pong`: the echo is what follows the ping's byte 8
unfoldable pub pong_bytes : NodeId → HostTime → List ℕ → List ℕ
pong_bytes session ghost echo = measurement_head measurement_kinds.pong ++ (entry keys.sess (bytes 8 session.0) ++ (entry keys.gt (int_bytes ghost.0) ++ echo))
