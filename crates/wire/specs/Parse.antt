-- What a packet's bytes say.
use Rattle.std.specs.Prelude.{ℕ, zero, suc, ◌-◌, Bool, true, false, ◌&&◌, ◌||◌, not, cond, List, [], ◌∷◌, eqb, leb, ℤ, pos, length, take, drop, get_or, Option, Some, None}
use Rattle.signed.specs.Wrap.{wrap64}
use Rattle.big_endian.specs.Bytes.{number, number_at}
use Rattle.wire.specs.declared.NodeId.{NodeId}
use Rattle.wire.specs.declared.DiscoveryMsg.{DiscoveryMsg}
use Rattle.wire.specs.declared.DiscoveryMsg.TheVariants.{Alive, ByeBye}
use Rattle.wire.specs.declared.MeasurementMsg.TheVariants.{Ping, Pong}
use Rattle.wire.specs.declared.Message.TheVariants.{Discovery, Measurement}
use Rattle.wire.specs.Layout.{asdp_magic, link_magic, discovery_kinds, measurement_kinds, keys, sizes}
use Rattle.wire.specs.declared.SocketAddrPlain.{SocketAddrPlain}
use Rattle.time.specs.declared.HostTime.{HostTime}
use Rattle.wire.specs.declared.Message.{Message}
use Rattle.timeline.specs.declared.Timeline.{Timeline}
use Rattle.timeline.specs.declared.StartStopState.{StartStopState}

-- ---- entries: a 4-byte key, a 4-byte size, the value

pub record Entry : Type 0 where
  pub key : ℕ
  pub value : List ℕ

-- the size that the first entry gives
unfoldable pub size_of : List ℕ → ℕ
size_of bs = number_at 4 4 bs

-- whether 8 bytes are left, and the size is not past the end
unfoldable pub has_entry : List ℕ → Bool
has_entry bs = leb 8 (length bs) && leb (size_of bs) (length bs - 8)

unfoldable pub first_entry : List ℕ → Entry
first_entry bs = record { key = number_at 4 0 bs; value = take (size_of bs) (drop 8 bs) }

unfoldable pub after_entry : List ℕ → List ℕ
after_entry bs = drop (size_of bs) (drop 8 bs)

-- at most the first n entries, up to where the scan ends
unfoldable pub scan : ℕ → List ℕ → List Entry
scan zero bs = []
scan (suc n) bs = elim (has_entry bs) [ true ↦ first_entry bs ∷ scan n (after_entry bs) | false ↦ [] ]

-- all entries: no list has more of them than bytes
unfoldable pub entries : List ℕ → List Entry
entries bs = scan (length bs) bs

-- the value of the last entry with this key and this size, or else `found`
unfoldable pub last_good : ℕ → ℕ → Option (List ℕ) → List Entry → Option (List ℕ)
last_good key size found [] = found
last_good key size found (e ∷ es) =
    last_good key size (cond (eqb e.key key && eqb (length e.value) size) (Some e.value) found) es

-- ---- values

-- eight bytes as a signed number
abbrev pub int : List ℕ → ℤ
int bs = wrap64 (pos (number bs))

unfoldable pub timeline_of : Option (List ℕ) → Option Timeline
timeline_of None = None
timeline_of (Some v) =
    Some (record {
      tempo = record { 0 = int (take 8 v) };
      beat_origin = record { 0 = int (take 8 (drop 8 v)) };
      time_origin = record { 0 = int (take 8 (drop 16 v)) };
    })

-- any playing byte but 0 is true
unfoldable pub start_stop_of : Option (List ℕ) → Option StartStopState
start_stop_of None = None
start_stop_of (Some v) =
    Some (record {
      is_playing = not (eqb (get_or v 0 0) 0);
      beat = record { 0 = int (take 8 (drop 1 v)) };
      time = record { 0 = int (take 8 (drop 9 v)) };
    })

unfoldable pub node_of : Option (List ℕ) → Option NodeId
node_of None = None
node_of (Some v) = Some (record { 0 = number (take 8 v) })

unfoldable pub addr_of : Option (List ℕ) → Option SocketAddrPlain
addr_of None = None
addr_of (Some v) = Some (record { ip = number (take 4 v); port = number (take 2 (drop 4 v)) })

unfoldable pub time_of : Option (List ℕ) → Option HostTime
time_of None = None
time_of (Some v) = Some (record { 0 = int (take 8 v) })

-- ---- messages

unfoldable pub alive_of : NodeId → List Entry → DiscoveryMsg
alive_of node es =
    Alive node
    (timeline_of (last_good keys.tmln sizes.tmln None es))
    (start_stop_of (last_good keys.stst sizes.stst None es))
    (node_of (last_good keys.sess sizes.sess None es))
    (addr_of (last_good keys.mep4 sizes.mep4 None es))

-- a ping needs its host time
unfoldable pub ping_of : Option HostTime → Option HostTime → Option Message
ping_of None prev = None
ping_of (Some time) prev = Some (Measurement (Ping time prev))

-- a pong needs the shared time and the ping's host time
unfoldable pub pong_of : Option NodeId → Option HostTime → Option HostTime → Option HostTime → Option Message
pong_of session None time prev = None
pong_of session (Some ghost) None prev = None
pong_of session (Some ghost) (Some time) prev = Some (Measurement (Pong session ghost time prev))

-- entries from byte 20 on; the time to live and the group, bytes 9 to 11, are not looked at
unfoldable pub parse_discovery : List ℕ → Option Message
parse_discovery bs =
    let kind = get_or bs 8 0 in
    let node : NodeId = record { 0 = number_at 8 12 bs } in
    cond (leb 20 (length bs))
    (cond (eqb kind discovery_kinds.byebye) (Some (Discovery (ByeBye node)))
    (cond (eqb kind discovery_kinds.alive || eqb kind discovery_kinds.response) (Some (Discovery (alive_of node (entries (drop 20 bs))))) None))
    None

-- entries from byte 9 on
unfoldable pub parse_measurement : List ℕ → Option Message
parse_measurement bs =
    let kind = get_or bs 8 0 in
    let es = entries (drop 9 bs) in
    let host_time = time_of (last_good keys.ht sizes.time None es) in
    let prev = time_of (last_good keys.pgt sizes.time None es) in
    cond (leb 9 (length bs))
    (cond (eqb kind measurement_kinds.ping) (ping_of host_time prev)
    (cond (eqb kind measurement_kinds.pong) (pong_of (node_of (last_good keys.sess sizes.sess None es)) (time_of (last_good keys.gt sizes.time None es)) host_time prev) None))
    None

-- `parse_message`
unfoldable pub parse : List ℕ → Option Message
parse bs =
    let magic = number_at 8 0 bs in
    cond (eqb magic asdp_magic) (parse_discovery bs) (cond (eqb magic link_magic) (parse_measurement bs) None)

-- the number of the reader's answer: 0 for a message, 4 for none
abbrev pub number_of : Option Message → ℕ
number_of (Some m) = 0
number_of None = 4
