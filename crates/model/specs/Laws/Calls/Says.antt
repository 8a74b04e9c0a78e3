-- What a packet of bytes says fits the types of its fields.
use Rattle.std.specs.Prelude.{cond, ℕ, zero, suc, ◌+◌, ◌^◌, ◌<◌, ◌≤◌, Bool, true, false, ◌&&◌, ◌||◌, List, [], ◌∷◌, leb, length, take, drop, get_or, Option, Some, None}
use Rattle.std.proofs.Common.{mul-le-mul_right, arith, length-take, SFits}
use Rattle.std.proofs.Math.Nat.{pow-succ', pow-le-pow_right}
use Rattle.std.proofs.Math.Dec.{eqb}
use Rattle.std.specs.Int.{w64}
use Rattle.signed.specs.Laws.WrapLaws.{wrap64_fits}
use Rattle.big_endian.specs.Bytes.{number, number_at}
use Rattle.big_endian.specs.Laws.Numbers.{power_pos}
use Rattle.time.specs.declared.HostTime.{HostTime}
use Rattle.wire.specs.declared.NodeId.{NodeId}
use Rattle.wire.specs.declared.DiscoveryMsg.TheVariants.{Alive, ByeBye}
use Rattle.wire.specs.declared.MeasurementMsg.TheVariants.{Ping, Pong}
use Rattle.wire.specs.declared.Message.TheVariants.{Discovery, Measurement}
use Rattle.wire.specs.Layout.{asdp_magic, link_magic, discovery_kinds, measurement_kinds, keys, sizes}
use Rattle.wire.specs.Parse.{Entry, size_of, has_entry, first_entry, after_entry, scan, entries, last_good, timeline_of, start_stop_of, node_of, addr_of, time_of, alive_of, ping_of, pong_of, parse_discovery, parse_measurement, parse}
use Rattle.wire.specs.Laws.RoundTrip.{TimelineFits, StartStopFits, AddrHeld}
use Rattle.wire.specs.Laws.RoundTrip.AddrHeld.{absent, present}
use Rattle.model.specs.Peers.{timeline_list, start_stop_list}
use Rattle.lists.specs.Laws.Bools.{by_cond}
use Rattle.lists.specs.Laws.Each.{Each, nil, ◌▸◌}
use Rattle.lists.specs.Laws.ListLaws.{each_take, each_drop}
use Rattle.wire.specs.declared.Message.{Message}
use Rattle.timeline.specs.declared.Timeline.{Timeline}
use Rattle.timeline.specs.declared.StartStopState.{StartStopState}
use Rattle.wire.specs.declared.SocketAddrPlain.{SocketAddrPlain}

abbrev pub Byte : ℕ → Type 0
Byte b = b < 256

abbrev pub Bytes : List ℕ → Type 0
Bytes bs = Each Byte bs

-- ---- the fields

-- a node that may be absent
pub data NodeHeld : Option NodeId → Type 0 where
  no_node : NodeHeld None
  a_node : {n : NodeId} → n.0 < 2 ^ 64 → NodeHeld (Some n)

pub data MessageFits : Option Message → Type 0 where
  says_nothing : MessageFits None
  says_alive : {node : NodeId} {timeline : Option Timeline} {start_stop : Option StartStopState} {session : Option NodeId} {mep4 : Option SocketAddrPlain}
      → node.0 < 2 ^ 64 → Each TimelineFits (timeline_list timeline) → Each StartStopFits (start_stop_list start_stop) → NodeHeld session → AddrHeld mep4
      → MessageFits (Some (Discovery (Alive node timeline start_stop session mep4)))
  says_byebye : {node : NodeId} → node.0 < 2 ^ 64 → MessageFits (Some (Discovery (ByeBye node)))
  says_ping : {time : HostTime} {prev : Option HostTime} → MessageFits (Some (Measurement (Ping time prev)))
  says_pong : {session : Option NodeId} {b2 a2 : HostTime} {b1 : Option HostTime} → NodeHeld session → SFits w64 a2.0 → MessageFits (Some (Measurement (Pong session b2 a2 b1)))

-- ---- numbers of bytes

number_below : {bs : List ℕ} → Bytes bs → number bs < 256 ^ length bs
unfolding number
number_below nil = omega arith
number_below (◌▸◌ {x = b} {xs = bs} p h) =
    let q : b ≤ 255 = omega arith in
    omega (arith, mul-le-mul_right (256 ^ length bs) q, number_below h, pow-succ' 256 (length bs))

pub number_take : (n : ℕ) {bs : List ℕ} → Bytes bs → number (take n bs) < 256 ^ n
number_take n {bs} h =
    let l : length (take n bs) ≤ n = omega (arith, length-take n bs) in
    let s : 0 < 256 = omega arith in
    let p : 256 ^ length (take n bs) ≤ 256 ^ n = pow-le-pow_right s l in
    omega (arith, number_below (each_take n h))

pub number_at_below : (w k : ℕ) {bs : List ℕ} → Bytes bs → number_at w k bs < 256 ^ w
unfolding number_at
number_at_below w k {bs} h = by_cond (λ (n : ℕ). n < 256 ^ w) (leb (k + w) (length bs)) (number (take w (drop k bs))) 0 (λ e. number_take w (each_drop k h)) (λ e. power_pos w)

-- ---- entries

abbrev Valued : Entry → Type 0
Valued e = Bytes e.value

scan_fits : (n : ℕ) {bs : List ℕ} → Bytes bs → Each Valued (scan n bs)
unfolding scan first_entry after_entry
scan_fits zero h = nil
scan_fits (suc n) {bs} h = go (has_entry bs) (scan_fits n (each_drop (size_of bs) (each_drop 8 h)))
  where
    go : (t : Bool) → Each Valued (scan n (after_entry bs)) → Each Valued (elim t [ true ↦ first_entry bs ∷ scan n (after_entry bs) | false ↦ [] ])
    go true k = each_take (size_of bs) (each_drop 8 h) ▸ k
    go false k = nil

entries_fit : {bs : List ℕ} → Bytes bs → Each Valued (entries bs)
unfolding entries
entries_fit {bs} h = scan_fits (length bs) h

-- a value that may be absent
data ValueHeld : Option (List ℕ) → Type 0 where
  no_value : ValueHeld None
  a_value : {v : List ℕ} → Bytes v → ValueHeld (Some v)

last_good_fits : (key size : ℕ) {found : Option (List ℕ)} → ValueHeld found → {es : List Entry} → Each Valued es → ValueHeld (last_good key size found es)
unfolding last_good
last_good_fits key size f nil = f
last_good_fits key size {found} f (◌▸◌ {x = e} p h) =
    last_good_fits key size {found = cond (eqb e.key key && eqb (length e.value) size) (Some e.value) found} (by_cond ValueHeld (eqb e.key key && eqb (length e.value) size) (Some e.value) found (λ t. a_value p) (λ t. f)) h

timeline_of_fits : (o : Option (List ℕ)) → Each TimelineFits (timeline_list (timeline_of o))
unfolding timeline_of
timeline_of_fits None = nil
timeline_of_fits (Some v) = record { tempo = wrap64_fits _; beat_origin = wrap64_fits _; time_origin = wrap64_fits _ } ▸ nil

start_stop_of_fits : (o : Option (List ℕ)) → Each StartStopFits (start_stop_list (start_stop_of o))
unfolding start_stop_of
start_stop_of_fits None = nil
start_stop_of_fits (Some v) = record { beat = wrap64_fits _; time = wrap64_fits _ } ▸ nil

node_of_fits : {o : Option (List ℕ)} → ValueHeld o → NodeHeld (node_of o)
unfolding node_of
node_of_fits no_value = no_node
node_of_fits (a_value h) = a_node (number_take 8 h)

addr_of_fits : {o : Option (List ℕ)} → ValueHeld o → AddrHeld (addr_of o)
unfolding addr_of
addr_of_fits no_value = absent
addr_of_fits (a_value h) = present (record { ip = number_take 4 h; port = number_take 2 (each_drop 4 h) })

-- ---- packets

ping_of_fits : (t prev : Option HostTime) → MessageFits (ping_of t prev)
unfolding ping_of
ping_of_fits None prev = says_nothing
ping_of_fits (Some t) prev = says_ping

pong_of_fits : (session : Option NodeId) → NodeHeld session → (b2 : Option HostTime) (a2 : Option (List ℕ)) (b1 : Option HostTime) → MessageFits (pong_of session b2 (time_of a2) b1)
unfolding pong_of time_of
pong_of_fits session h None a2 b1 = says_nothing
pong_of_fits session h (Some b2) None b1 = says_nothing
pong_of_fits session h (Some b2) (Some v) b1 = says_pong h (wrap64_fits _)

module _ {bs : List ℕ} (h : Bytes bs) where
  discovery_fits : MessageFits (parse_discovery bs)
  unfolding parse_discovery alive_of
  discovery_fits =
      by_cond MessageFits (leb 20 (length bs)) _ None
      (λ t. by_cond MessageFits (eqb (get_or bs 8 0) discovery_kinds.byebye) _ _ (λ u. says_byebye (number_at_below 8 12 h))
      (λ u. by_cond MessageFits (eqb (get_or bs 8 0) discovery_kinds.alive || eqb (get_or bs 8 0) discovery_kinds.response) _ None
      (λ v. let es : Each Valued (entries (drop 20 bs)) = entries_fit (each_drop 20 h) in
      says_alive (number_at_below 8 12 h) (timeline_of_fits _) (start_stop_of_fits _) (node_of_fits (last_good_fits keys.sess sizes.sess no_value es)) (addr_of_fits (last_good_fits keys.mep4 sizes.mep4 no_value es)))
      (λ v. says_nothing)))
      (λ t. says_nothing)

  measurement_fits : MessageFits (parse_measurement bs)
  unfolding parse_measurement
  measurement_fits =
      by_cond MessageFits (leb 9 (length bs)) _ None
      (λ t. by_cond MessageFits (eqb (get_or bs 8 0) measurement_kinds.ping) _ _ (λ u. ping_of_fits _ _)
      (λ u. by_cond MessageFits (eqb (get_or bs 8 0) measurement_kinds.pong) _ None
      (λ v. pong_of_fits _ (node_of_fits (last_good_fits keys.sess sizes.sess no_value (entries_fit (each_drop 9 h)))) _ _ _)
      (λ v. says_nothing)))
      (λ t. says_nothing)

  pub parse_fits : MessageFits (parse bs)
  unfolding parse
  parse_fits =
      by_cond MessageFits (eqb (number_at 8 0 bs) asdp_magic) (parse_discovery bs) _ (λ t. discovery_fits)
      (λ t. by_cond MessageFits (eqb (number_at 8 0 bs) link_magic) (parse_measurement bs) None (λ u. measurement_fits) (λ u. says_nothing))
