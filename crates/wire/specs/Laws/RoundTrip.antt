-- What is written reads back as the fields written: the fields, each one that its type can hold, and a ping. The other packets stand in proofs/Laws/RoundTrip.
use Rattle.std.specs.Prelude.{◌≡◌, Bool, ◌||◌, not, cond, List, [], ◌∷◌, ◌++◌, ℕ, ◌/◌, ◌%◌, ◌^◌, ◌≤◌, ◌<◌, eqb, ℤ, pos, length, take, drop, get_or, Option, Some, None}
use Rattle.std.proofs.Math.Path.{refl}
use Rattle.std.proofs.Common.{sym, ap, ap₂, ◌∙◌, append-nil, SFits}
use Rattle.std.proofs.Math.Bool.{true, false}
use Rattle.std.proofs.Math.Nat.{mod-eq_of_lt}
use native.Mathlib.Omega.{arith}
use borrow.Author.Tests.{le-leb, lt-leb}
use Rattle.std.proofs.Math.Seq.{take-append_seam}
use Rattle.std.specs.Int.{w64}
use Rattle.signed.specs.Wrap.{mod64, wrap64}
use Rattle.signed.specs.Laws.Residue.{mod64_lt}
use Rattle.signed.specs.Laws.WrapLaws.{wrap64_residue, wrap64_id}
use Rattle.big_endian.specs.Bytes.{bytes, number_at}
use Rattle.big_endian.specs.Laws.Numbers.{length-bytes, number_bytes_below}
use Rattle.big_endian.specs.Laws.Puts.{by_bound}
use Rattle.time.specs.declared.HostTime.{HostTime}
use Rattle.timeline.specs.declared.Timeline.{Timeline}
use Rattle.timeline.specs.declared.StartStopState.{StartStopState}
use Rattle.wire.specs.declared.NodeId.{NodeId}
use Rattle.wire.specs.declared.SocketAddrPlain.{SocketAddrPlain}
use Rattle.wire.specs.declared.DiscoveryMsg.TheVariants.{ByeBye}
use Rattle.wire.specs.declared.MeasurementMsg.TheVariants.{Ping}
use Rattle.wire.specs.declared.Message.TheVariants.{Discovery, Measurement}
use Rattle.wire.specs.Layout.{asdp_magic, link_magic, keys, int_bytes, entry, timeline_bytes, start_stop_bytes, addr_bytes, mep4_entry, pgt_entry, measurement_head, ping_bytes}
use Rattle.wire.specs.Parse.{Entry, entries, scan, last_good, int, timeline_of, start_stop_of, node_of, addr_of, time_of, alive_of, ping_of, pong_of, parse_discovery, parse_measurement, parse}
use Rattle.big_endian.specs.Written.{Written, as_written, written}
use Rattle.wire.specs.Written.{written_echo}
use Rattle.wire.specs.Laws.Reads.{number_behind, entries_entry}
use Rattle.wire.specs.declared.Message.{Message}

-- ---- packets of any entries

-- a discovery packet, whatever its time to live and its group
abbrev pub discovery : ℕ → ℕ → ℕ → ℕ → ℕ → List ℕ → List ℕ
discovery kind ttl g h node body = bytes 8 asdp_magic ++ (kind ∷ ttl ∷ g ∷ h ∷ (bytes 8 node ++ body))

-- what it says: neither the time to live nor the group has a part in it
abbrev pub says : ℕ → ℕ → List ℕ → Option Message
says kind node body =
    cond (eqb kind 3) (Some (Discovery (ByeBye (record { 0 = node }))))
    (cond (eqb kind 1 || eqb kind 2) (Some (Discovery (alive_of (record { 0 = node }) (entries body)))) None)

module _ (kind ttl g h node : ℕ) (body : List ℕ) (fits : node < 2 ^ 64) where
  abbrev packet : List ℕ
  packet = discovery kind ttl g h node body

  long : 20 ≤ length packet
  unfolding bytes
  long = omega arith

  magic_is : number_at 8 0 packet ≡ asdp_magic
  magic_is = number_behind 8 asdp_magic [] (kind ∷ ttl ∷ g ∷ h ∷ (bytes 8 node ++ body)) 0 refl

  node_is : number_at 8 12 packet ≡ node
  unfolding bytes
  node_is = number_behind 8 node (bytes 8 asdp_magic ++ (kind ∷ ttl ∷ g ∷ h ∷ [])) body 12 refl ∙ mod-eq_of_lt fits

  kind_is : get_or packet 8 0 ≡ kind
  unfolding bytes
  kind_is = refl

  body_is : drop 20 packet ≡ body
  unfolding bytes
  body_is = refl

  pub discovery_reads : parse packet ≡ says kind node body
  unfolding parse parse_discovery
  discovery_reads = rw (magic_is, le-leb 20 (length packet) long, kind_is, node_is, body_is)

-- a measurement packet, and what it says
abbrev pub measurement : ℕ → List ℕ → List ℕ
measurement kind body = bytes 8 link_magic ++ (kind ∷ body)

abbrev pub tells : ℕ → List Entry → Option Message
tells kind es =
    cond (eqb kind 1) (ping_of (time_of (last_good keys.ht 8 None es)) (time_of (last_good keys.pgt 8 None es)))
    (cond (eqb kind 2) (pong_of (node_of (last_good keys.sess 8 None es)) (time_of (last_good keys.gt 8 None es)) (time_of (last_good keys.ht 8 None es)) (time_of (last_good keys.pgt 8 None es))) None)

module _ (kind : ℕ) (body : List ℕ) where
  link_is : number_at 8 0 (measurement kind body) ≡ link_magic
  link_is = number_behind 8 link_magic [] (kind ∷ body) 0 refl

  enough : 9 ≤ length (measurement kind body)
  unfolding bytes
  enough = omega arith

  its_kind : get_or (measurement kind body) 8 0 ≡ kind
  unfolding bytes
  its_kind = refl

  its_body : drop 9 (measurement kind body) ≡ body
  unfolding bytes
  its_body = refl

  pub measurement_reads : parse (measurement kind body) ≡ tells kind (entries body)
  unfolding parse parse_measurement
  measurement_reads = rw (link_is, le-leb 9 (length (measurement kind body)) enough, its_kind, its_body)

-- ---- values

pub int_back : (z : ℤ) → SFits w64 z → int (int_bytes z) ≡ z
int_back z f = ap (λ (n : ℕ). wrap64 (pos n)) (number_bytes_below 8 (mod64 z) (mod64_lt z)) ∙ wrap64_residue z ∙ wrap64_id z f

-- what the fields' types can hold
pub record TimelineFits (t : Timeline) : Type 0 where
  pub tempo : SFits w64 t.tempo.0
  pub beat_origin : SFits w64 t.beat_origin.0
  pub time_origin : SFits w64 t.time_origin.0

pub record StartStopFits (s : StartStopState) : Type 0 where
  pub beat : SFits w64 s.beat.0
  pub time : SFits w64 s.time.0

pub record AddrFits (a : SocketAddrPlain) : Type 0 where
  pub ip : a.ip < 2 ^ 32
  pub port : a.port < 2 ^ 16

pub timeline_back : (t : Timeline) → TimelineFits t → timeline_of (Some (timeline_bytes t)) ≡ Some t
unfolding timeline_of timeline_bytes bytes
timeline_back t f = rw (int_back t.tempo.0 f.tempo, int_back t.beat_origin.0 f.beat_origin, int_back t.time_origin.0 f.time_origin)

playing_back : (b : Bool) → not (eqb (cond b 1 0 / 256 ^ 0 % 256) 0) ≡ b
playing_back true = refl
playing_back false = refl

pub start_stop_back : (s : StartStopState) → StartStopFits s → start_stop_of (Some (start_stop_bytes s)) ≡ Some s
unfolding start_stop_of start_stop_bytes bytes
start_stop_back s f = rw (playing_back s.is_playing, int_back s.beat.0 f.beat, int_back s.time.0 f.time)

pub node_back : (n : NodeId) → n.0 < 2 ^ 64 → node_of (Some (bytes 8 n.0)) ≡ Some n
unfolding node_of bytes
node_back n h = rw (number_bytes_below 8 n.0 h)

pub addr_back : (a : SocketAddrPlain) → AddrFits a → addr_of (Some (addr_bytes a)) ≡ Some a
unfolding addr_of addr_bytes bytes
addr_back a f = rw (number_bytes_below 4 a.ip f.ip, number_bytes_below 2 a.port f.port)

pub time_back : (t : HostTime) → SFits w64 t.0 → time_of (Some (int_bytes t.0)) ≡ Some t
unfolding time_of bytes
time_back t f = rw (int_back t.0 f)

pub no_time : time_of None ≡ None
unfolding time_of
no_time = refl

-- ---- alive and response

-- an entry alone
one_entry : (k : ℕ) (v : List ℕ) → k < 2 ^ 32 → length v < 2 ^ 32 → entries (entry k v) ≡ record { key = k; value = v } ∷ []
unfolding entries scan
one_entry k v h l = ap entries (sym (append-nil (entry k v))) ∙ entries_entry k v [] h l

-- the sizes of the values
pub timeline_24 : (t : Timeline) → length (timeline_bytes t) ≡ 24
unfolding timeline_bytes bytes
timeline_24 t = refl

pub start_stop_17 : (s : StartStopState) → length (start_stop_bytes s) ≡ 17
unfolding start_stop_bytes bytes
start_stop_17 s = refl

addr_6 : (a : SocketAddrPlain) → length (addr_bytes a) ≡ 6
unfolding addr_bytes bytes
addr_6 a = refl

unfoldable pub mep4_entries : Option SocketAddrPlain → List Entry
mep4_entries (Some a) = record { key = keys.mep4; value = addr_bytes a } ∷ []
mep4_entries None = []

pub mep4_reads : (a : Option SocketAddrPlain) → entries (mep4_entry a) ≡ mep4_entries a
unfolding mep4_entry mep4_entries entries scan
mep4_reads (Some a) = one_entry keys.mep4 (addr_bytes a) (omega arith) (omega (arith, addr_6 a))
mep4_reads None = refl

-- an address that may be absent, as its type can hold it
pub data AddrHeld : Option SocketAddrPlain → Type 0 where
  absent : AddrHeld None
  present : {a : SocketAddrPlain} → AddrFits a → AddrHeld (Some a)

-- ---- ping

-- a time that may be absent, as its type can hold it
pub data TimeHeld : Option HostTime → Type 0 where
  absent : TimeHeld None
  present : {t : HostTime} → SFits w64 t.0 → TimeHeld (Some t)

-- an entry that holds a time
abbrev pub timed : ℕ → HostTime → Entry
timed k t = record { key = k; value = int_bytes t.0 }

pub time_entry : (k : ℕ) (t : HostTime) (rest : List ℕ) → k < 2 ^ 32 → entries (entry k (int_bytes t.0) ++ rest) ≡ timed k t ∷ entries rest
time_entry k t rest h = entries_entry k (int_bytes t.0) rest h (omega (arith, length-bytes 8 (mod64 t.0)))

lone_time : (k : ℕ) (t : HostTime) → k < 2 ^ 32 → entries (entry k (int_bytes t.0)) ≡ timed k t ∷ []
lone_time k t h = one_entry k (int_bytes t.0) h (omega (arith, length-bytes 8 (mod64 t.0)))

unfoldable pub pgt_entries : Option HostTime → List Entry
pgt_entries (Some t) = timed keys.pgt t ∷ []
pgt_entries None = []

-- `__ht` and then at most one `_pgt`, and the other way round
pub ht_then_pgt : (t : HostTime) (prev : Option HostTime) → entries (entry keys.ht (int_bytes t.0) ++ pgt_entry prev) ≡ timed keys.ht t ∷ pgt_entries prev
unfolding pgt_entry pgt_entries entries scan
ht_then_pgt t None = time_entry keys.ht t [] (omega arith)
ht_then_pgt t (Some p) = time_entry keys.ht t _ (omega arith) ∙ ap (λ (es : List Entry). timed keys.ht t ∷ es) (lone_time keys.pgt p (omega arith))

pub pgt_then_ht : (t : HostTime) (prev : Option HostTime) → entries (pgt_entry prev ++ entry keys.ht (int_bytes t.0)) ≡ pgt_entries prev ++ (timed keys.ht t ∷ [])
unfolding pgt_entry pgt_entries
pgt_then_ht t None = lone_time keys.ht t (omega arith)
pgt_then_ht t (Some p) = time_entry keys.pgt p _ (omega arith) ∙ ap (λ (es : List Entry). timed keys.pgt p ∷ es) (lone_time keys.ht t (omega arith))

ping_laid : (t : HostTime) (prev : Option HostTime) → ping_bytes t prev ≡ measurement 1 (entry keys.ht (int_bytes t.0) ++ pgt_entry prev)
unfolding ping_bytes measurement_head bytes
ping_laid t prev = refl

-- what the entries say
ping_fields : (t : HostTime) (prev : Option HostTime) → SFits w64 t.0 → TimeHeld prev → tells 1 (timed keys.ht t ∷ pgt_entries prev) ≡ Some (Measurement (Ping t prev))
unfolding last_good pgt_entries bytes ping_of time_of
ping_fields t None f absent = ap (λ (x : Option HostTime). ping_of x None) (time_back t f)
ping_fields t (Some p) f (present g) = ap₂ (λ (x y : Option HostTime). ping_of x y) (time_back t f) (time_back p g)

-- a ping reads back, with and without the previous time
pub ping_round_trip : (t : HostTime) (prev : Option HostTime) → SFits w64 t.0 → TimeHeld prev → parse (ping_bytes t prev) ≡ Some (Measurement (Ping t prev))
ping_round_trip t prev f g =
    ap parse (ping_laid t prev)
    ∙ measurement_reads 1 (entry keys.ht (int_bytes t.0) ++ pgt_entry prev)
    ∙ ap (tells 1) (ht_then_pgt t prev)
    ∙ ping_fields t prev f g

-- ---- pong

-- What a pong says, whatever it echoes: an echoed `sess` or `__gt` of eight bytes counts in the place of the pong's own, and the two times are
-- those of the echo.
abbrev pub echoed : NodeId → HostTime → List Entry → Option Message
echoed session ghost es =
    pong_of (node_of (last_good keys.sess 8 (Some (bytes 8 session.0)) es)) (time_of (last_good keys.gt 8 (Some (int_bytes ghost.0)) es))
    (time_of (last_good keys.ht 8 None es)) (time_of (last_good keys.pgt 8 None es))

-- ---- through the contracts: what a writer wrote, with its number 0, the reader reads

-- the packet stands at the front of the part
pub written_front : (packet old p : List ℕ) (n : ℕ) → as_written n p ≡ written packet old → n ≡ 0 → take (length packet) p ≡ packet
unfolding written
written_front packet old p n e z =
    by_bound (length packet) (length old)
    (λ f. ap (take (length packet)) (ap (λ (w : Written). w.part) e ∙ rw (le-leb _ _ f)) ∙ take-append_seam packet (drop (length packet) old))
    (λ f. let s : n ≡ 7 = ap (λ (w : Written). w.number) e ∙ rw (lt-leb _ _ f) in let y : ⊥ = omega arith in absurd y)

pub written_echo_front : (packet : List ℕ → List ℕ) (echo old p : List ℕ) (n : ℕ) → as_written n p ≡ written_echo packet echo old → n ≡ 0 → take (length (packet echo)) p ≡ packet echo
unfolding written_echo
written_echo_front packet echo old p n e z =
    by_bound (length echo) 503
    (λ f. written_front (packet echo) old p n (e ∙ rw (le-leb _ _ f)) z)
    (λ f. let s : n ≡ 3 = ap (λ (w : Written). w.number) e ∙ rw (lt-leb _ _ f) in let y : ⊥ = omega arith in absurd y)

-- r is the reader's answer on the packet's part, m what the packet says
pub code_round_trip : (packet p : List ℕ) (m r : Option Message) → take (length packet) p ≡ packet → r ≡ parse (take (length packet) p) → parse packet ≡ m → r ≡ m
code_round_trip packet p m r front e says = e ∙ ap parse front ∙ says
