-- What is written reads back as the fields written: an alive and a response, a bye, a pong. Each field is one that its type can hold.
use Rattle.std.specs.Prelude.{◌≡◌, Bool, cond, List, [], ◌∷◌, ◌++◌, ℕ, ◌^◌, ◌<◌, pos, Option, Some, None}
use Rattle.std.proofs.Math.Path.{refl}
use Rattle.std.proofs.Common.{sym, ap, ◌∙◌, SFits}
use Rattle.std.proofs.Math.Bool.{true, false}
use native.Mathlib.Omega.{arith}
use Rattle.std.specs.Int.{w64}
use Rattle.big_endian.specs.Bytes.{bytes}
use Rattle.big_endian.specs.Laws.Numbers.{length-bytes}
use Rattle.time.specs.declared.HostTime.{HostTime}
use Rattle.timeline.specs.declared.Timeline.{Timeline}
use Rattle.timeline.specs.declared.StartStopState.{StartStopState}
use Rattle.timeline.specs.Session.{default_state}
use Rattle.wire.specs.declared.NodeId.{NodeId}
use Rattle.wire.specs.declared.DiscoveryMsg.{DiscoveryMsg}
use Rattle.wire.specs.declared.DiscoveryMsg.TheVariants.{Alive, ByeBye}
use Rattle.wire.specs.declared.MeasurementMsg.TheVariants.{Pong}
use Rattle.wire.specs.declared.Message.TheVariants.{Discovery, Measurement}
use Rattle.wire.specs.Layout.{keys, int_bytes, entry, timeline_bytes, start_stop_bytes, addr_bytes, mep4_entry, pgt_entry, discovery_head, measurement_head, alive_bytes, byebye_bytes, pong_bytes}
use Rattle.wire.specs.Parse.{Entry, entries, last_good, timeline_of, start_stop_of, node_of, addr_of, alive_of, pong_of, parse}
use Rattle.wire.specs.Laws.Reads.{entries_entry}
use Rattle.wire.specs.Laws.RoundTrip.{discovery, says, discovery_reads, measurement, tells, measurement_reads, TimelineFits, StartStopFits, timeline_back, start_stop_back, node_back, addr_back, time_back, no_time, timeline_24, start_stop_17, mep4_entries, mep4_reads, AddrHeld, TimeHeld, timed, time_entry, pgt_entries, ht_then_pgt, pgt_then_ht, echoed}
use Rattle.wire.specs.Laws.RoundTrip.AddrHeld.{absent, present}
use Rattle.wire.specs.Laws.RoundTrip.TimeHeld.{absent as no_time_held, present as time_held}
use Rattle.wire.specs.declared.SocketAddrPlain.{SocketAddrPlain}

-- ---- alive and response

module _ (node session : NodeId) (t : Timeline) (s : StartStopState) (a : Option SocketAddrPlain) where
  abbrev alive_body : List ℕ
  alive_body = entry keys.tmln (timeline_bytes t) ++ (entry keys.sess (bytes 8 session.0) ++ (entry keys.stst (start_stop_bytes s) ++ mep4_entry a))

  abbrev alive_entries : List Entry
  alive_entries =
      record { key = keys.tmln; value = timeline_bytes t }
      ∷ record { key = keys.sess; value = bytes 8 session.0 }
      ∷ record { key = keys.stst; value = start_stop_bytes s }
      ∷ mep4_entries a

  body_reads : entries alive_body ≡ alive_entries
  body_reads =
      entries_entry keys.tmln (timeline_bytes t) _ (omega arith) (omega (arith, timeline_24 t))
      ∙ ap (λ (es : List Entry). record { key = keys.tmln; value = timeline_bytes t } ∷ es)
      (entries_entry keys.sess (bytes 8 session.0) _ (omega arith) (omega (arith, length-bytes 8 session.0))
      ∙ ap (λ (es : List Entry). record { key = keys.sess; value = bytes 8 session.0 } ∷ es)
      (entries_entry keys.stst (start_stop_bytes s) _ (omega arith) (omega (arith, start_stop_17 s))
      ∙ ap (λ (es : List Entry). record { key = keys.stst; value = start_stop_bytes s } ∷ es) (mep4_reads a)))

  laid_out : (r : Bool) → alive_bytes node session t s a r ≡ discovery (cond r 2 1) 5 0 0 node.0 alive_body
  unfolding alive_bytes discovery_head bytes
  laid_out true = refl
  laid_out false = refl

  either_kind : (r : Bool) → says (cond r 2 1) node.0 alive_body ≡ Some (Discovery (alive_of node (entries alive_body)))
  either_kind true = refl
  either_kind false = refl

-- what the entries say
fields : (node session : NodeId) (t : Timeline) (s : StartStopState) (a : Option SocketAddrPlain) → AddrHeld a
    → alive_of node (alive_entries node session t s a) ≡ Alive node (timeline_of (Some (timeline_bytes t))) (start_stop_of (Some (start_stop_bytes s))) (node_of (Some (bytes 8 session.0))) a
unfolding alive_of last_good mep4_entries addr_of timeline_bytes start_stop_bytes addr_bytes bytes
fields node session t s None absent = refl
fields node session t s (Some a) (present f) =
    ap (Alive node (timeline_of (Some (timeline_bytes t))) (start_stop_of (Some (start_stop_bytes s))) (node_of (Some (bytes 8 session.0)))) (addr_back a f)

-- an alive and a response read back, with and without mep4
pub alive_round_trip : (node session : NodeId) (t : Timeline) (s : StartStopState) (a : Option SocketAddrPlain) (r : Bool)
    → node.0 < 2 ^ 64 → session.0 < 2 ^ 64 → TimelineFits t → StartStopFits s → AddrHeld a
    → parse (alive_bytes node session t s a r) ≡ Some (Discovery (Alive node (Some t) (Some s) (Some session) a))
alive_round_trip node session t s a r hn hs ft fs fa =
    ap parse (laid_out node session t s a r)
    ∙ discovery_reads (cond r 2 1) 5 0 0 node.0 (alive_body node session t s a) hn
    ∙ either_kind node session t s a r
    ∙ ap (λ (m : DiscoveryMsg). Some (Discovery m)) (ap (alive_of node) (body_reads node session t s a) ∙ fields node session t s a fa)
    ∙ rw (timeline_back t ft, start_stop_back s fs, node_back session hs)

-- ---- bye

byebye_laid : (node : NodeId) → byebye_bytes node ≡ discovery 3 0 0 0 node.0 []
unfolding byebye_bytes discovery_head bytes
byebye_laid node = refl

pub byebye_round_trip : (node : NodeId) → node.0 < 2 ^ 64 → parse (byebye_bytes node) ≡ Some (Discovery (ByeBye node))
byebye_round_trip node h = ap parse (byebye_laid node) ∙ discovery_reads 3 0 0 0 node.0 [] h

-- ---- pong

pong_laid : (session : NodeId) (ghost : HostTime) (echo : List ℕ) → pong_bytes session ghost echo ≡ measurement 2 (entry keys.sess (bytes 8 session.0) ++ (entry keys.gt (int_bytes ghost.0) ++ echo))
unfolding pong_bytes measurement_head bytes
pong_laid session ghost echo = refl

pong_entries : (session : NodeId) (ghost : HostTime) (echo : List ℕ)
    → entries (entry keys.sess (bytes 8 session.0) ++ (entry keys.gt (int_bytes ghost.0) ++ echo)) ≡ record { key = keys.sess; value = bytes 8 session.0 } ∷ timed keys.gt ghost ∷ entries echo
pong_entries session ghost echo =
    entries_entry keys.sess (bytes 8 session.0) _ (omega arith) (omega (arith, length-bytes 8 session.0))
    ∙ ap (λ (es : List Entry). record { key = keys.sess; value = bytes 8 session.0 } ∷ es) (time_entry keys.gt ghost echo (omega arith))

pong_fields : (session : NodeId) (ghost : HostTime) (es : List Entry) → tells 2 (record { key = keys.sess; value = bytes 8 session.0 } ∷ timed keys.gt ghost ∷ es) ≡ echoed session ghost es
unfolding last_good bytes
pong_fields session ghost es = refl

pub pong_reads : (session : NodeId) (ghost : HostTime) (echo : List ℕ) → parse (pong_bytes session ghost echo) ≡ echoed session ghost (entries echo)
pong_reads session ghost echo =
    ap parse (pong_laid session ghost echo)
    ∙ measurement_reads 2 (entry keys.sess (bytes 8 session.0) ++ (entry keys.gt (int_bytes ghost.0) ++ echo))
    ∙ ap (tells 2) (pong_entries session ghost echo)
    ∙ pong_fields session ghost (entries echo)

module _ (session : NodeId) (ghost t : HostTime) (hs : session.0 < 2 ^ 64) (hg : SFits w64 ghost.0) (ht : SFits w64 t.0) where
  -- both times of the echo, in either order
  both : (prev : Option HostTime) → TimeHeld prev → echoed session ghost (timed keys.ht t ∷ pgt_entries prev) ≡ Some (Measurement (Pong (Some session) ghost t prev))
  unfolding last_good pgt_entries bytes pong_of
  both None no_time_held = rw (node_back session hs, time_back ghost hg, time_back t ht, no_time)
  both (Some p) (time_held f) = rw (node_back session hs, time_back ghost hg, time_back t ht, time_back p f)

  turned : (prev : Option HostTime) → TimeHeld prev → echoed session ghost (pgt_entries prev ++ (timed keys.ht t ∷ [])) ≡ Some (Measurement (Pong (Some session) ghost t prev))
  unfolding last_good pgt_entries bytes pong_of
  turned None no_time_held = rw (node_back session hs, time_back ghost hg, time_back t ht, no_time)
  turned (Some p) (time_held f) = rw (node_back session hs, time_back ghost hg, time_back t ht, time_back p f)

  -- a pong reads back where its echo is one `__ht` and at most one `_pgt`, in either order
  pub pong_round_trip : (prev : Option HostTime) → TimeHeld prev
      → parse (pong_bytes session ghost (entry keys.ht (int_bytes t.0) ++ pgt_entry prev)) ≡ Some (Measurement (Pong (Some session) ghost t prev))
  pong_round_trip prev f = pong_reads session ghost _ ∙ ap (echoed session ghost) (ht_then_pgt t prev) ∙ both prev f

  pub pong_round_trip_turned : (prev : Option HostTime) → TimeHeld prev
      → parse (pong_bytes session ghost (pgt_entry prev ++ entry keys.ht (int_bytes t.0))) ≡ Some (Measurement (Pong (Some session) ghost t prev))
  pong_round_trip_turned prev f = pong_reads session ghost _ ∙ ap (echoed session ghost) (pgt_then_ht t prev) ∙ turned prev f

-- ---- the reader ignores the time to live and the group

pub head_ignored : (kind ttl ttl' g g' h h' node : ℕ) (body : List ℕ) → node < 2 ^ 64 → parse (discovery kind ttl g h node body) ≡ parse (discovery kind ttl' g' h' node body)
head_ignored kind ttl ttl' g g' h h' node body f = discovery_reads kind ttl g h node body f ∙ sym (discovery_reads kind ttl' g' h' node body f)

-- ---- the premises can be met

small : (n : ℕ) → n < 2 ^ 63 → SFits w64 (pos n)
small n h = record { sfits = h }

default_fits : TimelineFits default_state.timeline × StartStopFits default_state.start_stop
unfolding default_state
default_fits = (
  record { tempo = small 500_000 (omega arith); beat_origin = small 0 (omega arith); time_origin = small 0 (omega arith) },
  record { beat = small 0 (omega arith); time = small 0 (omega arith) },
)

-- node 1 in session 2 sends the default state from 0.0.0.3, port 4
pub alive_example : parse (alive_bytes (record { 0 = 1 }) (record { 0 = 2 }) default_state.timeline default_state.start_stop (Some (record { ip = 3; port = 4 })) false)
    ≡ Some (Discovery (Alive (record { 0 = 1 }) (Some default_state.timeline) (Some default_state.start_stop) (Some (record { 0 = 2 })) (Some (record { ip = 3; port = 4 }))))
alive_example =
    alive_round_trip (record { 0 = 1 }) (record { 0 = 2 }) default_state.timeline default_state.start_stop (Some (record { ip = 3; port = 4 })) false
    (omega arith) (omega arith) default_fits.0 default_fits.1 (present (record { ip = omega arith; port = omega arith }))

-- it answers a ping of time 5 that gave the shared time 6, at the shared time 7
pub pong_example : parse (pong_bytes (record { 0 = 2 }) (record { 0 = pos 7 }) (entry keys.ht (int_bytes (pos 5)) ++ pgt_entry (Some (record { 0 = pos 6 }))))
    ≡ Some (Measurement (Pong (Some (record { 0 = 2 })) (record { 0 = pos 7 }) (record { 0 = pos 5 }) (Some (record { 0 = pos 6 }))))
pong_example =
    pong_round_trip (record { 0 = 2 }) (record { 0 = pos 7 }) (record { 0 = pos 5 }) (omega arith) (small 7 (omega arith)) (small 5 (omega arith))
    (Some (record { 0 = pos 6 })) (time_held (small 6 (omega arith)))
