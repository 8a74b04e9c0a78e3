-- What a written alive reads as, whatever numbers it was written of: each by its low 64 bits.
use Rattle.std.specs.Prelude.{ℕ, ◌^◌, ◌<◌, ◌≡◌, false, List, ◌++◌, Option, Some, None}
use Rattle.std.proofs.Common.{arith, sym, ap, ◌∙◌}
use Rattle.std.proofs.Math.Path.{refl}
use Rattle.signed.specs.Wrap.{wrap64}
use Rattle.signed.specs.Laws.WrapLaws.{wrap64_fits, mod64_wrap64}
use Rattle.big_endian.specs.Bytes.{bytes, number, number_at}
use Rattle.time.specs.declared.HostTime.{HostTime}
use Rattle.timeline.specs.declared.Timeline.{Timeline}
use Rattle.timeline.specs.declared.StartStopState.{StartStopState}
use Rattle.wire.specs.declared.NodeId.{NodeId}
use Rattle.wire.specs.declared.SocketAddrPlain.{SocketAddrPlain}
use Rattle.wire.specs.declared.DiscoveryMsg.{DiscoveryMsg}
use Rattle.wire.specs.declared.DiscoveryMsg.TheVariants.{Alive}
use Rattle.wire.specs.declared.Message.TheVariants.{Discovery}
use Rattle.wire.specs.Layout.{keys, int_bytes, entry, timeline_bytes, start_stop_bytes, addr_bytes, mep4_entry, pgt_entry, discovery_head, alive_bytes, measurement_head, ping_bytes}
use Rattle.wire.specs.Parse.{size_of, has_entry, first_entry, after_entry, scan, entries, last_good, timeline_of, start_stop_of, alive_of, ping_of, parse}
use Rattle.wire.specs.Laws.RoundTrip.{TimelineFits, StartStopFits, AddrFits, timeline_back, start_stop_back, discovery_reads, measurement_reads}
use Rattle.wire.specs.Laws.RoundTrip.AddrHeld.{present}
use Rattle.wire.proofs.Laws.RoundTrip.{alive_round_trip}
use Rattle.model.specs.Packet.{AliveMsg}
use Rattle.model.specs.Laws.Calls.Messages.{alive_said}

-- ---- low 64 bits

-- a line and a start-stop state by their low 64 bits
unfoldable pub low_bits : Timeline → Timeline
low_bits l = record {
  tempo = record { 0 = wrap64 l.tempo.0 };
  beat_origin = record { 0 = wrap64 l.beat_origin.0 };
  time_origin = record { 0 = wrap64 l.time_origin.0 };
}

unfoldable pub low_start_stop : StartStopState → StartStopState
low_start_stop s = record { is_playing = s.is_playing; beat = record { 0 = wrap64 s.beat.0 }; time = record { 0 = wrap64 s.time.0 } }

-- no other bits are written
line_bytes : (l : Timeline) → timeline_bytes (low_bits l) ≡ timeline_bytes l
unfolding timeline_bytes low_bits
line_bytes l = rw (mod64_wrap64 l.tempo.0, mod64_wrap64 l.beat_origin.0, mod64_wrap64 l.time_origin.0)

stop_bytes : (s : StartStopState) → start_stop_bytes (low_start_stop s) ≡ start_stop_bytes s
unfolding start_stop_bytes low_start_stop
stop_bytes s = rw (mod64_wrap64 s.beat.0, mod64_wrap64 s.time.0)

line_fits : (l : Timeline) → TimelineFits (low_bits l)
unfolding low_bits
line_fits l = record { tempo = wrap64_fits _; beat_origin = wrap64_fits _; time_origin = wrap64_fits _ }

stop_fits : (s : StartStopState) → StartStopFits (low_start_stop s)
unfolding low_start_stop
stop_fits s = record { beat = wrap64_fits _; time = wrap64_fits _ }

line_low : (l : Timeline) → timeline_of (Some (timeline_bytes l)) ≡ Some (low_bits l)
line_low l = ap (λ (bs : List ℕ). timeline_of (Some bs)) (sym (line_bytes l)) ∙ timeline_back (low_bits l) (line_fits l)

start_stop_low : (s : StartStopState) → start_stop_of (Some (start_stop_bytes s)) ≡ Some (low_start_stop s)
start_stop_low s = ap (λ (bs : List ℕ). start_stop_of (Some bs)) (sym (stop_bytes s)) ∙ start_stop_back (low_start_stop s) (stop_fits s)

-- ---- an alive

module _ (node session : NodeId) (l : Timeline) (s : StartStopState) (a : SocketAddrPlain) where
  abbrev body : List ℕ
  body = entry keys.tmln (timeline_bytes l) ++ (entry keys.sess (bytes 8 session.0) ++ (entry keys.stst (start_stop_bytes s) ++ mep4_entry (Some a)))

  alive_reads : node.0 < 2 ^ 64 → parse (alive_bytes node session l s (Some a) false) ≡ Some (Discovery (alive_of node (entries body)))
  unfolding alive_bytes discovery_head bytes
  alive_reads h = discovery_reads 1 5 0 0 node.0 body h

  -- the entries of the line and of the start-stop state are the only ones with their keys
  line_entry : last_good keys.tmln 24 None (entries body) ≡ Some (timeline_bytes l)
  unfolding entry timeline_bytes start_stop_bytes addr_bytes mep4_entry bytes number number_at size_of has_entry first_entry after_entry scan entries last_good
  line_entry = refl

  start_stop_entry : last_good keys.stst 17 None (entries body) ≡ Some (start_stop_bytes s)
  unfolding entry timeline_bytes start_stop_bytes addr_bytes mep4_entry bytes number number_at size_of has_entry first_entry after_entry scan entries last_good
  start_stop_entry = refl

alive_node : (m : AliveMsg) (n : NodeId) (l : Option Timeline) (s : Option StartStopState) (i : Option NodeId) (a : Option SocketAddrPlain) → alive_said m ≡ Some (Discovery (Alive n l s i a)) → m.node_id ≡ n
alive_node m n l s i a e = cc

alive_line : (m : AliveMsg) (n : NodeId) (l : Option Timeline) (s : Option StartStopState) (i : Option NodeId) (a : Option SocketAddrPlain) → alive_said m ≡ Some (Discovery (Alive n l s i a)) → m.timeline ≡ l
alive_line m n l s i a e = cc

alive_start_stop : (m : AliveMsg) (n : NodeId) (l : Option Timeline) (s : Option StartStopState) (i : Option NodeId) (a : Option SocketAddrPlain) → alive_said m ≡ Some (Discovery (Alive n l s i a)) → m.start_stop ≡ s
alive_start_stop m n l s i a e = cc

-- m tells of this node, and of this line and this start-stop state by their low 64 bits
pub record Tells (node : NodeId) (l : Timeline) (s : StartStopState) (m : AliveMsg) : Type 0 where
  pub of_node : m.node_id ≡ node
  pub line : m.timeline ≡ Some (low_bits l)
  pub start_stop : m.start_stop ≡ Some (low_start_stop s)

pub alive_says : (node session : NodeId) (l : Timeline) (s : StartStopState) (a : SocketAddrPlain) (m : AliveMsg) → node.0 < 2 ^ 64
    → parse (alive_bytes node session l s (Some a) false) ≡ alive_said m → Tells node l s m
unfolding alive_of
alive_says node session l s a m h e =
    let f = sym e ∙ alive_reads node session l s a h in
    record {
      of_node = alive_node m _ _ _ _ _ f;
      line = alive_line m _ _ _ _ _ f ∙ ap timeline_of (line_entry node session l s a) ∙ line_low l;
      start_stop = alive_start_stop m _ _ _ _ _ f ∙ ap start_stop_of (start_stop_entry node session l s a) ∙ start_stop_low s;
    }

-- and it does read as an alive, where ids and address fit their types
pub alive_back : (node session : NodeId) (l : Timeline) (s : StartStopState) (a : SocketAddrPlain) → node.0 < 2 ^ 64 → session.0 < 2 ^ 64 → AddrFits a
    → parse (alive_bytes node session l s (Some a) false)
    ≡ Some (Discovery (Alive node (Some (low_bits l)) (Some (low_start_stop s)) (Some session) (Some a)))
unfolding alive_bytes
alive_back node session l s a hn hs ha =
    let low : alive_bytes node session (low_bits l) (low_start_stop s) (Some a) false ≡ alive_bytes node session l s (Some a) false = rw (line_bytes l, stop_bytes s) in
    ap parse (sym low) ∙ alive_round_trip node session (low_bits l) (low_start_stop s) (Some a) false hn hs (line_fits l) (stop_fits s) (present ha)

-- ---- a ping is no alive

ping_of_no : (t prev : Option HostTime) (m : DiscoveryMsg) → ping_of t prev ≡ Some (Discovery m) → ⊥
unfolding ping_of
ping_of_no None prev m e = let z : ◌≡◌ {A = ℕ} 0 1 = cc in omega arith
ping_of_no (Some t) prev m e = let z : ◌≡◌ {A = ℕ} 0 1 = cc in omega arith

pub ping_no : (t : HostTime) (m : DiscoveryMsg) → parse (ping_bytes t None) ≡ Some (Discovery m) → ⊥
unfolding ping_bytes measurement_head bytes
ping_no t m e = ping_of_no _ _ m (sym (measurement_reads 1 (entry keys.ht (int_bytes t.0) ++ pgt_entry None)) ∙ e)
