-- The distance rule of two pairs of lists of calls that meet every premise. In the first the line is moved by an inexact product, and the two lines stand as
-- far apart as the rule allows. In the second a neighbour of the receiver goes in the receiver's last call, so that two elections are held in it.
use Rattle.std.specs.Prelude.{ℕ, ◌≤◌, ◌≡◌, refl, true, false, ℤ, pos, negsuc, nat_abs, ◌-ℤ◌, length, Option, Some, None}
use Rattle.std.proofs.Common.{arith, sym, ap, ◌∙◌}
use mathlib.Core.List.Memᴰ
use mathlib.Core.List.{List, [], ◌∷◌, ◌++◌, cons≢nil}
use Rattle.std.proofs.Math.IntN.{+ℤ_invr}
use Rattle.std.specs.Float.{binary64}
use Rattle.std.specs.Float.Ieee.{of_int}
use Rattle.std.specs.Int.Signed.{le_z_yes, lt_z_yes}
use Rattle.time.specs.declared.HostTime.{HostTime}
use Rattle.time.specs.Convert.{from_tempo}
use Rattle.time.specs.Laws.Theorems.{from_tempo_20, from_tempo_999}
use Rattle.timeline.specs.declared.Timeline.{Timeline}
use Rattle.timeline.specs.declared.StartStopState.{StartStopState}
use Rattle.timeline.specs.declared.SessionState.{SessionState}
use Rattle.wire.specs.declared.NodeId.{NodeId}
use Rattle.wire.specs.declared.SocketAddrPlain.{SocketAddrPlain}
use Rattle.wire.specs.Layout.{keys, int_bytes, entry, alive_bytes, pong_bytes}
use Rattle.model.specs.Peers.{Samples, Peer, Interface, no_samples}
use Rattle.model.specs.Engine.{Box, Output, new, multicast, our_alive}
use Rattle.model.specs.Packet.{AliveMsg}
use Rattle.model.specs.Calls.{Call, packet, commit, switch, interface_added, Outcome, refused, done, committed, step, next, run}
use Rattle.model.specs.Preview.{given, preview}
use Rattle.model.specs.Laws.Tools.Open.{everything}
use Rattle.lists.specs.Laws.Each.{nil, ◌▸◌}
use Rattle.model.proofs.Laws.Calls.Reach.{reached}
use Rattle.model.specs.Laws.Distance.Statement.{stands, upkeep_elections, packet_elections, Commits, Hears, Near}
use Rattle.model.specs.Laws.Distance.Wider.{Writes, TakesAlive, Newest}
use Rattle.model.specs.Laws.Distance.Exact.{regroup}
use Rattle.model.proofs.Laws.Distance.Rule.{run_then, rule_alive, rule_writes, rule_takes, rule_newest, distance, distance_exactly, tempo_reaches_exactly, slowest_and_fastest_reach}

-- ---- names

abbrev pub node : ℕ → NodeId
node n = record { 0 = n }

abbrev pub at : ℕ → HostTime
at t = record { 0 = pos t }

abbrev pub line : ℤ → ℤ → ℤ → Timeline
line tempo beat time = record { tempo = record { 0 = tempo }; beat_origin = record { 0 = beat }; time_origin = record { 0 = time } }

abbrev pub stopped : ℤ → StartStopState
stopped t = record { is_playing = false; beat = record { 0 = pos 0 }; time = record { 0 = t } }

-- 192.168.0.1 to 192.168.0.3, port 20808: the sender, the receiver, and a third
abbrev pub here : SocketAddrPlain
here = record { ip = 0xc0a8_0001; port = 20808 }

abbrev pub there : SocketAddrPlain
there = record { ip = 0xc0a8_0002; port = 20808 }

abbrev pub third : SocketAddrPlain
third = record { ip = 0xc0a8_0003; port = 20808 }

abbrev interface : SocketAddrPlain → List Interface
interface addr = record { id = 7; addr = addr } ∷ []

-- an alive of a node in session 1; the sender's shared time is 1,000 behind its host time
abbrev alive : ℕ → SocketAddrPlain → Timeline → List ℕ
alive n addr l = alive_bytes (node n) (node 1) l (stopped (negsuc 999)) (Some addr) false

-- node 1's pong at the shared time 2,000, on a ping of the time 3,000
abbrev pong : List ℕ
pong = pong_bytes (node 1) (at 2000) (entry keys.ht (int_bytes (pos 3000)))

abbrev pub outputs : Outcome → List Output
outputs (refused n) = []
outputs (done e os) = os

abbrev pub beats : Option Timeline → ℕ
beats None = 0
beats (Some l) = nat_abs l.beat_origin.0

-- the sample of that pong, taken at 4,000
abbrev sampled_once : Samples
sampled_once = record { offsets = negsuc 1499 ∷ []; ping_times = at 3000 ∷ [] }

-- a neighbour in session 1 that is being measured
abbrev neighbour : ℕ → SocketAddrPlain → Timeline → ℕ → Samples → ℕ → ℕ → Peer
neighbour n addr l seen samples ping timeouts = record {
  id = node n;
  session_id = Some (node 1);
  timeline_ghost = Some l;
  start_stop_ghost = Some (stopped (negsuc 999));
  last_seen = at seen;
  addr = addr;
  samples = samples;
  next_ping_time = at ping;
  ping_timeouts = timeouts;
  measuring = true;
}

-- ---- 1: node 1 has committed the beat origin 8,000,000

unfoldable pub sender_calls_1 : List Call
sender_calls_1 =
    interface_added 7 here
    ∷ switch true (at 1000) 4096
    ∷ commit (record { timeline = line (pos 500_000) (pos 8_000_000) (pos 5000); start_stop = stopped (pos 0) }) (at 2000) 4096
    ∷ []

-- node 2 hears of node 1, gets a pong from it, comes into its session, and takes the committed line
unfoldable pub receiver_calls_1 : List Call
receiver_calls_1 =
    interface_added 7 there
    ∷ switch true (at 2000) 4096
    ∷ packet 7 here (alive 1 here (line (pos 500_000) (pos 0) (pos 0))) (at 3000) 4096
    ∷ packet 7 here pong (at 4000) 4096
    ∷ packet 7 here (alive 1 here (line (pos 500_000) (pos 8_000_000) (pos 4000))) (at 4500) 4096
    ∷ []

pub sender_1 : Box
sender_1 = record {
  node_id = node 1;
  enabled = true;
  session_id = node 1;
  session_offset = negsuc 999;
  state = record { timeline = line (pos 500_000) (pos 8_000_000) (pos 5000); start_stop = stopped (pos 0) };
  interfaces = interface here;
  peers = [];
  num_session_peers = 0;
  next_broadcast = at 252_000;
}

receiver_1 : Box
receiver_1 = record {
  node_id = node 2;
  enabled = true;
  session_id = node 1;
  session_offset = negsuc 1499;
  state = record { timeline = line (pos 500_000) (pos 8_000_000) (pos 5500); start_stop = stopped (pos 500) };
  interfaces = interface there;
  peers = neighbour 1 here (line (pos 500_000) (pos 8_000_000) (pos 4000)) 4500 sampled_once 54_000 0 ∷ [];
  num_session_peers = 1;
  next_broadcast = at 254_500;
}

sender_is_1 : run (new (node 1)) sender_calls_1 ≡ sender_1
unfolding everything sender_calls_1 sender_1
sender_is_1 = refl

receiver_is_1 : run (new (node 2)) receiver_calls_1 ≡ receiver_1
unfolding everything receiver_calls_1 receiver_1
receiver_is_1 = refl

-- asked below the known beat origin, with a tempo of which the move's worth is no whole number
pub asked_1 : SessionState
asked_1 = record { timeline = line (pos 999_999) (pos 7_999_999) (pos 6000); start_stop = stopped (pos 0) }

unfoldable pub bytes_1 : List ℕ
bytes_1 = our_alive (committed sender_1 asked_1 (at 3000)) (Some here) false

pub sent_1 : Timeline
sent_1 = line (pos 999_999) (pos 9_000_000) (pos 1_004_999)

commits_at_1 : Commits sender_1 asked_1 (at 3000) 4096 bytes_1 sent_1
unfolding everything sender_1 asked_1 bytes_1 sent_1
commits_at_1 = record {
  sends = record {
    after = next sender_1 (step sender_1 (commit asked_1 (at 3000) 4096));
    outputs = outputs (step sender_1 (commit asked_1 (at 3000) 4096));
    accepted = refl;
    changes = λ e. let f : ◌≡◌ {A = ℕ} 999_999 500_000 = ap (λ (l : Timeline). nat_abs l.tempo.0) e in omega arith;
    interface = 7;
    to = multicast;
    written = Memᴰ.tail (Memᴰ.head refl);
    node = node 1;
    start_stop = Some (stopped (negsuc 999));
    mep4 = Some here;
    session = node 1;
    reads = refl;
    in_session = refl;
  };
  tempo = (le_z_yes tt, le_z_yes tt);
  asked_beat = omega arith;
  asked_time = omega arith;
  own_beat = omega arith;
  known_beats = nil;
  offset = omega arith;
}

hears_at_1 : Hears sender_1 sent_1 receiver_1 7 here bytes_1 (at 5000) 4096
unfolding everything upkeep_elections packet_elections sender_1 receiver_1 asked_1 bytes_1 sent_1
hears_at_1 = record {
  takes = record {
    after = next receiver_1 (step receiver_1 (packet 7 here bytes_1 (at 5000) 4096));
    outputs = outputs (step receiver_1 (packet 7 here bytes_1 (at 5000) 4096));
    accepted = refl;
    enabled = refl;
    other_node = λ e. let f : ◌≡◌ {A = ℕ} 2 1 = ap (λ (n : NodeId). n.0) e in omega arith;
    our_session = refl;
    held = neighbour 1 here (line (pos 500_000) (pos 8_000_000) (pos 4000)) 4500 sampled_once 54_000 0;
    holds = refl;
    held_session = refl;
    sampled = cons≢nil;
    unlike = λ e. let f : ◌≡◌ {A = ℕ} 8_000_000 9_000_000 = ap beats e in omega arith;
    others = nil;
    own = lt_z_yes tt;
    elections = record { session = refl; offset = refl } ▸ nil;
  };
  offset = omega arith;
}

pub commits_1 : Commits (run (new (node 1)) sender_calls_1) asked_1 (at 3000) 4096 bytes_1 sent_1
commits_1 = rw sender_is_1 commits_at_1

pub hears_1 : Hears (run (new (node 1)) sender_calls_1) sent_1 (run (new (node 2)) receiver_calls_1) 7 here bytes_1 (at 5000) 4096
hears_1 = rw (sender_is_1, receiver_is_1) hears_at_1

-- node 2 after the alive
abbrev pub after_1 : Box
after_1 = run (new (node 2)) (receiver_calls_1 ++ (packet 7 here bytes_1 (at 5000) 4096 ∷ []))

-- the rule, of these lists
pub apart_1 : Near (run (new (node 1)) sender_calls_1) asked_1 (at 3000) after_1
apart_1 = distance (node 1) (node 2) sender_calls_1 receiver_calls_1 asked_1 (at 3000) (at 5000) 4096 4096 7 here bytes_1 sent_1 (omega arith) commits_1 hears_1

-- the asked tempo has come across
pub tempo_1 : after_1.state.timeline.tempo ≡ asked_1.timeline.tempo
unfolding asked_1
tempo_1 =
    tempo_reaches_exactly (node 1) (node 2) sender_calls_1 receiver_calls_1 asked_1 (at 3000) (at 5000) 4096 4096 7 here bytes_1 (rule_alive commits_1.sends) sent_1 (omega arith)
    (rule_writes commits_1.sends) (rule_takes ((reached (node 1) sender_calls_1).node (omega arith)) commits_1.sends hears_1.takes) (rule_newest commits_1.sends hears_1.takes) (record { sfits = omega arith })

-- ---- the ends of Link's range of tempos, between the boxes of 1

-- asked above the known beat origin, so that the line is not moved
abbrev asked_at : ℕ → SessionState
asked_at tempo = record { timeline = line (pos tempo) (pos 9_000_000) (pos 6000); start_stop = stopped (pos 0) }

abbrev sent_at : ℕ → Timeline
sent_at tempo = line (pos tempo) (pos 9_000_000) (pos 5000)

abbrev bytes_at : ℕ → List ℕ
bytes_at tempo = alive 1 here (sent_at tempo)

abbrev said_at : ℕ → AliveMsg
said_at tempo = record {
  node_id = node 1;
  timeline = Some (sent_at tempo);
  start_stop = Some (stopped (negsuc 999));
  session_id = Some (node 1);
  mep4 = Some here;
}

-- what is computed of a tempo: that the commit writes the packet, and that node 2 takes it
record Crosses (tempo : ℕ) : Type 0 where
  writes : Writes sender_1 (asked_at tempo) (at 3000) 4096 (bytes_at tempo)
  takes : TakesAlive receiver_1 7 here (bytes_at tempo) (at 5000) 4096 (said_at tempo)
  newest : Newest receiver_1 (said_at tempo) (sent_at tempo)

-- the tempo that node 2 holds then
abbrev tempo_held : ℕ → ℤ
tempo_held tempo = (run (new (node 2)) (receiver_calls_1 ++ (packet 7 here (bytes_at tempo) (at 5000) 4096 ∷ []))).state.timeline.tempo.0

reaches_at : (tempo : ℕ) → Crosses tempo
    → (pos tempo ≡ from_tempo (of_int binary64 (pos 20)) → tempo_held tempo ≡ pos 3_000_000) × (pos tempo ≡ from_tempo (of_int binary64 (pos 999)) → tempo_held tempo ≡ pos 60_060)
reaches_at tempo c =
    slowest_and_fastest_reach (node 1) (node 2) sender_calls_1 receiver_calls_1 (asked_at tempo) (at 3000) (at 5000) 4096 4096 7 here (bytes_at tempo) (said_at tempo) (sent_at tempo) (omega arith)
    (rw sender_is_1 c.writes) (rw receiver_is_1 c.takes) (rw receiver_is_1 c.newest)

crosses_slow : Crosses 3_000_000
unfolding everything upkeep_elections packet_elections sender_1 receiver_1
crosses_slow = record {
  writes = record { after = _; outputs = _; accepted = refl; interface = 7; to = multicast; written = Memᴰ.tail (Memᴰ.head refl) };
  takes = record { after = _; outputs = _; accepted = refl; reads = refl; our_session = refl; held = _; holds = refl; held_session = refl; sampled = cons≢nil; is_news = refl; elections = record { session = refl; offset = refl } ▸ nil };
  newest = record { tells = refl; others = nil; own = lt_z_yes tt };
}

crosses_fast : Crosses 60_060
unfolding everything upkeep_elections packet_elections sender_1 receiver_1
crosses_fast = record {
  writes = record { after = _; outputs = _; accepted = refl; interface = 7; to = multicast; written = Memᴰ.tail (Memᴰ.head refl) };
  takes = record { after = _; outputs = _; accepted = refl; reads = refl; our_session = refl; held = _; holds = refl; held_session = refl; sampled = cons≢nil; is_news = refl; elections = record { session = refl; offset = refl } ▸ nil };
  newest = record { tells = refl; others = nil; own = lt_z_yes tt };
}

-- 20 and 999 beats a minute have come across
pub slowest_and_fastest_met : (tempo_held 3_000_000 ≡ pos 3_000_000) × (tempo_held 60_060 ≡ pos 60_060)
slowest_and_fastest_met = ((reaches_at 3_000_000 crosses_slow).0 (sym from_tempo_20), (reaches_at 60_060 crosses_fast).1 (sym from_tempo_999))

-- ---- the bound is sharp

after_is_1 : after_1 ≡ hears_at_1.takes.after
after_is_1 = run_then (new (node 2)) receiver_calls_1 (packet 7 here bytes_1 (at 5000) 4096) hears_at_1.takes.after hears_at_1.takes.outputs (rw receiver_is_1 hears_at_1.takes.accepted)

sharp_at : (beat : ℤ) → nat_abs (stands asked_1.timeline sender_1.session_offset beat -ℤ stands hears_at_1.takes.after.state.timeline hears_at_1.takes.after.session_offset beat) ≡ 999_999
unfolding everything stands sender_1 receiver_1 asked_1 bytes_1 hears_at_1
sharp_at beat = ap nat_abs (regroup (pos 1_000_001) (pos 999_999) (pos 999_999) (pos 6000) (negsuc 999) beat (pos 7_999_999))

pub sharp : (beat : ℤ) → nat_abs (stands asked_1.timeline (run (new (node 1)) sender_calls_1).session_offset beat -ℤ stands after_1.state.timeline after_1.session_offset beat) ≡ 999_999
sharp beat = rw (sender_is_1, after_is_1) (sharp_at beat)

-- ---- the preview: the line that is held then, where the asked one is 999,999 away

pub shown_1 : SessionState
shown_1 = record { timeline = line (pos 999_999) (pos 9_000_000) (pos 1_005_999); start_stop = stopped (pos 0) }

shows_at_1 : preview sender_1 asked_1 (at 3000) ≡ given shown_1 (pos 1_000_001)
unfolding everything sender_1 asked_1 shown_1
shows_at_1 = refl

pub shows_1 : preview (run (new (node 1)) sender_calls_1) asked_1 (at 3000) ≡ given shown_1 (pos 1_000_001)
shows_1 = rw sender_is_1 shows_at_1

no_distance : (x y : ℤ) → x ≡ y → nat_abs (x -ℤ y) ≡ 0
no_distance x y e = ap (λ (z : ℤ). nat_abs (z -ℤ y)) e ∙ ap nat_abs (+ℤ_invr y)

pub shown_exactly_1 : (beat : ℤ) → nat_abs (stands shown_1.timeline (run (new (node 1)) sender_calls_1).session_offset beat -ℤ stands after_1.state.timeline after_1.session_offset beat) ≡ 0
shown_exactly_1 beat =
    no_distance _ _
    (distance_exactly (node 1) (node 2) sender_calls_1 receiver_calls_1 asked_1 (at 3000) (at 5000) 4096 4096 7 here bytes_1 sent_1 (omega arith) commits_1 hears_1 shown_1 (pos 1_000_001) shows_1 beat)

-- at the receiver's offset it would be 500 microseconds away
other_offset_at : (beat : ℤ)
    → nat_abs (stands shown_1.timeline hears_at_1.takes.after.session_offset beat -ℤ stands hears_at_1.takes.after.state.timeline hears_at_1.takes.after.session_offset beat) ≡ 500_000_000
unfolding everything stands sender_1 receiver_1 asked_1 bytes_1 shown_1 hears_at_1
other_offset_at beat = ap nat_abs (regroup (pos 0) (pos 999_999) (pos 500) (pos 1_005_999) (negsuc 1499) beat (pos 9_000_000))

pub other_offset_1 : (beat : ℤ) → nat_abs (stands shown_1.timeline after_1.session_offset beat -ℤ stands after_1.state.timeline after_1.session_offset beat) ≡ 500_000_000
other_offset_1 beat = rw after_is_1 (other_offset_at beat)

-- ---- 2: node 3 is known to both, with the beat origin 2,000,000

pub sender_calls_2 : List Call
sender_calls_2 =
    interface_added 7 here
    ∷ switch true (at 1000) 4096
    ∷ packet 7 third (alive 3 third (line (pos 500_000) (pos 2_000_000) (pos 0))) (at 1500) 4096
    ∷ []

-- it hears nothing for seven seconds
pub receiver_calls_2 : List Call
receiver_calls_2 =
    interface_added 7 there
    ∷ switch true (at 2000) 4096
    ∷ packet 7 here (alive 1 here (line (pos 500_000) (pos 0) (pos 0))) (at 3000) 4096
    ∷ packet 7 here pong (at 4000) 4096
    ∷ packet 7 third (alive 3 third (line (pos 500_000) (pos 2_000_000) (pos 0))) (at 4500) 4096
    ∷ []

sender_2 : Box
sender_2 = record {
  node_id = node 1;
  enabled = true;
  session_id = node 1;
  session_offset = negsuc 999;
  state = record { timeline = line (pos 500_000) (pos 0) (pos 1000); start_stop = stopped (pos 0) };
  interfaces = interface here;
  peers = neighbour 3 third (line (pos 500_000) (pos 2_000_000) (pos 0)) 1500 no_samples 51_500 1 ∷ [];
  num_session_peers = 1;
  next_broadcast = at 251_000;
}

receiver_2 : Box
receiver_2 = record {
  node_id = node 2;
  enabled = true;
  session_id = node 1;
  session_offset = negsuc 1499;
  state = record { timeline = line (pos 500_000) (pos 0) (pos 1500); start_stop = stopped (pos 500) };
  interfaces = interface there;
  peers =
      neighbour 1 here (line (pos 500_000) (pos 0) (pos 0)) 3000 sampled_once 54_000 0
      ∷ neighbour 3 third (line (pos 500_000) (pos 2_000_000) (pos 0)) 4500 no_samples 54_500 1
      ∷ [];
  num_session_peers = 2;
  next_broadcast = at 254_000;
}

sender_is_2 : run (new (node 1)) sender_calls_2 ≡ sender_2
unfolding everything sender_calls_2 sender_2
sender_is_2 = refl

receiver_is_2 : run (new (node 2)) receiver_calls_2 ≡ receiver_2
unfolding everything receiver_calls_2 receiver_2
receiver_is_2 = refl

pub asked_2 : SessionState
asked_2 = record { timeline = line (pos 400_000) (pos 0) (pos 5000); start_stop = stopped (pos 0) }

pub bytes_2 : List ℕ
bytes_2 = our_alive (committed sender_2 asked_2 (at 2000)) (Some here) false

pub sent_2 : Timeline
sent_2 = line (pos 400_000) (pos 3_000_000) (pos 1_204_000)

commits_at_2 : Commits sender_2 asked_2 (at 2000) 4096 bytes_2 sent_2
unfolding everything sender_2 asked_2 bytes_2 sent_2
commits_at_2 = record {
  sends = record {
    after = next sender_2 (step sender_2 (commit asked_2 (at 2000) 4096));
    outputs = outputs (step sender_2 (commit asked_2 (at 2000) 4096));
    accepted = refl;
    changes = λ e. let f : ◌≡◌ {A = ℕ} 400_000 500_000 = ap (λ (l : Timeline). nat_abs l.tempo.0) e in omega arith;
    interface = 7;
    to = multicast;
    written = Memᴰ.tail (Memᴰ.head refl);
    node = node 1;
    start_stop = Some (stopped (negsuc 999));
    mep4 = Some here;
    session = node 1;
    reads = refl;
    in_session = refl;
  };
  tempo = (le_z_yes tt, le_z_yes tt);
  asked_beat = omega arith;
  asked_time = omega arith;
  own_beat = omega arith;
  known_beats = (let h : 2_000_000 ≤ 1_000_000_000_000_000 = omega arith in h ▸ nil);
  offset = omega arith;
}

hears_at_2 : Hears sender_2 sent_2 receiver_2 7 here bytes_2 (at 7_000_000) 4096
unfolding everything upkeep_elections packet_elections sender_2 receiver_2 asked_2 bytes_2 sent_2
hears_at_2 = record {
  takes = record {
    after = next receiver_2 (step receiver_2 (packet 7 here bytes_2 (at 7_000_000) 4096));
    outputs = outputs (step receiver_2 (packet 7 here bytes_2 (at 7_000_000) 4096));
    accepted = refl;
    enabled = refl;
    other_node = λ e. let f : ◌≡◌ {A = ℕ} 2 1 = ap (λ (n : NodeId). n.0) e in omega arith;
    our_session = refl;
    held = neighbour 1 here (line (pos 500_000) (pos 0) (pos 0)) 3000 sampled_once 54_000 0;
    holds = refl;
    held_session = refl;
    sampled = cons≢nil;
    unlike = λ e. let f : ◌≡◌ {A = ℕ} 0 3_000_000 = ap beats e in omega arith;
    others = lt_z_yes tt ▸ nil;
    own = lt_z_yes tt;
    elections = record { session = refl; offset = refl } ▸ record { session = refl; offset = refl } ▸ nil;
  };
  offset = omega arith;
}

pub commits_2 : Commits (run (new (node 1)) sender_calls_2) asked_2 (at 2000) 4096 bytes_2 sent_2
commits_2 = rw sender_is_2 commits_at_2

pub hears_2 : Hears (run (new (node 1)) sender_calls_2) sent_2 (run (new (node 2)) receiver_calls_2) 7 here bytes_2 (at 7_000_000) 4096
hears_2 = rw (sender_is_2, receiver_is_2) hears_at_2

abbrev pub after_2 : Box
after_2 = run (new (node 2)) (receiver_calls_2 ++ (packet 7 here bytes_2 (at 7_000_000) 4096 ∷ []))

pub apart_2 : Near (run (new (node 1)) sender_calls_2) asked_2 (at 2000) after_2
apart_2 = distance (node 1) (node 2) sender_calls_2 receiver_calls_2 asked_2 (at 2000) (at 7_000_000) 4096 4096 7 here bytes_2 sent_2 (omega arith) commits_2 hears_2

-- the preview: above the known 2,000,000
pub shown_2 : SessionState
shown_2 = record { timeline = line (pos 400_000) (pos 3_000_000) (pos 1_205_000); start_stop = stopped (pos 0) }

shows_at_2 : preview sender_2 asked_2 (at 2000) ≡ given shown_2 (pos 3_000_000)
unfolding everything sender_2 asked_2 shown_2
shows_at_2 = refl

pub shows_2 : preview (run (new (node 1)) sender_calls_2) asked_2 (at 2000) ≡ given shown_2 (pos 3_000_000)
shows_2 = rw sender_is_2 shows_at_2

pub shown_exactly_2 : (beat : ℤ) → nat_abs (stands shown_2.timeline (run (new (node 1)) sender_calls_2).session_offset beat -ℤ stands after_2.state.timeline after_2.session_offset beat) ≡ 0
shown_exactly_2 beat =
    no_distance _ _
    (distance_exactly (node 1) (node 2) sender_calls_2 receiver_calls_2 asked_2 (at 2000) (at 7_000_000) 4096 4096 7 here bytes_2 sent_2 (omega arith) commits_2 hears_2 shown_2 (pos 3_000_000) shows_2 beat)

-- one election on the alive, one as node 3 goes
elections_at : length (packet_elections receiver_2 7 here bytes_2 (at 7_000_000)) ≡ 2
unfolding everything upkeep_elections packet_elections sender_2 receiver_2 asked_2 bytes_2
elections_at = refl

pub two_elections : length (packet_elections (run (new (node 2)) receiver_calls_2) 7 here bytes_2 (at 7_000_000)) ≡ 2
two_elections = rw receiver_is_2 elections_at
