-- The distance rule of a third pair of lists of calls that meet every premise. The sender has two interfaces, and the packet leaves by the second. Both lists
-- have a call that is refused, an interface that goes by an i/o error, and switching on, off and on, after which a box has the next id.
use Rattle.std.specs.Prelude.{ℕ, ◌^◌, ◌<◌, ◌≡◌, refl, Bool, true, false, pos, negsuc, nat_abs, Some}
use Rattle.std.proofs.Common.{arith, ap}
use mathlib.Core.List.{List, [], ◌∷◌, ◌++◌, map, Memᴰ, cons≢nil}
use Rattle.std.specs.Int.Signed.{le_z_yes, lt_z_yes}
use Rattle.timeline.specs.declared.Timeline.{Timeline}
use Rattle.timeline.specs.declared.SessionState.{SessionState}
use Rattle.wire.specs.declared.NodeId.{NodeId}
use Rattle.wire.specs.declared.SocketAddrPlain.{SocketAddrPlain}
use Rattle.wire.specs.Layout.{keys, int_bytes, entry, alive_bytes, pong_bytes}
use Rattle.model.specs.Peers.{Peer, Interface}
use Rattle.model.specs.Engine.{Box, new, multicast, our_alive}
use Rattle.model.specs.Calls.{send_failed, open_unicast_failed, Call, packet, tick, commit, switch, interface_added, io_error, outcome_number, committed, step, next, run, outcomes}
use Rattle.model.specs.Preview.{given, preview}
use Rattle.model.specs.Laws.Tools.Open.{everything}
use Rattle.lists.specs.Laws.Each.{Each, nil, ◌▸◌}
use Rattle.model.specs.Laws.Calls.Fits.{CallFits, tick_fits, switch_fits, added_fits, error_fits}
use Rattle.model.specs.Laws.Distance.Statement.{upkeep_elections, packet_elections, Sends, Commits, Hears, Near}
use Rattle.model.proofs.Laws.Distance.Rule.{distance}
use Rattle.model.specs.Laws.Distance.EveryInterface.{alive_on, line_sent}
use Rattle.model.proofs.Laws.Distance.EveryInterface.{commit_sends}
use Rattle.model.proofs.Laws.Distance.Witness.{node, at, line, stopped, here, there, third, outputs, beats}

-- 192.168.1.1, port 20808: the sender's second interface
abbrev pub beside : SocketAddrPlain
beside = record { ip = 0xc0a8_0101; port = 20808 }

-- ---- the calls

-- it ends as node 2; the tick has too short a buffer
unfoldable pub sender_calls_3 : List Call
sender_calls_3 =
    interface_added 7 here
    ∷ interface_added 8 third
    ∷ switch true (at 500) 4096
    ∷ io_error 8 send_failed
    ∷ interface_added 9 beside
    ∷ tick (at 600) 4095
    ∷ switch false (at 700) 4096
    ∷ switch true (at 1000) 4096
    ∷ []

-- what node 2 has told since it is on again
abbrev told_line : Timeline
told_line = line (pos 500_000) (pos 0) (negsuc 499)

abbrev told : List ℕ
told = alive_bytes (node 2) (node 2) told_line (stopped (negsuc 999)) (Some beside) false

-- its pong at the shared time 2,000, on a ping of the time 3,000
abbrev pong : List ℕ
pong = pong_bytes (node 2) (at 2000) (entry keys.ht (int_bytes (pos 3000)))

-- the receiver ends as node 5, in node 2's session; the first pong comes with too short a buffer
unfoldable pub receiver_calls_3 : List Call
receiver_calls_3 =
    interface_added 7 there
    ∷ switch true (at 1000) 4096
    ∷ switch false (at 1500) 4096
    ∷ switch true (at 2000) 4096
    ∷ interface_added 3 third
    ∷ io_error 3 open_unicast_failed
    ∷ packet 7 beside told (at 3000) 4096
    ∷ packet 7 beside pong (at 3500) 100
    ∷ packet 7 beside pong (at 4000) 4096
    ∷ []

-- ---- the boxes

pub sender_3 : Box
sender_3 = record {
  node_id = node 2;
  enabled = true;
  session_id = node 2;
  session_offset = negsuc 999;
  state = record { timeline = line (pos 500_000) (pos 0) (pos 500); start_stop = stopped (pos 0) };
  interfaces = record { id = 7; addr = here } ∷ record { id = 9; addr = beside } ∷ [];
  peers = [];
  num_session_peers = 0;
  next_broadcast = at 251_000;
}

abbrev node_2_held : Peer
node_2_held = record {
  id = node 2;
  session_id = Some (node 2);
  timeline_ghost = Some told_line;
  start_stop_ghost = Some (stopped (negsuc 999));
  last_seen = at 3000;
  addr = beside;
  samples = record { offsets = negsuc 1499 ∷ []; ping_times = at 3000 ∷ [] };
  next_ping_time = at 54_000;
  ping_timeouts = 0;
  measuring = true;
}

receiver_3 : Box
receiver_3 = record {
  node_id = node 5;
  enabled = true;
  session_id = node 2;
  session_offset = negsuc 1499;
  state = record { timeline = line (pos 500_000) (pos 0) (pos 1000); start_stop = stopped (pos 500) };
  interfaces = record { id = 7; addr = there } ∷ [];
  peers = node_2_held ∷ [];
  num_session_peers = 1;
  next_broadcast = at 254_000;
}

sender_is_3 : run (new (node 1)) sender_calls_3 ≡ sender_3
unfolding everything sender_calls_3 sender_3
sender_is_3 = refl

receiver_is_3 : run (new (node 4)) receiver_calls_3 ≡ receiver_3
unfolding everything receiver_calls_3 receiver_3
receiver_is_3 = refl

-- one call of each list is turned down
pub sender_numbers_3 : map outcome_number (outcomes (new (node 1)) sender_calls_3) ≡ 0 ∷ 0 ∷ 0 ∷ 0 ∷ 0 ∷ 2 ∷ 0 ∷ 0 ∷ []
unfolding everything sender_calls_3
sender_numbers_3 = refl

pub receiver_numbers_3 : map outcome_number (outcomes (new (node 4)) receiver_calls_3) ≡ 0 ∷ 0 ∷ 0 ∷ 0 ∷ 0 ∷ 0 ∷ 0 ∷ 2 ∷ 0 ∷ []
unfolding everything receiver_calls_3
receiver_numbers_3 = refl

-- ---- the commit, and the packet that leaves by the second interface

pub asked_3 : SessionState
asked_3 = record { timeline = line (pos 600_000) (pos 0) (pos 2500); start_stop = stopped (pos 0) }

unfoldable pub bytes_3 : List ℕ
bytes_3 = our_alive (committed sender_3 asked_3 (at 3000)) (Some beside) false

pub sent_3 : Timeline
sent_3 = line (pos 600_000) (pos 1_000_000) (pos 601_500)

commits_at_3 : Commits sender_3 asked_3 (at 3000) 4096 bytes_3 sent_3
unfolding everything sender_3 asked_3 bytes_3 sent_3
commits_at_3 = record {
  sends = record {
    after = next sender_3 (step sender_3 (commit asked_3 (at 3000) 4096));
    outputs = outputs (step sender_3 (commit asked_3 (at 3000) 4096));
    accepted = refl;
    changes = λ e. let f : ◌≡◌ {A = ℕ} 600_000 500_000 = ap (λ (l : Timeline). nat_abs l.tempo.0) e in omega arith;
    interface = 9;
    to = multicast;
    written = mathlib.Core.List.Memᴰ.tail (mathlib.Core.List.Memᴰ.tail (mathlib.Core.List.Memᴰ.head refl));
    node = node 2;
    start_stop = Some (stopped (negsuc 999));
    mep4 = Some beside;
    session = node 2;
    reads = refl;
    in_session = refl;
  };
  tempo = (le_z_yes tt, le_z_yes tt);
  asked_beat = omega arith;
  asked_time = omega arith;
  own_beat = omega arith;
  known_beats = nil;
  offset = omega arith;
}

hears_at_3 : Hears sender_3 sent_3 receiver_3 7 beside bytes_3 (at 5000) 4096
unfolding everything upkeep_elections packet_elections sender_3 receiver_3 asked_3 bytes_3 sent_3
hears_at_3 = record {
  takes = record {
    after = next receiver_3 (step receiver_3 (packet 7 beside bytes_3 (at 5000) 4096));
    outputs = outputs (step receiver_3 (packet 7 beside bytes_3 (at 5000) 4096));
    accepted = refl;
    enabled = refl;
    other_node = λ e. let f : ◌≡◌ {A = ℕ} 5 2 = ap (λ (n : NodeId). n.0) e in omega arith;
    our_session = refl;
    held = node_2_held;
    holds = refl;
    held_session = refl;
    sampled = cons≢nil;
    unlike = λ e. let f : ◌≡◌ {A = ℕ} 0 1_000_000 = ap beats e in omega arith;
    others = nil;
    own = lt_z_yes tt;
    elections = record { session = refl; offset = refl } ▸ nil;
  };
  offset = omega arith;
}

pub commits_3 : Commits (run (new (node 1)) sender_calls_3) asked_3 (at 3000) 4096 bytes_3 sent_3
commits_3 = rw sender_is_3 commits_at_3

pub hears_3 : Hears (run (new (node 1)) sender_calls_3) sent_3 (run (new (node 4)) receiver_calls_3) 7 beside bytes_3 (at 5000) 4096
hears_3 = rw (sender_is_3, receiver_is_3) hears_at_3

-- ---- the rule, of these lists

abbrev pub after_3 : Box
after_3 = run (new (node 4)) (receiver_calls_3 ++ (packet 7 beside bytes_3 (at 5000) 4096 ∷ []))

pub apart_3 : Near (run (new (node 1)) sender_calls_3) asked_3 (at 3000) after_3
apart_3 = distance (node 1) (node 4) sender_calls_3 receiver_calls_3 asked_3 (at 3000) (at 5000) 4096 4096 7 beside bytes_3 sent_3 (omega arith) commits_3 hears_3

pub shown_3 : SessionState
shown_3 = record { timeline = line (pos 600_000) (pos 1_000_000) (pos 602_500); start_stop = stopped (pos 0) }

shows_at_3 : preview sender_3 asked_3 (at 3000) ≡ given shown_3 (pos 1_000_000)
unfolding everything sender_3 asked_3 shown_3
shows_at_3 = refl

pub shows_3 : preview (run (new (node 1)) sender_calls_3) asked_3 (at 3000) ≡ given shown_3 (pos 1_000_000)
shows_3 = rw sender_is_3 shows_at_3

-- ---- the packet is there by `commit_sends` too: the arguments of the sender's calls fit their types

added : (i : ℕ) (addr : SocketAddrPlain) → i < 2 ^ 32 → addr.ip < 2 ^ 32 → addr.port < 2 ^ 16 → CallFits (interface_added i addr)
added i addr h ip port = added_fits h (record { ip = ip; port = port })

switched : (on : Bool) (t buf_size : ℕ) → t < 2 ^ 63 → buf_size < 2 ^ 64 → CallFits (switch on (at t) buf_size)
switched on t buf_size f h = switch_fits (record { sfits = f }) h

ticked : (t buf_size : ℕ) → t < 2 ^ 63 → buf_size < 2 ^ 64 → CallFits (tick (at t) buf_size)
ticked t buf_size f h = tick_fits (record { sfits = f }) h

failed : (i : ℕ) → i < 2 ^ 32 → CallFits (io_error i send_failed)
failed i h = error_fits h

sender_fits_3 : Each CallFits sender_calls_3
unfolding sender_calls_3
sender_fits_3 =
    added 7 here (omega arith) (omega arith) (omega arith)
    ▸ added 8 third (omega arith) (omega arith) (omega arith)
    ▸ switched true 500 4096 (omega arith) (omega arith)
    ▸ failed 8 (omega arith)
    ▸ added 9 beside (omega arith) (omega arith) (omega arith)
    ▸ ticked 600 4095 (omega arith) (omega arith)
    ▸ switched false 700 4096 (omega arith) (omega arith)
    ▸ switched true 1000 4096 (omega arith) (omega arith)
    ▸ nil

-- the second interface
abbrev pub ninth : Interface
ninth = record { id = 9; addr = beside }

on_at_3 : sender_3.enabled ≡ true
unfolding sender_3
on_at_3 = refl

ninth_at_3 : Memᴰ ninth sender_3.interfaces
unfolding sender_3
ninth_at_3 = mathlib.Core.List.Memᴰ.tail (mathlib.Core.List.Memᴰ.head refl)

pub commit_sends_3 : let e = run (new (node 1)) sender_calls_3 in
    (c : Sends e asked_3 (at 3000) 4096 (alive_on e asked_3 (at 3000) ninth) (line_sent e asked_3)) × (c.interface ≡ 9) × (c.to ≡ multicast)
commit_sends_3 =
    let on : (run (new (node 1)) sender_calls_3).enabled ≡ true = rw sender_is_3 on_at_3 in
    let holds : Memᴰ ninth (run (new (node 1)) sender_calls_3).interfaces = rw sender_is_3 ninth_at_3 in
    let c = commits_3.sends in
    commit_sends (node 1) sender_calls_3 (omega arith) sender_fits_3 asked_3 (at 3000) 4096 c.after c.outputs c.accepted on c.changes ninth holds
