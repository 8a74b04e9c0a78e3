-- A start and then a stop that come across, between two boxes with an interface each: lists of calls that meet every premise of `start_stop_reaches`, and
-- what it comes to.
use Rattle.std.specs.Prelude.{ℕ, ◌≡◌, refl, true, false, cond, pos, negsuc, Option, Some, None}
use Rattle.std.proofs.Common.{arith, ap, ◌∙◌}
use mathlib.Core.List.Memᴰ
use mathlib.Core.List.{List, [], ◌∷◌, ◌++◌, cons≢nil}
use Rattle.std.specs.Int.Signed.{lt_z_yes}
use Rattle.timeline.specs.declared.Timeline.{Timeline}
use Rattle.timeline.specs.declared.StartStopState.{StartStopState}
use Rattle.timeline.specs.declared.SessionState.{SessionState}
use Rattle.wire.specs.Layout.{alive_bytes}
use Rattle.model.specs.Peers.{no_samples}
use Rattle.model.specs.Engine.{Box, multicast, new}
use Rattle.model.specs.Calls.{Call, commit, interface_added, done, outputs_of, step, committed}
use Rattle.model.specs.Laws.Tools.Open.{everything}
use Rattle.lists.specs.Laws.Each.{nil, ◌▸◌}
use Rattle.model.specs.Laws.Tools.Scenes.{at, node, port, line, unlike, start_stop, state, on_at, announces, in_session, with_start_stop, pong, hears_at, node_led}
use Rattle.model.specs.Laws.Distance.Statement.{upkeep_elections, packet_elections}
use Rattle.model.proofs.Laws.Distance.Rule.{run_then}
use Rattle.model.specs.Laws.Link.Sessions.{shared_start_stop}
use Rattle.model.specs.Laws.Link.StartStop.{SendsStartStop, TakesStartStop}
use Rattle.model.proofs.Laws.Link.StartStop.{start_stop_reaches_exactly, playing_reaches}

-- what node 1 asks: a start-stop state on the line that it has
abbrev asked : StartStopState → SessionState
asked s = state (line (pos 500_000) (pos 0) (pos 1000)) s

-- that line in shared time, which is 1,000 behind its host time, and its alive with a start-stop state
abbrev shared_line : Timeline
shared_line = line (pos 500_000) (pos 0) (pos 0)

abbrev tells : StartStopState → List ℕ
tells s = alive_bytes (node 1) (node 1) shared_line s (Some (port 1)) false

-- what node 3 tells
abbrev older : StartStopState
older = start_stop false (pos 0) (pos 3000)

-- Node 2 in node 1's session, whose shared time is 1,500 behind node 2's host time: by the start-stop state that it holds, what node 1 has told, when it did
-- so last, and the next broadcast.
abbrev node_2 : StartStopState → Option Timeline → Option StartStopState → ℕ → ℕ → Box
node_2 held told_Line told_start_stop seen broadcast = record {
  node_id = node 2;
  enabled = true;
  session_id = node 1;
  session_offset = negsuc 1499;
  state = state (line (pos 500_000) (pos 0) (pos 2000)) held;
  interfaces = record { id = 0; addr = port 2 } ∷ [];
  peers =
      record {
        id = node 1;
        session_id = Some (node 1);
        timeline_ghost = told_Line;
        start_stop_ghost = told_start_stop;
        last_seen = at (pos seen);
        addr = port 1;
        samples = record { offsets = negsuc 1499 ∷ []; ping_times = at (pos 0) ∷ [] };
        next_ping_time = at (pos 54_000);
        ping_timeouts = 0;
        measuring = true;
      }
      ∷ record {
        id = node 3;
        session_id = Some (node 1);
        timeline_ghost = None;
        start_stop_ghost = Some older;
        last_seen = at (pos 4500);
        addr = port 3;
        samples = no_samples;
        next_ping_time = at (pos 54_500);
        ping_timeouts = 1;
        measuring = true;
      }
      ∷ [];
  num_session_peers = 2;
  next_broadcast = at (pos broadcast);
}

-- a number for each kind of start-stop state that is told
abbrev kind_told : Option StartStopState → ℕ
kind_told None = 0
kind_told (Some s) = cond s.is_playing 1 2

-- ---- a start

abbrev sender_calls : List Call
sender_calls = interface_added 0 (port 1) ∷ on_at 1000 ∷ []

-- node 2 hears of node 1, gets a pong from it, comes into its session, and hears node 3
abbrev receiver_calls : List Call
receiver_calls =
    interface_added 0 (port 2)
    ∷ on_at 2000
    ∷ hears_at 1 (announces 1 (in_session 1)) 3000
    ∷ hears_at 1 (pong 1 (pos 500) (pos 0)) 4000
    ∷ hears_at 3 (announces 3 (in_session 1 ++ with_start_stop older)) 4500
    ∷ []

waiting : Box
waiting = node_2 (start_stop false (pos 0) (pos 0)) None None 3000 254_000

waiting_is : node_led 2 receiver_calls ≡ waiting
unfolding everything waiting
waiting_is = refl

-- asked at 5,000 in node 1's host time
abbrev start_asked : SessionState
start_asked = asked (start_stop true (pos 0) (pos 5000))

abbrev start_sent : StartStopState
start_sent = start_stop true (pos 0) (pos 4000)

-- node 2 after the alive
started : Box
started = node_2 (start_stop true (pos 0) (pos 5500)) (Some shared_line) (Some start_sent) 6000 256_000

start_taken : step waiting (hears_at 1 (tells start_sent) 6000) ≡ done started (outputs_of (step waiting (hears_at 1 (tells start_sent) 6000)))
unfolding everything waiting started
start_taken = refl

sends_start : SendsStartStop (node_led 1 sender_calls) start_asked (at (pos 5000)) 4096 (tells start_sent) start_sent
unfolding everything
sends_start = record {
  after = _;
  outputs = _;
  accepted = refl;
  interface = 0;
  to = multicast;
  written = Memᴰ.tail (Memᴰ.head refl);
  node = node 1;
  line = Some shared_line;
  mep4 = Some (port 1);
  reads = refl;
}

takes_start_at : TakesStartStop (node_led 1 sender_calls) start_sent waiting 0 (port 1) (tells start_sent) (at (pos 6000)) 4096
unfolding everything upkeep_elections packet_elections waiting
takes_start_at = record {
  after = started;
  outputs = _;
  accepted = start_taken;
  our_session = refl;
  held = _;
  holds = refl;
  held_session = refl;
  sampled = cons≢nil;
  unlike = unlike kind_told refl;
  others = lt_z_yes tt ▸ nil;
  own = lt_z_yes tt;
  elections = record { session = refl; offset = refl } ▸ nil;
}

takes_start : TakesStartStop (node_led 1 sender_calls) start_sent (node_led 2 receiver_calls) 0 (port 1) (tells start_sent) (at (pos 6000)) 4096
takes_start = rw waiting_is takes_start_at

abbrev started_calls : List Call
started_calls = receiver_calls ++ (hears_at 1 (tells start_sent) 6000 ∷ [])

pub start_reaches_met : shared_start_stop (node_led 2 started_calls) ≡ shared_start_stop (committed (node_led 1 sender_calls) start_asked (at (pos 5000)))
start_reaches_met =
    start_stop_reaches_exactly (node 1) (node 2) sender_calls receiver_calls start_asked (at (pos 5000)) (at (pos 6000)) 4096 4096 0 (port 1) (tells start_sent) start_sent (omega arith)
    sends_start takes_start (record { sfits = omega arith })

started_is : node_led 2 started_calls ≡ started
started_is = run_then (new (node 2)) receiver_calls (hears_at 1 (tells start_sent) 6000) started _ (ap (λ (e : Box). step e (hears_at 1 (tells start_sent) 6000)) waiting_is ∙ start_taken)

started_at : (shared_start_stop started ≡ start_sent) × (started.state.start_stop ≡ start_stop true (pos 0) (pos 5500))
unfolding everything started
started_at = (refl, refl)

-- It plays since 4,000 in shared time, which is 5,500 in node 2's host time.
pub start_comes_to : (shared_start_stop (node_led 2 started_calls) ≡ start_sent) × ((node_led 2 started_calls).state.start_stop ≡ start_stop true (pos 0) (pos 5500))
start_comes_to = rw started_is started_at

-- ---- a stop

abbrev playing_calls : List Call
playing_calls = sender_calls ++ (commit start_asked (at (pos 5000)) 4096 ∷ [])

-- node 1 after its start
playing : Box
playing = record {
  node_id = node 1;
  enabled = true;
  session_id = node 1;
  session_offset = negsuc 999;
  state = start_asked;
  interfaces = record { id = 0; addr = port 1 } ∷ [];
  peers = [];
  num_session_peers = 0;
  next_broadcast = at (pos 255_000);
}

playing_is : node_led 1 playing_calls ≡ playing
unfolding everything playing
playing_is = refl

-- asked at 4,500, before the start: it is taken 1 after that
abbrev stop_asked : SessionState
stop_asked = asked (start_stop false (pos 0) (pos 4500))

abbrev stop_sent : StartStopState
stop_sent = start_stop false (pos 0) (pos 4001)

-- node 2 after the second alive
stopped : Box
stopped = node_2 (start_stop false (pos 0) (pos 5501)) (Some shared_line) (Some stop_sent) 8000 258_000

stop_taken : step started (hears_at 1 (tells stop_sent) 8000) ≡ done stopped (outputs_of (step started (hears_at 1 (tells stop_sent) 8000)))
unfolding everything started stopped
stop_taken = refl

sends_stop_at : SendsStartStop playing stop_asked (at (pos 7000)) 4096 (tells stop_sent) stop_sent
unfolding everything playing
sends_stop_at = record {
  after = _;
  outputs = _;
  accepted = refl;
  interface = 0;
  to = multicast;
  written = Memᴰ.tail (Memᴰ.head refl);
  node = node 1;
  line = Some shared_line;
  mep4 = Some (port 1);
  reads = refl;
}

takes_stop_at : TakesStartStop playing stop_sent started 0 (port 1) (tells stop_sent) (at (pos 8000)) 4096
unfolding everything upkeep_elections packet_elections playing started
takes_stop_at = record {
  after = stopped;
  outputs = _;
  accepted = stop_taken;
  our_session = refl;
  held = _;
  holds = refl;
  held_session = refl;
  sampled = cons≢nil;
  unlike = unlike kind_told refl;
  others = lt_z_yes tt ▸ nil;
  own = lt_z_yes tt;
  elections = record { session = refl; offset = refl } ▸ nil;
}

sends_stop : SendsStartStop (node_led 1 playing_calls) stop_asked (at (pos 7000)) 4096 (tells stop_sent) stop_sent
sends_stop = rw playing_is sends_stop_at

takes_stop : TakesStartStop (node_led 1 playing_calls) stop_sent (node_led 2 started_calls) 0 (port 1) (tells stop_sent) (at (pos 8000)) 4096
takes_stop = rw (playing_is, started_is) takes_stop_at

abbrev stopped_calls : List Call
stopped_calls = started_calls ++ (hears_at 1 (tells stop_sent) 8000 ∷ [])

pub stop_reaches_met : shared_start_stop (node_led 2 stopped_calls) ≡ shared_start_stop (committed (node_led 1 playing_calls) stop_asked (at (pos 7000)))
stop_reaches_met =
    start_stop_reaches_exactly (node 1) (node 2) playing_calls started_calls stop_asked (at (pos 7000)) (at (pos 8000)) 4096 4096 0 (port 1) (tells stop_sent) stop_sent (omega arith)
    sends_stop takes_stop (record { sfits = omega arith })

pub playing_reaches_met : (node_led 2 stopped_calls).state.start_stop.is_playing ≡ false
playing_reaches_met =
    playing_reaches (node 1) (node 2) playing_calls started_calls stop_asked (at (pos 7000)) (at (pos 8000)) 4096 4096 0 (port 1) (tells stop_sent) stop_sent (omega arith) sends_stop takes_stop

stopped_is : node_led 2 stopped_calls ≡ stopped
stopped_is = run_then (new (node 2)) started_calls (hears_at 1 (tells stop_sent) 8000) stopped _ (ap (λ (e : Box). step e (hears_at 1 (tells stop_sent) 8000)) started_is ∙ stop_taken)

stopped_at : (shared_start_stop stopped ≡ stop_sent) × (stopped.state.start_stop ≡ start_stop false (pos 0) (pos 5501))
unfolding everything stopped
stopped_at = (refl, refl)

-- It has stopped at 4,001 in shared time, which is 5,501 in node 2's host time.
pub stop_comes_to : (shared_start_stop (node_led 2 stopped_calls) ≡ stop_sent) × ((node_led 2 stopped_calls).state.start_stop ≡ start_stop false (pos 0) (pos 5501))
stop_comes_to = rw stopped_is stopped_at
