-- The distance rule's packet is there for whichever interface: an accepted commit that changes the line of an enabled box writes one for each that it holds.
-- The definitions; the theorems stand in proofs/Laws/Distance/EveryInterface.
use Rattle.std.specs.Prelude.{ℕ, false, Some}
use mathlib.Core.List.{List}
use Rattle.time.specs.declared.HostTime.{HostTime}
use Rattle.timeline.specs.declared.Timeline.{Timeline}
use Rattle.timeline.specs.declared.StartStopState.{StartStopState}
use Rattle.timeline.specs.declared.SessionState.{SessionState}
use Rattle.model.specs.Peers.{Interface}
use Rattle.model.specs.Engine.{Box, our_alive, timeline_to_ghost, start_stop_to_ghost}
use Rattle.model.specs.Packet.{AliveMsg}
use Rattle.model.specs.Commit.{taken}
use Rattle.model.specs.Calls.{committed}
use Rattle.model.specs.Laws.Distance.Reads.{low_bits, low_start_stop}

-- what the box e writes for the interface i as it takes the state s
abbrev pub alive_on : Box → SessionState → HostTime → Interface → List ℕ
alive_on e s now i = our_alive (committed e s now) (Some i.addr) false

-- the line and the start-stop state that it tells: those that it takes for the ones of s, in shared time, by their low 64 bits
abbrev pub line_sent : Box → SessionState → Timeline
line_sent e s = low_bits (timeline_to_ghost e.session_offset (taken e s).timeline)

abbrev pub start_stop_sent : Box → SessionState → StartStopState
start_stop_sent e s = low_start_stop (start_stop_to_ghost e.session_offset (taken e s).start_stop)

-- and all that it says: its node and its session, that line and that start-stop state, and where it is measured
abbrev pub alive_sent : Box → SessionState → Interface → AliveMsg
alive_sent e s i = record {
  node_id = e.node_id;
  timeline = Some (line_sent e s);
  start_stop = Some (start_stop_sent e s);
  session_id = Some e.session_id;
  mep4 = Some i.addr;
}
