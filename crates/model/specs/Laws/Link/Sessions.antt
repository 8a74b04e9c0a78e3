-- What Link's documentation and test plan ask of an election: who joins changes no tempo and no beat, and the later start or stop stands.
-- The definitions; the theorems stand in proofs/Laws/Link/Sessions.
use Rattle.std.specs.Prelude.{◌≡◌, ◌⊎◌, ◌≤ℤ◌}
use mathlib.Core.List.{Memᴰ}
use Rattle.time.specs.declared.HostTime.{HostTime}
use Rattle.timeline.specs.declared.Timeline.{Timeline}
use Rattle.timeline.specs.declared.StartStopState.{StartStopState}
use Rattle.model.specs.Peers.{start_stops_in, origin_of}
use Rattle.model.specs.Engine.{Box, timeline_to_host, start_stop_to_ghost}
use Rattle.model.specs.Election.{resolved}
use Rattle.lists.specs.Laws.Each.{Each}
use Rattle.model.specs.Laws.Link.Elected.{new_offset, lines}

-- our line after an election is one that is known for its session, in our host time; none known there has a larger beat origin
pub record FromKnown (now : HostTime) (e : Box) : Type 0 where
  pub line : Timeline
  pub known : Memᴰ line (lines now e)
  pub largest : Each (λ l. origin_of l ≤ℤ origin_of line) (lines now e)
  pub in_host_time : (resolved now e).state.timeline ≡ timeline_to_host (new_offset now e) line

-- ---- start and stop

-- a start-stop state in shared time
abbrev pub shared_start_stop : Box → StartStopState
shared_start_stop e = start_stop_to_ghost e.session_offset e.state.start_stop

-- box e, in session, knows of the start-stop state s: its own in shared time, or a neighbour's
abbrev pub KnowsOf : Box → StartStopState → Type 0
KnowsOf e s = (s ≡ shared_start_stop e) ⊎ Memᴰ s (start_stops_in e.session_id e.peers)
