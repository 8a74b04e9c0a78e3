-- What happens next: the earliest, and at one time first `at` lines, then packets, then timers by the boxes' numbers.
use Rattle.std.specs.Prelude.{◌≡◌, ℕ, ◌%◌, ◌<◌, ◌≤◌, cond, List, ◌==◌, nat_lt, slice_index_or}
use Rattle.room_scenario.specs.declared.Action.TheVariants.{On}
use Rattle.room_scenario.specs.declared.Scenario.{Scenario}
use Rattle.room_network.specs.declared.Network.{Network}
use Rattle.room_network.specs.Queue.{packet_at, slot_place}
use Rattle.room_world.specs.declared.next.Kind.{Kind}
use Rattle.room_world.specs.declared.next.Kind.TheVariants.{Event, Packet, Timer}
use Rattle.room_world.specs.World.{never}

-- the time of the next `at` line, where this many have happened; there are 64 places for them
abbrev pub event_time : Scenario → ℕ → ℕ
event_time s done = cond (nat_lt done s.event_count) (slice_index_or s.events (done % 64) (record { time = 0; number = 0; action = On })).time never

-- when the first packet under way arrives
abbrev pub arrival_time : Network → List ℕ → ℕ
arrival_time w queue = cond (w.count == 0) never (packet_at (slot_place w.first) queue).arrival

-- of the first n boxes, box i has the earliest timer, and no box before it one as early
pub record IsFirst (timer : ℕ → ℕ) (n i : ℕ) : Type 0 where
  pub is_among : i < n
  pub earliest : (j : ℕ) → j < n → timer i ≤ timer j
  pub first : (j : ℕ) → j < i → timer i < timer j

-- at a time happens what has that time: nothing has an earlier one, and nothing that goes before it has the same
abbrev pub IsNext : (event packet : ℕ) (timer : ℕ → ℕ) → ℕ → Kind → Type 0
IsNext event packet timer time Event = (time ≡ event) × (event ≤ packet) × ((j : ℕ) → j < 16 → event ≤ timer j)
IsNext event packet timer time Packet = (time ≡ packet) × (packet < event) × ((j : ℕ) → j < 16 → packet ≤ timer j)
IsNext event packet timer time (Timer i) = (time ≡ timer i) × (timer i < event) × (timer i < packet) × IsFirst timer 16 i
