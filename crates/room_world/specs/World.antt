-- The parts of a room but its engines, and what changes them.
use Rattle.std.specs.Prelude.{ℕ, ◌%◌, Bool, false, List, replicate, slice_index, slice_index_or, slice_set}
use Rattle.room_scenario.specs.declared.BoxLine.{BoxLine}
use Rattle.room_scenario.specs.declared.Scenario.{Scenario}
use Rattle.room_network.specs.declared.Network.{Network}
use Rattle.room_world.specs.declared.World.{World}

-- the time of what never happens
abbrev pub never : ℕ
never = 18446744073709551615

-- before anything happens: all cables are in, and no timer is set
abbrev pub at_first : Scenario → World
at_first s = record {
  now = 0;
  done = 0;
  delay = s.delay;
  count = s.box_count;
  boxes = s.boxes;
  silent = replicate 16 false;
  timers = replicate 16 never;
  network = record { first = 0; count = 0 };
}

-- ---- of a box, whose number counts modulo 16

abbrev pub box_line : World → ℕ → BoxLine
box_line w i = slice_index_or w.boxes (i % 16) (record { name = 0; shift = 0; ports = 0 })

-- whether its cables are out
abbrev pub silent : World → ℕ → Bool
silent w i = slice_index_or w.silent (i % 16) false

-- when its timer fires
abbrev pub timer : World → ℕ → ℕ
timer w i = slice_index w.timers (i % 16)

-- ---- changes

-- with these cables, timers and packets under way
abbrev with_parts : World → List Bool → List ℕ → Network → World
with_parts w silent timers network = record {
  now = w.now;
  done = w.done;
  delay = w.delay;
  count = w.count;
  boxes = w.boxes;
  silent = silent;
  timers = timers;
  network = network;
}

abbrev pub with_silence : World → ℕ → Bool → World
with_silence w i out = with_parts w (slice_set w.silent (i % 16) out) w.timers w.network

abbrev pub with_timer : World → ℕ → ℕ → World
with_timer w i fires = with_parts w w.silent (slice_set w.timers (i % 16) fires) w.network

abbrev pub with_network : World → Network → World
with_network w network = with_parts w w.silent w.timers network
