-- What is known of a scenario from the lines that were read, and which of its code's values means what.
use Rattle.std.specs.Prelude.{ℕ, ◌+◌, cond, List, [], ◌∷◌, ◌++◌, eqb, leb, take, Option, None, Some, Result, Ok, Err}
use Rattle.room_scenario.specs.declared.BoxLine.{BoxLine}
use Rattle.room_scenario.specs.declared.Event.{Event}
use Rattle.room_scenario.specs.declared.Scenario.{Scenario}
use Rattle.room_scenario.specs.declared.fault.Fault.{Fault}
use Rattle.room_scenario.specs.declared.fault.BadLine.{BadLine}

-- the delay, the end if it was given, the boxes in the order of their lines, the events in the order in which they happen; times in microseconds
pub record Script : Type 0 where
  pub delay : ℕ
  pub end : Option ℕ
  pub boxes : List BoxLine
  pub events : List Event

-- before the first line
unfoldable pub nothing_said : Script
nothing_said = record { delay = 0; end = None; boxes = []; events = [] }

-- ---- one line more

abbrev pub with_delay : ℕ → Script → Script
with_delay n s = record { delay = n; end = s.end; boxes = s.boxes; events = s.events }

abbrev pub with_end : ℕ → Script → Script
with_end t s = record { delay = s.delay; end = Some t; boxes = s.boxes; events = s.events }

-- 16 letters name at most 16 boxes
abbrev pub with_box : BoxLine → Script → Script
with_box b s = record { delay = s.delay; end = s.end; boxes = take 16 (s.boxes ++ (b ∷ [])); events = s.events }

-- behind those that are no later
unfoldable pub in_order : Event → List Event → List Event
in_order e [] = e ∷ []
in_order e (x ∷ xs) = cond (leb x.time e.time) (x ∷ in_order e xs) (e ∷ (x ∷ xs))

abbrev pub with_event : Event → Script → Script
with_event e s = record { delay = s.delay; end = s.end; boxes = s.boxes; events = in_order e s.events }

-- the number of the first box with this letter, in a list whose first has the number k
unfoldable pub number_from : ℕ → ℕ → List BoxLine → Option ℕ
number_from k name [] = None
number_from k name (b ∷ bs) = cond (eqb b.name name) (Some k) (number_from (k + 1) name bs)

-- how many boxes were declared before the one with this letter
abbrev pub number_of_box : ℕ → List BoxLine → Option ℕ
number_of_box name bs = number_from 0 name bs

-- ---- what was read

-- a whole scenario, or the first line that is bad, with its fault
pub data Outcome : Type 0 where
  good : (delay end : ℕ) → List BoxLine → List Event → Outcome
  bad : (line : ℕ) → Fault → Outcome

-- which outcome the code's value means: array places past a count are free
abbrev pub outcome : Result Scenario BadLine → Outcome
outcome (Ok s) = good s.delay s.end (take s.box_count s.boxes) (take s.event_count s.events)
outcome (Err b) = bad b.line b.fault
