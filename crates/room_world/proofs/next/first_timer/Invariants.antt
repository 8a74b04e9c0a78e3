-- Of the boxes before this one it holds the first with the earliest timer.
use Rattle.room_world.specs.World.{timer}
use Rattle.room_world.specs.Next.{IsFirst}
use Rattle.room_world.proofs.next.first_timer.Given as goal

abbrev pub invariant-loop-number : goal.invariant-loop-number
invariant-loop-number l = IsFirst (timer l.world) l.number l.first
