-- Each part of the plan puts out nothing.
use Rattle.std.specs.Prelude.{refl}
use mathlib.Core.List.{flat_map}
use Rattle.peer_walks.specs.Inner.Asked.{addrs_of}
use Rattle.answer.specs.Inner.Planned.{multicast_outputs, ping_outputs, state_outputs, timer_output, count_output, plan_of}
use Rattle.upkeep.proofs.no_plan.Goals as goal

pub returns : goal.returns
unfolding plan_of addrs_of multicast_outputs ping_outputs flat_map state_outputs timer_output count_output
returns c words is = refl
