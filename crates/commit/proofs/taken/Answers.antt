-- The best of a list has its largest value, so that the largest values are enough.
use Rattle.std.proofs.Common.{arith}
use Rattle.model.specs.Engine.{start_stop_to_ghost}
use Rattle.model.specs.Commit.{max_beat_origin, max_start_stop_time, taken}
use Rattle.engine_state.specs.Inner.OwnBox.{own_box}
use Rattle.commit.specs.Inner.Known.{own_largest, largest_known}
use Rattle.commit.specs.Laws.Walk.{best_is_greatest}
use Rattle.commit.proofs.taken.Goals as goal

pub returns : goal.returns
unfolding own_box own_largest largest_known max_beat_origin max_start_stop_time start_stop_to_ghost taken
returns c = grind (arith, best_is_greatest)
