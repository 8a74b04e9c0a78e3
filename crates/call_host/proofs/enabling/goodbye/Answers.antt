-- `call_host::enabling::goodbye` meets its contract.
use mathlib.Core.List.{flat_map}
use Rattle.peer_walks.specs.Inner.Asked.{addrs_of}
use Rattle.answer.specs.Inner.Planned.{plan_of, call_of, reply_outputs, state_outputs, multicast_outputs, ping_outputs, timer_output}
use Rattle.call_host.proofs.enabling.goodbye.Goals as goal

pub returns : goal.returns
unfolding call_of plan_of addrs_of reply_outputs state_outputs multicast_outputs ping_outputs timer_output flat_map
returns c asked is echo = rw c.lost_count.ensures
