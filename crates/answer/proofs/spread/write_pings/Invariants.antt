-- To ping those that are left makes the whole.
use Rattle.std.specs.Prelude.{drop}
use Rattle.interface_map.specs.Held.{interfaces_of}
use Rattle.peer_walks.specs.Inner.Asked.{addrs_of}
use Rattle.answer.specs.Inner.Planned.{ping_outputs}
use Rattle.answer.specs.Laws.Runs.{Left}
use Rattle.answer.proofs.spread.write_pings.Given as goal

abbrev pub invariant-loop-to : goal.invariant-loop-to
invariant-loop-to l =
    Left l.fn.start (ping_outputs l.fn.host_time (interfaces_of l.fn.interfaces) (addrs_of l.fn.count l.fn.asked)) l.fn.buf l.c (ping_outputs l.fn.host_time (interfaces_of l.fn.interfaces) (drop l.to-index l.to-items)) l.buf
