-- To write on those that are left makes the whole.
use Rattle.std.specs.Prelude.{map, drop}
use Rattle.interface_map.specs.Held.{interface, interfaces_of}
use Rattle.answer.specs.Inner.Values.{spread_output}
use Rattle.answer.specs.Laws.Runs.{Left}
use Rattle.answer.proofs.spread.write_everywhere.Given as goal

abbrev pub invariant-loop-x : goal.invariant-loop-x
invariant-loop-x l =
    Left l.fn.start (map (spread_output l.fn.spread) (interfaces_of l.fn.interfaces)) l.fn.buf l.c (map (spread_output l.fn.spread) (map interface (drop l.x-index l.x-items))) l.buf
