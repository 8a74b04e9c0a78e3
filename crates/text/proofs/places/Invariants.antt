use Rattle.std.proofs.Common.{◌≡◌, ◌+◌}
use Rattle.text.specs.Numerals.{places}
use Rattle.text.proofs.places.Given as goal

-- with those of what is left, one digit too many is counted
abbrev pub invariant-loop-rest : goal.invariant-loop-rest
invariant-loop-rest l = l.count + places l.rest ≡ places l.n + 1

abbrev pub decreases-loop-rest : goal.decreases-loop-rest
decreases-loop-rest l = l.rest
