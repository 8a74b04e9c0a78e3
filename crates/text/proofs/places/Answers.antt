use Rattle.std.proofs.Common.{arith}
use Rattle.text.specs.Laws.Decimals.{places_one, places_more, places_most}
use Rattle.text.proofs.places.Goals as goal

pub overflow_add-count : goal.overflow_add-count
overflow_add-count c = record { fits = omega (arith, places_most 20 c.args.n (omega arith) (omega arith)) }

pub loop-rest-preserved : goal.loop-rest-preserved
loop-rest-preserved c = omega (arith, places_more c.loop-rest.rest (omega arith))

pub returns : goal.returns
returns c = omega (arith, places_one c.loop-rest.rest (omega arith))
