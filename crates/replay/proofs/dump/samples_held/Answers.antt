-- No neighbour has more than 20 samples.
use Rattle.std.proofs.Common.{arith, []}
use Rattle.replay.proofs.Counts.{most_samples}
use Rattle.replay.proofs.dump.samples_held.Goals as goal

pub returns : goal.returns
returns c = omega (arith, c.sample_count.ensures [], most_samples c.args.words.now [] c.args.i)
