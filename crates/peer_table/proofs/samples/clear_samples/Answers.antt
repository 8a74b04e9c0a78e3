use Rattle.std.proofs.Common.{rules}
use Rattle.peer_table.specs.Laws.Samples.{none_changes}
use Rattle.peer_table.proofs.samples.clear_samples.Goals as goal

pub returns : goal.returns
returns c = λ l. rw c.put_word.ensures (none_changes c.args.words.now l c.args.i (search rules))
