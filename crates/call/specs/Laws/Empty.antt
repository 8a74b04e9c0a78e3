-- An answer without outputs is 4 zero bytes.
use Rattle.std.specs.Prelude.{ℕ, ◌≤◌, ◌≡◌, length, drop}
use Rattle.std.proofs.Common.{arith, le-leb}
use mathlib.Core.List.{List, [], ◌++◌, flat_map}
use Rattle.big_endian.specs.Bytes.{bytes, put}
use Rattle.model.specs.Engine.{Box}
use Rattle.model.specs.Calls.{done}
use Rattle.model.specs.Answer.{contents, answer, buffer_after}
use Rattle.lists.specs.Laws.Bools.{cond-true}

pub empty_answer : (b : Box) (old : List ℕ) → 4096 ≤ length old → put 0 (bytes 4 0) old ≡ buffer_after (done b []) old
unfolding put bytes contents answer buffer_after flat_map
empty_answer b old room =
    let g : 4 ≤ length old = omega arith in
    cond-true (bytes 4 0 ++ drop 4 old) old (le-leb 4 (length old) g)
