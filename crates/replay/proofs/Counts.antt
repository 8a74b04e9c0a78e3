-- The most samples of a neighbour.
use Prim.Native.Nat.{ℕ, ◌≤◌}
use native.Mathlib.Omega.{arith}
use mathlib.Core.List.{List}
use lib.IntN.{ℤ}
use lib.ListN.{length}
use Rattle.peer_table.specs.Rows.{peer_at}
use Rattle.peer_table.specs.Laws.Samples.{sample_count}

pub most_samples : (w : List ℕ) (l : List ℤ) (i : ℕ) → length (peer_at w l i).samples.offsets ≤ 20
most_samples w l i = omega (arith, sample_count w l i)
