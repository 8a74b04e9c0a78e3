-- What `consider` does of a neighbour, by its session and by how many samples it has.
use Rattle.std.specs.Prelude.{◌<◌, ◌≡◌, ℤ, length, Option, Some, None}
use Rattle.std.proofs.Common.{arith}
use Rattle.std.proofs.Math.Path.{refl}
use mathlib.Core.List.{List, [], ◌∷◌}
use Rattle.time.specs.declared.HostTime.{HostTime}
use Rattle.wire.specs.declared.NodeId.{NodeId}
use Rattle.model.specs.Peers.{median_offset}
use Rattle.model.specs.Election.{Best, meet, consider}

module _ (node : NodeId) (now : HostTime) (b : Best) where
  pub no_sample : (m : Option NodeId) (l : List ℤ) → length l ≡ 0 → consider node now b m l ≡ b
  unfolding consider
  no_sample m [] e = refl
  no_sample m (x ∷ l) e = absurd (omega arith)

  pub no_session : (l : List ℤ) → consider node now b None l ≡ b
  unfolding consider
  no_session [] = refl
  no_session (x ∷ l) = refl

  pub one_session : (s : NodeId) (l : List ℤ) → 0 < length l → consider node now b (Some s) l ≡ meet node now b s (median_offset l)
  unfolding consider
  one_session s [] h = absurd (omega arith)
  one_session s (x ∷ l) h = refl
