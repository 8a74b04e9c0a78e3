-- Every call leaves at most 16 neighbours, 4 interfaces and 20 samples a neighbour, each with its ping time, from any box of which this holds, also from one
-- that no calls lead to.
-- The definitions; the theorems stand in proofs/Laws/Calls/Within.
use Rattle.std.specs.Prelude.{◌≤◌, ◌≡◌, length}
use Rattle.model.specs.Peers.{Samples, Peer}
use Rattle.model.specs.Engine.{Box}
use Rattle.lists.specs.Laws.Each.{Each}

-- at most 20, each with its ping time
abbrev pub Paired : Samples → Type 0
Paired s = (length s.offsets ≤ 20) × (length s.ping_times ≡ length s.offsets)

abbrev pub Sampled : Peer → Type 0
Sampled p = Paired p.samples

pub record Within (e : Box) : Type 0 where
  pub few_peers : length e.peers ≤ 16
  pub few_interfaces : length e.interfaces ≤ 4
  pub few_samples : Each Sampled e.peers
