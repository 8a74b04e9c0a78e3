-- What holds of every box that a list of calls leads to.
-- The definitions; the theorems stand in proofs/Laws/Calls/Reach.
use Rattle.std.specs.Prelude.{◌^◌, ◌<◌, ◌≤◌, ◌≡◌, Bool, true, false, ℤ, length}
use mathlib.Core.List.{List, []}
use Rattle.wire.specs.declared.NodeId.{NodeId}
use Rattle.model.specs.Peers.{Peer, peer_key, interface_key}
use Rattle.model.specs.Engine.{Box}
use Rattle.model.specs.Produce.{session_peers}
use Rattle.lists.specs.Laws.Each.{Each, Ascending}

-- at most 20 samples, and fewer while it is measured
abbrev pub Few : List ℤ → Bool → Type 0
Few xs measuring = (length xs ≤ 20) × (measuring ≡ true → length xs < 20)

abbrev pub Measured : Peer → Type 0
Measured p = Few p.samples.offsets p.measuring

pub record Reached (a : NodeId) (e : Box) : Type 0 where
  pub node : a.0 < 2 ^ 64 → e.node_id.0 < 2 ^ 64
  pub ascending_peers : Ascending peer_key e.peers
  pub few_peers : length e.peers ≤ 16
  pub measured : Each Measured e.peers
  pub ascending_interfaces : Ascending interface_key e.interfaces
  pub few_interfaces : length e.interfaces ≤ 4
  pub counted : e.num_session_peers ≡ session_peers e
  pub alone : e.enabled ≡ false → e.peers ≡ []

-- ---- the count, and no neighbours while disabled

pub record Told (e : Box) : Type 0 where
  pub counted : e.num_session_peers ≡ session_peers e
  pub alone : e.enabled ≡ false → e.peers ≡ []
