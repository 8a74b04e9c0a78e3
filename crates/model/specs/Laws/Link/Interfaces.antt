-- What Link says of its number of peers: another box is one peer, by however many interfaces it is heard.
-- The definitions; the theorems stand in proofs/Laws/Link/Interfaces.
use Prim.Native.Nat.{ℕ, ◌+◌}
use Rattle.std.specs.Prelude.{◌≡◌, ◌≢◌, true, length, Some}
use mathlib.Core.List.{List, [], ◌∷◌, Memᴰ}
use Rattle.wire.specs.declared.NodeId.{NodeId}
use Rattle.model.specs.Peers.{Peer}
use Rattle.model.specs.Engine.{Box}
use Rattle.lists.specs.Laws.Each.{Each, Ascending}

-- ---- the number of peers

-- a neighbour of this id is held under the box's session
pub record HeldInSession (e : Box) (n : NodeId) : Type 0 where
  pub one : Peer
  pub held : Memᴰ one e.peers
  pub id : one.id ≡ n
  pub session : one.session_id ≡ Some e.session_id

-- k is the number of the others in the box's session: of ids that ascend strictly, so that none stands twice
pub record CountsOthers (e : Box) (k : ℕ) : Type 0 where
  pub others : List NodeId
  pub number : k ≡ length others
  pub each_once : Ascending (λ (n : NodeId). n.0) others
  pub each_held : Each (HeldInSession e) others
  pub all_held : (n : NodeId) → HeldInSession e n → Memᴰ n others
  pub not_oneself : Each (λ n. n ≢ e.node_id) others

-- ---- the boxes in session

-- one of the box's session: itself, while it is on, or one that is held there
pub data InSession (e : Box) (n : NodeId) : Type 0 where
  oneself : e.enabled ≡ true → n ≡ e.node_id → InSession e n
  another : HeldInSession e n → InSession e n

-- none stands twice
pub data Distinct : List NodeId → Type 0 where
  no_more : Distinct []
  and_another : {n : NodeId} {ns : List NodeId} → Each (λ m. m ≢ n) ns → Distinct ns → Distinct (n ∷ ns)

-- k counts all of the box's session but one: of a list of just these ids, in which none stands twice
pub record CountsAllButOne (e : Box) (k : ℕ) : Type 0 where
  pub boxes : List NodeId
  pub number : length boxes ≡ k + 1
  pub each_once : Distinct boxes
  pub each_in : Each (InSession e) boxes
  pub all_in : (n : NodeId) → InSession e n → Memᴰ n boxes
