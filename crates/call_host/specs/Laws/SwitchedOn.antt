-- What switching on sets, part by part, and when an engine is alone.
use Rattle.std.specs.Prelude.{ℕ, zero, suc, ◌≡◌, refl, true, List, [], ◌∷◌, eqb, ℤ, length}
use Rattle.std.proofs.Common.{arith, sym, ◌∙◌, eq-eqb, ne_eqb}
use Rattle.time.specs.declared.HostTime.{HostTime}
use Rattle.timeline.specs.declared.SessionState.{SessionState}
use Rattle.wire.specs.declared.NodeId.{NodeId}
use Rattle.lists.specs.Lists.{empty}
use Rattle.model.specs.Peers.{Peer}
use Rattle.model.specs.Engine.{Box}
use Rattle.peer_table.specs.Rows.{peers_of}
use Rattle.peer_table.specs.Laws.Peers.{length_peers}

pub none_held : (ps : List Peer) → eqb (length ps) 0 ≡ empty ps
none_held [] = refl
none_held (p ∷ ps) = ne_eqb (suc (length ps)) 0 (λ e. omega arith)

-- the same of rows, by their count
count_held : (n : ℕ) (w : List ℕ) (l : List ℤ) → eqb n 0 ≡ eqb (length (peers_of n w l)) 0
count_held zero w l = sym (eq-eqb (length (peers_of 0 w l)) 0 (omega (arith, length_peers 0 w l)))
count_held (suc n) w l = ne_eqb (suc n) 0 (λ e. omega arith) ∙ sym (ne_eqb (length (peers_of (suc n) w l)) 0 (λ e. omega (arith, e, length_peers (suc n) w l)))

pub no_rows_held : (n : ℕ) (w : List ℕ) (l : List ℤ) → eqb n 0 ≡ empty (peers_of n w l)
no_rows_held n w l = count_held n w l ∙ none_held (peers_of n w l)

-- the box with what switching on sets
unfoldable pub on : Box → HostTime → NodeId → ℤ → SessionState → Box
on e now session offset state = record {
  node_id = e.node_id;
  enabled = true;
  session_id = session;
  session_offset = offset;
  state = state;
  interfaces = e.interfaces;
  peers = e.peers;
  num_session_peers = e.num_session_peers;
  next_broadcast = now;
}

pub same_on : (e : Box) (now : HostTime) (n m : NodeId) (d k : ℤ) (x y : SessionState) → n ≡ m → d ≡ k → x ≡ y → on e now n d x ≡ on e now m k y
same_on e now n m d k x y p q r = cc
