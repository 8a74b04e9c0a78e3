-- A place that a search found, and a change there, in terms of the model: the first is there, it is changed there, and it is put there.
use Rattle.std.specs.Prelude.{ℕ, ◌<◌, ◌≡◌, Bool, List, ℤ, set, Some}
use Rattle.std.proofs.Common.{arith, sym, ap, ◌∙◌}
use Rattle.lists.specs.Lists.{first, change, has_key, upsert}
use Rattle.model.specs.Peers.{Peer, peer_key}
use Rattle.lists.specs.Inner.Places.{place_of}
use Rattle.lists.specs.Laws.Found.{first_at, put_at_first}
use Rattle.peer_table.specs.Rows.{peer_at, peers_of}
use Rattle.peer_table.specs.Inner.Changed.{Changed}
use Rattle.peer_table.specs.Laws.Changed.{changed_one}
use Rattle.peer_table.specs.Laws.Peers.{length_peers, get_peers}

module _ (t : Peer → Bool) (n : ℕ) (w : List ℕ) (l : List ℤ) (i : ℕ) (there : place_of t (peers_of n w l) ≡ Some i) where
  pub found_first : first t (peers_of n w l) ≡ Some (peer_at w l i)
  found_first =
      let r = first_at t (peers_of n w l) i there in
      let d = peer_at w l i in
      r.is d ∙ ap Some (get_peers n w l i d r.inside)

  pub found_below : i < 16
  found_below = omega (arith, (first_at t (peers_of n w l) i there).inside, length_peers n w l)

  pub found_changed : (w' : List ℕ) (l' : List ℤ) (g : Peer → Peer) → Changed w w' l l' i (g (peer_at w l i)) → peers_of n w' l' ≡ change t g (peers_of n w l)
  found_changed w' l' g c =
      let r = first_at t (peers_of n w l) i there in
      let d = peer_at w l i in
      changed_one w w' l l' i (g d) c n ∙ ap (λ (q : Peer). set (peers_of n w l) i (g q)) (sym (get_peers n w l i d r.inside)) ∙ sym (r.changed g d)

pub found_put : (n : ℕ) (w w' : List ℕ) (l l' : List ℤ) (i : ℕ) (p : Peer) → place_of (has_key peer_key (peer_key p)) (peers_of n w l) ≡ Some i → Changed w w' l l' i p → peers_of n w' l' ≡ upsert peer_key p (peers_of n w l)
found_put n w w' l l' i p there c = changed_one w w' l l' i p c n ∙ sym (put_at_first peer_key p (peers_of n w l) i there)
