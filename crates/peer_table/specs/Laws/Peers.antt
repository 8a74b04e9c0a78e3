-- How many neighbours are held, and one by its row.
use Rattle.std.specs.Prelude.{ℕ, ◌<◌, min, ◌≡◌, List, ℤ, length, get_or}
use Rattle.std.proofs.Common.{arith}
use Rattle.model.specs.Peers.{Peer}
use Rattle.peer_table.specs.Rows.{peer_at, peers_of}
use Rattle.peer_table.specs.Laws.Upto.{length-upto, get_upto}

pub length_peers : (n : ℕ) (w : List ℕ) (l : List ℤ) → length (peers_of n w l) ≡ min n 16
unfolding peers_of
length_peers n w l = length-upto (peer_at w l) 0 (min n 16)

pub get_peers : (n : ℕ) (w : List ℕ) (l : List ℤ) (i : ℕ) (d : Peer) → i < length (peers_of n w l) → get_or (peers_of n w l) i d ≡ peer_at w l i
unfolding peers_of
get_peers n w l i d h = get_upto (peer_at w l) (min n 16) i d (omega (arith, h, length_peers n w l))
