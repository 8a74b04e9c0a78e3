-- The ids of the neighbours that a box holds: what adds none, and an alive that is taken twice.
-- The definitions; the theorems stand in proofs/Laws/Clerk/Ids.
use Rattle.std.specs.Prelude.{ℕ}
use mathlib.Core.List.{List, map}
use Rattle.model.specs.Peers.{Peer, peer_key}

abbrev pub ids : List Peer → List ℕ
ids ps = map peer_key ps
