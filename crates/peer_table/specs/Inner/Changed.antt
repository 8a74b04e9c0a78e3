-- A neighbour whose samples change, and tables in which one row changes.
use Rattle.std.specs.Prelude.{ℕ, ◌<◌, ◌≡◌, List, ℤ}
use Rattle.model.specs.Peers.{Samples, Peer}
use Rattle.peer_table.specs.Rows.{peer_at}

-- the same but for its samples
unfoldable pub with_samples : (Samples → Samples) → Peer → Peer
with_samples g p = record {
  id = p.id;
  session_id = p.session_id;
  timeline_ghost = p.timeline_ghost;
  start_stop_ghost = p.start_stop_ghost;
  last_seen = p.last_seen;
  addr = p.addr;
  samples = g p.samples;
  next_ping_time = p.next_ping_time;
  ping_timeouts = p.ping_timeouts;
  measuring = p.measuring;
}

-- row i has become p, and no other row says anything else than before
pub record Changed (w w' : List ℕ) (l l' : List ℤ) (i : ℕ) (p : Peer) : Type 0 where
  pub here : i < 16 → peer_at w' l' i ≡ p
  pub others : (m : ℕ) → (m ≡ i → ⊥) → peer_at w' l' m ≡ peer_at w l m
