-- The clerk's questions and their answers. Each holds after any list of calls `cs`, from any new engine.
-- The definitions; the theorems stand in proofs/Laws/Clerk/Claims.
use Rattle.std.specs.Prelude.{ℕ, ◌≤◌, ◌≡◌, true, Some}
use mathlib.Core.List.{List, Memᴰ}
use Rattle.time.specs.declared.HostTime.{HostTime}
use Rattle.wire.specs.declared.SocketAddrPlain.{SocketAddrPlain}
use Rattle.model.specs.Peers.{Peer}
use Rattle.model.specs.Engine.{Box}
use Rattle.model.specs.Packet.{held_peer}
use Rattle.model.specs.Calls.{packet, refused, timely, next, step}

-- ---- "And does a pong that comes twice count once?"

-- The same bytes from the same address, after those that were taken while p was their owner.
pub record CountsOnce (e₁ : Box) (from : SocketAddrPlain) (bytes : List ℕ) (p : Peer) : Type 0 where
  -- where p is still held and measured they are turned down, by whichever interface they come, at any time that is accepted and with any buffer that is
  pub refused_again : (q : Peer) → held_peer p.id e₁.peers ≡ Some q → q.measuring ≡ true
      → (iface' : ℕ) (now' : HostTime) (buf_size' : ℕ) → timely now' ≡ true → 4096 ≤ buf_size' → step e₁ (packet iface' from bytes now' buf_size') ≡ refused 11
  -- and, turned down or not, whoever has its id has the samples that it had
  pub samples_stay : (iface' : ℕ) (now' : HostTime) (buf_size' : ℕ) (q r : Peer) → Memᴰ q e₁.peers → Memᴰ r (next e₁ (step e₁ (packet iface' from bytes now' buf_size'))).peers
      → q.id ≡ p.id → r.id ≡ p.id → r.samples ≡ q.samples
