-- At the times that calls accept, what is taken off in a call does not wrap.
-- The definitions; the theorems stand in proofs/Laws/Clerk/Times.
use Rattle.std.specs.Prelude.{pos, ◌-ℤ◌, ◌≤ℤ◌}
use Rattle.time.specs.declared.HostTime.{HostTime}
use Rattle.model.specs.Peers.{Peer}

-- last seen at most 6,000,000 before, in whole numbers
abbrev pub SeenLately : HostTime → Peer → Type 0
SeenLately now p = (now.0 -ℤ pos 6_000_000) ≤ℤ p.last_seen.0
