-- BEATTIME-2 and TEMPO-2 of Link's test plan, of calls: who joins our session changes neither our beat nor our tempo.
-- The definitions; the theorems stand in proofs/Laws/Link/Joining.
use Rattle.std.specs.Prelude.{ℕ, ◌≡◌, cond, List, [], ◌∷◌, ◌≤ℤ◌}
use Rattle.time.specs.declared.HostTime.{HostTime}
use Rattle.wire.specs.declared.SocketAddrPlain.{SocketAddrPlain}
use Rattle.wire.specs.Parse.{parse}
use Rattle.model.specs.Peers.{timelines_in, origin_of}
use Rattle.model.specs.Engine.{Box}
use Rattle.model.specs.Election.{resolved}
use Rattle.model.specs.Calls.{IoErrorKind, Call, packet, tick, interface_added, interface_removed, io_error, next, hears, step}
use Rattle.lists.specs.Laws.Each.{Each}
use Rattle.model.specs.Laws.Distance.Statement.{upkeep_elections, packet_elections}

-- ---- the premises

-- An election that begins in box x stays in its session, and no line known for that has a larger beat origin than its own. The offset may change.
pub record Quiet (now : HostTime) (x : Box) : Type 0 where
  pub session : (resolved now x).session_id ≡ x.session_id
  pub below : Each (λ l. origin_of l ≤ℤ origin_of x.state.timeline) (timelines_in x.session_id x.peers)

-- the boxes in which the elections of a packet call begin; a packet that is not heard calls for none
abbrev pub heard_elections : Box → ℕ → SocketAddrPlain → List ℕ → HostTime → List Box
heard_elections e i from bytes now = cond (hears e (parse bytes)) (packet_elections e i from bytes now) []

-- Calls from box e on that are packets, ticks and changes of interfaces, no commit and no switch; each election in them is quiet.
pub data Undisturbed : Box → List Call → Type 0 where
  ended : {e : Box} → Undisturbed e []
  after_packet : {e : Box} {i : ℕ} {from : SocketAddrPlain} {bytes : List ℕ} {now : HostTime} {buf_size : ℕ} {cs : List Call}
      → Each (Quiet now) (heard_elections e i from bytes now) → Undisturbed (next e (step e (packet i from bytes now buf_size))) cs → Undisturbed e (packet i from bytes now buf_size ∷ cs)
  after_tick : {e : Box} {now : HostTime} {buf_size : ℕ} {cs : List Call}
      → Each (Quiet now) (upkeep_elections now e) → Undisturbed (next e (step e (tick now buf_size))) cs → Undisturbed e (tick now buf_size ∷ cs)
  after_added : {e : Box} {i : ℕ} {addr : SocketAddrPlain} {cs : List Call} → Undisturbed (next e (step e (interface_added i addr))) cs → Undisturbed e (interface_added i addr ∷ cs)
  after_removed : {e : Box} {i : ℕ} {cs : List Call} → Undisturbed (next e (step e (interface_removed i))) cs → Undisturbed e (interface_removed i ∷ cs)
  after_error : {e : Box} {i : ℕ} {error : IoErrorKind} {cs : List Call} → Undisturbed (next e (step e (io_error i error))) cs → Undisturbed e (io_error i error ∷ cs)
