-- What Link's documentation and test plan ask of lists of calls: enabling keeps the tempo and the beat, disabling the state, a new engine is disabled, and
-- oneself is not counted.
-- The definitions; the theorems stand in proofs/Laws/Link/Enabling.
use Rattle.std.specs.Prelude.{◌≢◌, Bool, false}
use Rattle.model.specs.Engine.{Box}
use Rattle.model.specs.Calls.{Call, packet, tick, commit, switch, interface_added, interface_removed, io_error}
use Rattle.lists.specs.Laws.Each.{Each}

abbrev pub switches_on : Call → Bool
switches_on (packet iface from bytes now buf_size) = false
switches_on (tick now buf_size) = false
switches_on (commit s now buf_size) = false
switches_on (switch b now buf_size) = b
switches_on (interface_added iface addr) = false
switches_on (interface_removed iface) = false
switches_on (io_error iface error) = false

-- ---- oneself

-- no neighbour has the box's own id
abbrev pub NotSelf : Box → Type 0
NotSelf e = Each (λ p. p.id ≢ e.node_id) e.peers
