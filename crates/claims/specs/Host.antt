-- A list of calls made on the code's engine, each on the engine that the one before returned, and the answers that the host has of them.
use Rattle.std.specs.Prelude.{ℕ, ◌≡◌, List, [], ◌∷◌, length, Option, Some, None}
use Rattle.model.specs.Calls.{Call, packet, tick, commit, switch, interface_added, interface_removed, io_error, step}
use Rattle.model.specs.Answer.{buffer_after}
use Rattle.engine_state.specs.declared.Engine.{Engine}
use Rattle.engine_state.specs.Held.{held}
use Rattle.call.specs.declared.Called.{Called}
use Rattle.call.specs.Called.{Returns}
use Rattle.claims.specs.Read.{Answer, Reply, reply}

-- the length of the answer buffer that a call is lent, if it takes one
abbrev pub buf_size_of : Call → Option ℕ
buf_size_of (packet iface from bytes now buf_size) = Some buf_size
buf_size_of (tick now buf_size) = Some buf_size
buf_size_of (commit s now buf_size) = Some buf_size
buf_size_of (switch enabled now buf_size) = Some buf_size
buf_size_of (interface_added iface addr) = None
buf_size_of (interface_removed iface) = None
buf_size_of (io_error iface error) = None

-- what a call on an engine was lent: nothing, if it takes no buffer; or a buffer, with its bytes before the call and those after it, as its contract says
pub data Lent (e : Engine) (c : Call) : Type 0 where
  nothing : buf_size_of c ≡ None → Lent e c
  buffer : (before after : List ℕ) → buf_size_of c ≡ Some (length before) → after ≡ buffer_after (step (held e) c) before → Lent e c

-- each call returned what its contract says
pub data Led : Engine → List Call → Engine → Type 0 where
  led_on : (e : Engine) → Led e [] e
  call : (e : Engine) (c : Call) (r : Called) → Returns e c r → Lent e c → (cs : List Call) (last : Engine) → Led r.engine cs last → Led e (c ∷ cs) last

-- the answers to the calls that were lent a buffer, in their order
unfoldable pub answers : {e : Engine} {cs : List Call} {last : Engine} → Led e cs last → List Answer
answers (led_on e) = []
answers (call e c r says (nothing TakesNone) cs last rest) = answers rest
answers (call e c r says (buffer before after takes written) cs last rest) = record { number = r.number; buffer = after } ∷ answers rest

-- what the host makes of all the calls, in their order; one that takes no buffer has no outputs
unfoldable pub replies : {e : Engine} {cs : List Call} {last : Engine} → Led e cs last → List Reply
replies (led_on e) = []
replies (call e c r says (nothing TakesNone) cs last rest) = record { number = r.number; outputs = [] } ∷ replies rest
replies (call e c r says (buffer before after takes written) cs last rest) = reply (record { number = r.number; buffer = after }) ∷ replies rest
