-- What an accepted call has done, by its kind: the way from `step` to claims about calls.
-- The definitions; the theorems stand in proofs/Laws/Calls/Course.
use Rattle.std.specs.Prelude.{ℕ, ◌≤◌, ◌≡◌, Bool, List, [], ◌∷◌, ◌++◌, pos, length, ◌≤ℤ◌}
use Rattle.std.proofs.Math.Bool.{true, false, cond}
use Rattle.time.specs.declared.HostTime.{HostTime}
use Rattle.timeline.specs.declared.SessionState.{SessionState}
use Rattle.timeline.specs.Same.{same_state}
use Rattle.wire.specs.declared.SocketAddrPlain.{SocketAddrPlain}
use Rattle.wire.specs.Parse.{parse}
use Rattle.lists.specs.Lists.{upsert, without}
use Rattle.model.specs.Peers.{interface_key}
use Rattle.model.specs.Engine.{Box, Output, state_changed, with_interfaces}
use Rattle.model.specs.Produce.{produce_outputs}
use Rattle.model.specs.Packet.{Arrival, handle_message}
use Rattle.model.specs.Commit.{taken}
use Rattle.model.specs.Calls.{IoErrorKind, Call, packet, tick, commit, switch, interface_added, interface_removed, io_error, done, resolved_if_needed, our_own, read_refusal, committed, unstarted, started, switched_on, switch_off, hears}
use Rattle.model.specs.Laws.Calls.Messages.{arrived}

-- a time and a buffer that no call turns down
pub record Admitted (now : HostTime) (buf_size : ℕ) : Type 0 where
  pub from : pos 0 ≤ℤ now.0
  pub upto : now.0 ≤ℤ pos 1_000_000_000_000_000
  pub long : 4096 ≤ buf_size

-- the box after upkeep at a time, and the outputs: those before it and its own
pub record Kept (now : HostTime) (e : Box) (before : List Output) (e' : Box) (os : List Output) : Type 0 where
  pub box : e' ≡ (produce_outputs now e).box
  pub outputs : os ≡ before ++ (produce_outputs now e).outputs

-- nothing was done
pub record Idle (e e' : Box) (os : List Output) : Type 0 where
  pub box : e' ≡ e
  pub outputs : os ≡ []

-- the box after a message and its election, and what they put out
abbrev pub messaged : Box → Arrival → List ℕ → Box
messaged e a bytes = (resolved_if_needed a.now (handle_message e a bytes (parse bytes))).box

abbrev pub message_outputs : Box → Arrival → List ℕ → List Output
message_outputs e a bytes = (handle_message e a bytes (parse bytes)).outputs ++ (resolved_if_needed a.now (handle_message e a bytes (parse bytes))).outputs

pub data Course (e e' : Box) (os : List Output) : Call → Type 0 where
  -- a disabled engine, or our own alive
  packet_ignored : {iface : ℕ} {from : SocketAddrPlain} {bytes : List ℕ} {now : HostTime} {buf_size : ℕ} → Admitted now buf_size
      → hears e (parse bytes) ≡ false → Idle e e' os → Course e e' os (packet iface from bytes now buf_size)
  packet_taken : {iface : ℕ} {from : SocketAddrPlain} {bytes : List ℕ} {now : HostTime} {buf_size : ℕ} → Admitted now buf_size → length bytes ≤ 512
      → e.enabled ≡ true → our_own e.node_id (parse bytes) ≡ false → read_refusal e from (parse bytes) ≡ 0
      → Kept now (messaged e (arrived iface from now) bytes) (message_outputs e (arrived iface from now) bytes) e' os → Course e e' os (packet iface from bytes now buf_size)
  ticked : {now : HostTime} {buf_size : ℕ} → Admitted now buf_size → Kept now e [] e' os → Course e e' os (tick now buf_size)
  commit_same : {s : SessionState} {now : HostTime} {buf_size : ℕ} → Admitted now buf_size → same_state e.state s ≡ true → Idle e e' os → Course e e' os (commit s now buf_size)
  commit_taken : {s : SessionState} {now : HostTime} {buf_size : ℕ} → Admitted now buf_size → same_state e.state s ≡ false
      → Kept now (committed e s now) (state_changed (taken e s) ∷ []) e' os → Course e e' os (commit s now buf_size)
  switch_same : {b : Bool} {now : HostTime} {buf_size : ℕ} → Admitted now buf_size → e.enabled ≡ b → Idle e e' os → Course e e' os (switch b now buf_size)
  went_on : {now : HostTime} {buf_size : ℕ} → Admitted now buf_size → e.enabled ≡ false
      → Kept now (switched_on e now) (cond (unstarted e.state) (state_changed (started now e.state) ∷ []) []) e' os → Course e e' os (switch true now buf_size)
  went_off : {now : HostTime} {buf_size : ℕ} → Admitted now buf_size → e.enabled ≡ true → done e' os ≡ switch_off e → Course e e' os (switch false now buf_size)
  added : {iface : ℕ} {addr : SocketAddrPlain} → e' ≡ with_interfaces (upsert interface_key (record { id = iface; addr = addr }) e.interfaces) e → os ≡ []
      → Course e e' os (interface_added iface addr)
  removed : {iface : ℕ} → e' ≡ with_interfaces (without interface_key iface e.interfaces) e → os ≡ [] → Course e e' os (interface_removed iface)
  failed : {iface : ℕ} {error : IoErrorKind} → e' ≡ with_interfaces (without interface_key iface e.interfaces) e → os ≡ [] → Course e e' os (io_error iface error)
