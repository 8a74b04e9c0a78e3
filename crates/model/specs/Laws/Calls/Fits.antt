-- Calls whose arguments fit their types lead to boxes whose numbers fit theirs.
-- The definitions; the theorems stand in proofs/Laws/Calls/Fits.
use Rattle.std.specs.Prelude.{ℕ, ◌^◌, ◌<◌, ◌≤◌, Bool}
use Rattle.std.proofs.Common.{SFits}
use mathlib.Core.List.{List}
use Rattle.std.specs.Int.{w64}
use Rattle.time.specs.declared.HostTime.{HostTime}
use Rattle.timeline.specs.declared.SessionState.{SessionState}
use Rattle.wire.specs.declared.SocketAddrPlain.{SocketAddrPlain}
use Rattle.wire.specs.Laws.RoundTrip.{TimelineFits, StartStopFits, AddrFits}
use Rattle.model.specs.Peers.{Samples, Peer, Interface, timeline_list, start_stop_list}
use Rattle.model.specs.Engine.{Box}
use Rattle.model.specs.Calls.{Call, packet, tick, commit, switch, interface_added, interface_removed, io_error, IoErrorKind}
use Rattle.lists.specs.Laws.Each.{Each}
use Rattle.model.specs.Laws.Calls.Says.{Bytes, NodeHeld}

-- ---- calls and boxes

abbrev pub TimeFits : HostTime → Type 0
TimeFits t = SFits w64 t.0

pub data CallFits : Call → Type 0 where
  packet_fits : {iface : ℕ} {from : SocketAddrPlain} {bytes : List ℕ} {now : HostTime} {buf_size : ℕ}
      → iface < 2 ^ 32 → AddrFits from → Bytes bytes → TimeFits now → buf_size < 2 ^ 64 → CallFits (packet iface from bytes now buf_size)
  tick_fits : {now : HostTime} {buf_size : ℕ} → TimeFits now → buf_size < 2 ^ 64 → CallFits (tick now buf_size)
  commit_fits : {s : SessionState} {now : HostTime} {buf_size : ℕ}
      → TimelineFits s.timeline → StartStopFits s.start_stop → TimeFits now → buf_size < 2 ^ 64 → CallFits (commit s now buf_size)
  switch_fits : {enabled : Bool} {now : HostTime} {buf_size : ℕ} → TimeFits now → buf_size < 2 ^ 64 → CallFits (switch enabled now buf_size)
  added_fits : {iface : ℕ} {addr : SocketAddrPlain} → iface < 2 ^ 32 → AddrFits addr → CallFits (interface_added iface addr)
  removed_fits : {iface : ℕ} → iface < 2 ^ 32 → CallFits (interface_removed iface)
  error_fits : {iface : ℕ} {error : IoErrorKind} → iface < 2 ^ 32 → CallFits (io_error iface error)

pub record SamplesFit (s : Samples) : Type 0 where
  pub offsets : Each (SFits w64) s.offsets
  pub ping_times : Each TimeFits s.ping_times

pub record PeerFits (p : Peer) : Type 0 where
  pub id : p.id.0 < 2 ^ 64
  pub session_id : NodeHeld p.session_id
  pub timeline : Each TimelineFits (timeline_list p.timeline_ghost)
  pub start_stop : Each StartStopFits (start_stop_list p.start_stop_ghost)
  pub last_seen : TimeFits p.last_seen
  pub addr : AddrFits p.addr
  pub samples : SamplesFit p.samples
  pub next_ping_time : TimeFits p.next_ping_time
  pub ping_timeouts : p.ping_timeouts ≤ 5

pub record InterfaceFits (i : Interface) : Type 0 where
  pub id : i.id < 2 ^ 32
  pub addr : AddrFits i.addr

-- the session's id fits where our node's does
pub record StateFits (e : Box) : Type 0 where
  pub session : e.node_id.0 < 2 ^ 64 → e.session_id.0 < 2 ^ 64
  pub offset : SFits w64 e.session_offset
  pub timeline : TimelineFits e.state.timeline
  pub start_stop : StartStopFits e.state.start_stop
  pub interfaces : Each InterfaceFits e.interfaces
  pub peers : Each PeerFits e.peers
  pub next_broadcast : TimeFits e.next_broadcast
