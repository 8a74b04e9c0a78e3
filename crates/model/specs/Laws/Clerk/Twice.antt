-- Two announcements of one node.
-- The definitions; the theorems stand in proofs/Laws/Clerk/Twice.
use Rattle.std.specs.Prelude.{ℕ, ◌≤◌, ◌≡◌, true, length}
use mathlib.Core.List.{List}
use Rattle.time.specs.declared.HostTime.{HostTime}
use Rattle.wire.specs.declared.SocketAddrPlain.{SocketAddrPlain}
use Rattle.wire.specs.Parse.{parse}
use Rattle.model.specs.Engine.{Box}
use Rattle.model.specs.Packet.{handle_message}
use Rattle.model.specs.Calls.{hears}
use Rattle.model.specs.Laws.Calls.Messages.{arrived}
use Rattle.model.specs.Laws.Calls.Course.{Admitted}
use Rattle.model.specs.Laws.Clerk.Neighbours.{upkept}

-- ---- a packet that is accepted is ignored, or taken

pub record Taken (e : Box) (iface : ℕ) (from : SocketAddrPlain) (bytes : List ℕ) (now : HostTime) (buf_size : ℕ) (e' : Box) : Type 0 where
  pub admitted : Admitted now buf_size
  pub short : length bytes ≤ 512
  pub hears : hears e (parse bytes) ≡ true
  pub peers : e'.peers ≡ upkept now (handle_message e (arrived iface from now) bytes (parse bytes)).box.peers
  pub enabled : e'.enabled ≡ e.enabled
  pub node : e'.node_id ≡ e.node_id
