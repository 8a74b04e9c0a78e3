-- The ping times that are kept beside the samples: none stands twice, and each is of the pong that gave the sample in its place.
-- The definitions; the theorems stand in proofs/Laws/Clerk/PingTimes.
use Rattle.std.specs.Prelude.{ℕ, ◌≡◌, ℤ}
use mathlib.Core.List.{List, Memᴰ}
use Rattle.time.specs.declared.HostTime.{HostTime}
use Rattle.wire.specs.declared.SocketAddrPlain.{SocketAddrPlain}
use Rattle.wire.specs.Parse.{parse}
use Rattle.model.specs.Packet.{PongMsg, sample_of}
use Rattle.model.specs.Calls.{Call, packet}
use Rattle.model.specs.Laws.Calls.Messages.{pong_said}

-- ---- each is of the pong that gave the sample

-- A packet among these calls is a pong to a ping of this time and gives, heard when it came, this sample.
pub record FromPong (cs : List Call) (offset : ℤ) (ping_time : HostTime) : Type 0 where
  pub iface : ℕ
  pub from : SocketAddrPlain
  pub bytes : List ℕ
  pub now : HostTime
  pub buf_size : ℕ
  pub message : PongMsg
  pub called : Memᴰ (packet iface from bytes now buf_size) cs
  pub says : parse bytes ≡ pong_said message
  pub answers : message.ping_host_time ≡ ping_time
  pub gives : sample_of message now ≡ offset
