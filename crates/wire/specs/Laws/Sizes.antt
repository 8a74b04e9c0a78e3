-- How many bytes each packet has.
use Rattle.std.specs.Prelude.{ℕ, ◌+◌, Bool, List, ◌≡◌, refl, length, Option, Some, None}
use native.Mathlib.Omega.{arith}
use Rattle.big_endian.specs.Bytes.{bytes}
use Rattle.time.specs.declared.HostTime.{HostTime}
use Rattle.timeline.specs.declared.Timeline.{Timeline}
use Rattle.timeline.specs.declared.StartStopState.{StartStopState}
use Rattle.wire.specs.declared.NodeId.{NodeId}
use Rattle.wire.specs.declared.SocketAddrPlain.{SocketAddrPlain}
use Rattle.wire.specs.Layout.{entry, timeline_bytes, start_stop_bytes, addr_bytes, mep4_entry, pgt_entry, discovery_head, alive_bytes, byebye_bytes, measurement_head, ping_bytes, pong_bytes}

-- the entries that may be absent
pub mep4_14 : (a : SocketAddrPlain) → length (mep4_entry (Some a)) ≡ 14
unfolding mep4_entry entry addr_bytes bytes
mep4_14 a = refl

pub pgt_16 : (t : HostTime) → length (pgt_entry (Some t)) ≡ 16
unfolding pgt_entry entry bytes
pgt_16 t = refl

pub byebye_20 : (node : NodeId) → length (byebye_bytes node) ≡ 20
unfolding byebye_bytes discovery_head bytes
byebye_20 node = refl

module _ (node session : NodeId) (line : Timeline) (state : StartStopState) (response : Bool) where
  -- with an address or without
  pub alive_size : (addr : Option SocketAddrPlain) → length (alive_bytes node session line state addr response) ≡ 93 + length (mep4_entry addr)
  unfolding alive_bytes discovery_head entry timeline_bytes start_stop_bytes bytes
  alive_size addr = omega arith

  pub alive_93 : length (alive_bytes node session line state None response) ≡ 93
  unfolding mep4_entry
  alive_93 = alive_size None

  pub alive_107 : (a : SocketAddrPlain) → length (alive_bytes node session line state (Some a) response) ≡ 107
  alive_107 a = omega (arith, alive_size (Some a), mep4_14 a)

module _ (time : HostTime) where
  -- with a previous shared time or without
  pub ping_size : (prev : Option HostTime) → length (ping_bytes time prev) ≡ 25 + length (pgt_entry prev)
  unfolding ping_bytes measurement_head entry bytes
  ping_size prev = omega arith

  pub ping_25 : length (ping_bytes time None) ≡ 25
  unfolding pgt_entry
  ping_25 = ping_size None

  pub ping_41 : (t : HostTime) → length (ping_bytes time (Some t)) ≡ 41
  ping_41 t = omega (arith, ping_size (Some t), pgt_16 t)

pub pong_size : (session : NodeId) (ghost : HostTime) (echo : List ℕ) → length (pong_bytes session ghost echo) ≡ 41 + length echo
unfolding pong_bytes measurement_head entry bytes
pong_size session ghost echo = omega arith
