-- The Rust's tests `==` of ids, addresses and optional values.
use Rattle.std.specs.Prelude.{Bool, true, false, ◌&&◌, eqb, Option, Some, None}
use Rattle.timeline.specs.Same.{same_timeline, same_start_stop}
use Rattle.wire.specs.declared.NodeId.{NodeId}
use Rattle.wire.specs.declared.SocketAddrPlain.{SocketAddrPlain}
use Rattle.timeline.specs.declared.Timeline.{Timeline}
use Rattle.timeline.specs.declared.StartStopState.{StartStopState}

abbrev pub same_node : NodeId → NodeId → Bool
same_node a b = eqb a.0 b.0

abbrev pub same_addr : SocketAddrPlain → SocketAddrPlain → Bool
same_addr a b = eqb a.ip b.ip && eqb a.port b.port

-- ---- of optional values

-- whether it is there and is this one
abbrev pub is_node : NodeId → Option NodeId → Bool
is_node s None = false
is_node s (Some n) = same_node n s

unfoldable pub same_maybe_node : Option NodeId → Option NodeId → Bool
same_maybe_node None None = true
same_maybe_node None (Some b) = false
same_maybe_node (Some a) None = false
same_maybe_node (Some a) (Some b) = same_node a b

unfoldable pub same_maybe_timeline : Option Timeline → Option Timeline → Bool
same_maybe_timeline None None = true
same_maybe_timeline None (Some b) = false
same_maybe_timeline (Some a) None = false
same_maybe_timeline (Some a) (Some b) = same_timeline a b

unfoldable pub same_maybe_start_stop : Option StartStopState → Option StartStopState → Bool
same_maybe_start_stop None None = true
same_maybe_start_stop None (Some b) = false
same_maybe_start_stop (Some a) None = false
same_maybe_start_stop (Some a) (Some b) = same_start_stop a b
