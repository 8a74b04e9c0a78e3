-- What the derived `==` of ids, addresses and optional values says: the tests of `specs/Same`.
use Rattle.std.proofs.Common.{◌≡◌, refl}
use Rattle.std.specs.Prelude.{Option, Some, None}
use Rattle.std.specs.Option.{option_eq}
use Rattle.timeline.proofs.Comparisons.{timeline_is, start_stop_is}
use Rattle.wire.specs.Same.{same_node, same_addr, same_maybe_node, same_maybe_timeline, same_maybe_start_stop}
use Rattle.wire.specs.declared.NodeId.{NodeId}
use Rattle.wire.specs.declared.SocketAddrPlain.{SocketAddrPlain}
use Rattle.timeline.specs.declared.Timeline.{Timeline}
use Rattle.timeline.specs.declared.StartStopState.{StartStopState}
use Rattle.timeline.specs.contracts.TimelinePartialEq.TheImpl as line
use Rattle.timeline.specs.contracts.StartStopStatePartialEq.TheImpl as start_stop
use Rattle.wire.specs.contracts.NodeIdPartialEq.TheImpl as node
use Rattle.wire.specs.contracts.SocketAddrPlainPartialEq.TheImpl as addr

pub node_is : (a b : NodeId) → node.eq-value.it a b ≡ same_node a b
node_is a b = refl

pub addr_is : (a b : SocketAddrPlain) → addr.eq-value.it a b ≡ same_addr a b
addr_is a b = refl

-- ---- of optional values

pub maybe_node_is : (a b : Option NodeId) → option_eq node.eq-value.it a b ≡ same_maybe_node a b
unfolding same_maybe_node
maybe_node_is None None = refl
maybe_node_is None (Some b) = refl
maybe_node_is (Some a) None = refl
maybe_node_is (Some a) (Some b) = node_is a b

pub maybe_timeline_is : (a b : Option Timeline) → option_eq line.eq-value.it a b ≡ same_maybe_timeline a b
unfolding same_maybe_timeline
maybe_timeline_is None None = refl
maybe_timeline_is None (Some b) = refl
maybe_timeline_is (Some a) None = refl
maybe_timeline_is (Some a) (Some b) = timeline_is a b

pub maybe_start_stop_is : (a b : Option StartStopState) → option_eq start_stop.eq-value.it a b ≡ same_maybe_start_stop a b
unfolding same_maybe_start_stop
maybe_start_stop_is None None = refl
maybe_start_stop_is None (Some b) = refl
maybe_start_stop_is (Some a) None = refl
maybe_start_stop_is (Some a) (Some b) = start_stop_is a b
