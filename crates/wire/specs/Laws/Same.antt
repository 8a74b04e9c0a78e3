-- Two ways to ask whether an optional id is a certain one.
use Rattle.std.specs.Prelude.{◌≡◌, refl, Option, Some, None}
use Rattle.wire.specs.declared.NodeId.{NodeId}
use Rattle.wire.specs.Same.{is_node, same_maybe_node}

pub node_is : (s : NodeId) (m : Option NodeId) → is_node s m ≡ same_maybe_node m (Some s)
unfolding same_maybe_node
node_is s None = refl
node_is s (Some n) = refl
