-- What Link's documentation says of being heard: once enabled an instance announces itself, and a committed change goes to the others. Both go out in the
-- call itself, on every interface, as a bye does.
-- The definitions; the theorems stand in proofs/Laws/Link/Announces.
use Rattle.std.specs.Prelude.{Some}
use Rattle.std.proofs.Math.Bool.{false}
use Rattle.wire.specs.Layout.{byebye_bytes}
use Rattle.model.specs.Peers.{Interface}
use Rattle.model.specs.Engine.{Box, Output, send, multicast, our_alive}

-- box e's alive, to all on interface i
abbrev pub announcement : Box → Interface → Output
announcement e i = send i.id multicast (our_alive e (Some i.addr) false)

-- box e's bye, to all on interface i
abbrev pub farewell : Box → Interface → Output
farewell e i = send i.id multicast (byebye_bytes e.node_id)
