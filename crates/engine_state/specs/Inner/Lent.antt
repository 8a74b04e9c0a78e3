-- The neighbours that lent tables hold.
use Rattle.std.specs.Prelude.{List}
use Rattle.model.specs.Peers.{Peer}
use Rattle.peer_table.specs.Rows.{peers_of}
use Rattle.engine_state.specs.declared.Neighbours.{Neighbours}

abbrev pub peers_held : Neighbours → List Peer
peers_held n = peers_of n.count n.words.now n.numbers.now
