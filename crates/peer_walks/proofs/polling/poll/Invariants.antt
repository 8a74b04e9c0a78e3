-- What is changed and noted so far, and what is left, make the whole.
use Rattle.std.specs.Prelude.{◌≡◌, min, map}
use Rattle.wire.specs.declared.SocketAddrPlain.{SocketAddrPlain}
use Rattle.model.specs.Peers.{Peer}
use Rattle.model.specs.Produce.{after_ping, asks}
use Rattle.peer_table.specs.Rows.{peer_at, peers_of}
use Rattle.peer_walks.specs.Inner.Asked.{asked}
use Rattle.peer_walks.specs.Laws.Polling.{Polling}
use Rattle.peer_walks.proofs.polling.poll.Given as goal

abbrev pub addr : Peer → SocketAddrPlain
addr p = p.addr

abbrev pub invariant-loop-i : goal.invariant-loop-i
invariant-loop-i l =
    (l.n ≡ min l.count 16)
    × Polling (after_ping l.at) (asks l.at) addr l.n (map (after_ping l.at) (peers_of l.count l.fn.words l.fn.numbers)) (asked l.at (peers_of l.count l.fn.words l.fn.numbers)) (peer_at l.words l.numbers) l.to l.k l.i
