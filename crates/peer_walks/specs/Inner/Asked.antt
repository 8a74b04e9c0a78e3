-- To whom the pings of a call go out.
use Rattle.std.specs.Prelude.{ℕ, min, List, map, take}
use Rattle.time.specs.declared.HostTime.{HostTime}
use Rattle.wire.specs.declared.SocketAddrPlain.{SocketAddrPlain}
use Rattle.lists.specs.Lists.{keep}
use Rattle.model.specs.Peers.{Peer}
use Rattle.model.specs.Produce.{asks}

-- the addresses to which one goes out
unfoldable pub asked : HostTime → List Peer → List SocketAddrPlain
asked now ps = map (λ p. p.addr) (keep (asks now) ps)

-- the addresses that are held
unfoldable pub addrs_of : ℕ → List SocketAddrPlain → List SocketAddrPlain
addrs_of k a = take (min k 16) a
