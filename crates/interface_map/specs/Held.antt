-- The list of the definition that the array stands for. The places of `slots` from `count` on are free.
use Rattle.std.specs.Prelude.{min, List, map, take}
use Rattle.model.specs.Peers.{Interface}
use Rattle.interface_map.specs.declared.Interfaces.{Interfaces}
use Rattle.interface_map.specs.declared.Interface as declared

unfoldable pub interface : declared.Interface → Interface
interface i = record { id = i.id.0; addr = i.addr }

-- the interfaces that are held, in their order
unfoldable pub interfaces_of : Interfaces → List Interface
interfaces_of i = map interface (take (min i.count 4) i.slots)
