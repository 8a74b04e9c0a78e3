-- What a loop over a slice of an array with a count reads: the next of what is left.
use Rattle.std.specs.Prelude.{ℕ, min, ◌+◌, ◌<◌, ◌≤◌, ◌≡◌, List, [], ◌∷◌, map, length, take, drop, get_or}
use Rattle.std.proofs.Common.{◌∙◌, drop-cons, drop_of_length-le}
use Rattle.std.proofs.Math.Numerals.{add-one}
use Rattle.wire.specs.declared.SocketAddrPlain.{SocketAddrPlain}
use Rattle.interface_map.specs.declared.Interface.{Interface}
use Rattle.interface_map.specs.declared.Interfaces.{Interfaces}
use Rattle.interface_map.specs.Held.{interface, interfaces_of}
use Rattle.peer_walks.specs.Inner.Asked.{addrs_of}

module _ {A : Type 0} (xs : List A) (i : ℕ) where
  pub rest_none : length xs ≤ i → drop i xs ≡ []
  rest_none h = drop_of_length-le xs h

  pub rest_from : (d : A) → i < length xs → drop i xs ≡ get_or xs i d ∷ drop (i + 1) xs
  rest_from d h = drop-cons xs i d h ∙ rw add-one

-- the slice that is walked has the interfaces that are held
pub interfaces_listed : (x : Interfaces) (l : List Interface) → l ≡ take (min x.count 4) x.slots → interfaces_of x ≡ map interface l
unfolding interfaces_of
interfaces_listed x l e = rw e

-- and the one that is asked, the addresses
pub addrs_listed : (k n : ℕ) (a l : List SocketAddrPlain) → n ≡ min k 16 → l ≡ take n a → addrs_of k a ≡ l
unfolding addrs_of
addrs_listed k n a l e f = rw (f, e)
