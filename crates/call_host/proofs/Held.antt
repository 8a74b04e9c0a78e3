-- An interface is held where it has a place.
use Rattle.std.specs.Prelude.{ℕ, ◌≡◌, Bool, List, Option, Some, None, is_some}
use Rattle.std.proofs.Common.{ap, refl}
use Rattle.lists.specs.Lists.{found, first}
use Rattle.lists.specs.Inner.Places.{place_of}
use Rattle.lists.specs.Laws.Found.{first_at, missing}
use Rattle.model.specs.Peers.{Interface}

pub found_place : (t : Interface → Bool) (is : List Interface) → found (first t is) ≡ is_some (place_of t is)
found_place t is = by_place (place_of t is) refl
  where
    by_place : (p : Option ℕ) → place_of t is ≡ p → found (first t is) ≡ is_some p
    by_place None h = ap found (missing t is h).is
    by_place (Some i) h = ap found ((first_at t is i h).is (record { id = 0; addr = record { ip = 0; port = 0 } }))
