-- The pings of a call go to the addresses that a poll asks.
use Rattle.std.specs.Prelude.{◌≡◌, refl, Bool, true, false, cond, None}
use Rattle.std.proofs.Common.{ap, ◌∙◌}
use mathlib.Core.List.{List, [], ◌∷◌, ◌++◌, map, flat_map}
use Rattle.time.specs.declared.HostTime.{HostTime}
use Rattle.wire.specs.declared.SocketAddrPlain.{SocketAddrPlain}
use Rattle.wire.specs.Layout.{ping_bytes}
use Rattle.lists.specs.Lists.{keep}
use Rattle.model.specs.Peers.{Peer, Interface}
use Rattle.model.specs.Engine.{Output, send}
use Rattle.model.specs.Produce.{pings, asks}
use Rattle.peer_walks.specs.Inner.Asked.{asked}
use Rattle.answer.specs.Inner.Planned.{ping_outputs}

-- those of the first stand in front, where it is kept
front : {A B C : Type 0} (f : B → List C) (g : A → B) (b : Bool) (x : A) (xs : List A) → cond b (f (g x)) [] ++ flat_map f (map g xs) ≡ flat_map f (map g (cond b (x ∷ xs) xs))
unfolding flat_map
front f g true x xs = refl
front f g false x xs = refl

abbrev to_each : HostTime → List Interface → SocketAddrPlain → List Output
to_each now is a = map (λ i. send i.id a (ping_bytes now None)) is

pub pings_asked : (now : HostTime) (is : List Interface) (ps : List Peer) → flat_map (pings now is) ps ≡ ping_outputs now is (asked now ps)
unfolding flat_map pings ping_outputs asked keep
pings_asked now is [] = refl
pings_asked now is (p ∷ ps) =
    ap (λ (l : List Output). cond (asks now p) (to_each now is p.addr) [] ++ l) (pings_asked now is ps)
    ∙ front (to_each now is) (λ q. q.addr) (asks now p) p (keep (asks now) ps)
