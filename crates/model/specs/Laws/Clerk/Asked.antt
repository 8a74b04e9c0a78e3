-- How often a neighbour is asked, in packets: the tally of `Silent` counts those that `Pings` finds among the outputs.
-- The definitions; the theorems stand in proofs/Laws/Clerk/Asked.
use mathlib.Core.List.{List, [], ◌∷◌, ◌++◌, map}
use Rattle.wire.specs.declared.NodeId.{NodeId}
use Rattle.lists.specs.Lists.{keep, has_key}
use Rattle.model.specs.Peers.{Peer, Interface, peer_key}
use Rattle.model.specs.Engine.{Box, Output}
use Rattle.model.specs.Calls.{Call, next, step}
use Rattle.model.specs.Laws.Clerk.Neighbours.{call_time}
use Rattle.model.specs.Laws.Clerk.Pings.{ask, asked_ones}

-- the neighbour n among those that a call asks
abbrev pub asked_as : NodeId → Box → Call → List Peer
asked_as n e c = keep (has_key peer_key n.0) (asked_ones e c)

-- ---- any list of calls

-- What calls send to the neighbour n on interface i: of each call's asks on it (`asks_sent_on`), those that are made for n. They are told apart by the list
-- of those asked, not by address: two neighbours at one address are each sent their own (`asks_sent_at`).
unfoldable pub asks_to : NodeId → Interface → Box → List Call → List Output
asks_to n i e [] = []
asks_to n i e (c ∷ cs) = map (λ p. ask (call_time c) p i) (asked_as n e c) ++ asks_to n i (next e (step e c)) cs
