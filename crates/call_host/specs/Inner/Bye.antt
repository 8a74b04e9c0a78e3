-- What is put out when the engine is switched off.
use Rattle.std.specs.Prelude.{ℕ, ◌≡◌, cond, List, [], ◌∷◌, ◌++◌, map, eqb}
use Rattle.wire.specs.declared.NodeId.{NodeId}
use Rattle.wire.specs.declared.SocketAddrPlain.{SocketAddrPlain}
use Rattle.wire.specs.Layout.{byebye_bytes}
use Rattle.model.specs.Peers.{Interface}
use Rattle.model.specs.Engine.{Output, send, num_peers_changed, multicast}
use Rattle.peer_walks.specs.Inner.Asked.{addrs_of}
use Rattle.answer.specs.declared.CallPlan.{CallPlan}
use Rattle.answer.specs.Inner.Planned.{call_of}

-- a bye on every interface, and the count where the reported one was not 0
abbrev pub bye : NodeId → ℕ → List Interface → List Output
bye node reported is = map (λ i. send i.id multicast (byebye_bytes node)) is ++ cond (eqb reported 0) [] (num_peers_changed 0 ∷ [])

-- of a plan, whatever addresses are lent beside it
abbrev pub SaysBye : CallPlan → NodeId → ℕ → Type 0
SaysBye o node reported = (asked : List SocketAddrPlain) (is : List Interface) (echo : List ℕ) → call_of o (addrs_of o.plan.asked asked) is echo ≡ bye node reported is
