-- One address a turn.
use Rattle.std.specs.Prelude.{◌≡◌, ◌<◌, List, ◌++◌, ◌+◌, ℕ, map, take, drop, length, get_or, refl}
use Rattle.std.proofs.Common.{ap, subst}
use mathlib.Core.List.{flat_map}
use Rattle.time.specs.declared.HostTime.{HostTime}
use Rattle.wire.specs.declared.SocketAddrPlain.{SocketAddrPlain}
use Rattle.model.specs.Peers.{Interface}
use Rattle.model.specs.Engine.{Output}
use Rattle.interface_map.specs.Held.{interfaces_of}
use Rattle.peer_walks.specs.Inner.Asked.{addrs_of}
use Rattle.answer.specs.declared.spread.Spread.TheVariants.{Ping}
use Rattle.answer.specs.Inner.Planned.{ping_outputs}
use Rattle.answer.specs.Inner.Values.{spread_output}
use Rattle.answer.specs.Laws.Runs.{Left, all_left, room_for, then_left, done_laid}
use Rattle.answer.specs.Laws.Arrays.{rest_none, rest_from, addrs_listed}
use Rattle.answer.proofs.spread.write_pings.Goals as goal

abbrev nowhere : SocketAddrPlain
nowhere = record { ip = 0; port = 0 }

module _ (t : HostTime) (is : List Interface) (xs : List SocketAddrPlain) (i : ℕ) where
  abbrev here : List Output
  here = map (spread_output (Ping (get_or xs i nowhere) t)) is

  abbrev rest : List Output
  rest = ping_outputs t is (drop (i + 1) xs)

  next : i < length xs → ping_outputs t is (drop i xs) ≡ here ++ rest
  unfolding ping_outputs flat_map spread_output
  next h = ap (ping_outputs t is) (rest_from xs i nowhere h)

pub loop-to-init : goal.loop-to-init
loop-to-init c =
    let a = c.args in
    let is = interfaces_of a.interfaces in
    let all = ping_outputs a.host_time is (addrs_of a.count a.asked.now) in
    subst (λ (l : List SocketAddrPlain). Left a.start all a.buf.now a.start (ping_outputs a.host_time is l) a.buf.now)
    (addrs_listed a.count c.held-n.result a.asked.now (take c.held-n.result a.asked.now) c.held-n.ensures refl) (all_left c.requires)

pub write_everywhere-c-requires : goal.write_everywhere-c-requires
write_everywhere-c-requires c =
    let a = c.args in
    let is = interfaces_of a.interfaces in
    let xs = take c.held-n.result a.asked.now in
    let i = c.loop-to.to-index in
    room_for c.loop-to.invariant (here a.host_time is xs i) (rest a.host_time is xs i) (next a.host_time is xs i c.loop-to-test.true)

pub loop-to-preserved : goal.loop-to-preserved
loop-to-preserved c =
    let a = c.args in
    let is = interfaces_of a.interfaces in
    let xs = take c.held-n.result a.asked.now in
    let i = c.loop-to.to-index in
    then_left c.loop-to.invariant (here a.host_time is xs i) (rest a.host_time is xs i) (next a.host_time is xs i c.loop-to-test.true) c.write_everywhere-c.ensures

pub returns : goal.returns
unfolding ping_outputs flat_map
returns c =
    let a = c.args in
    done_laid c.loop-to.invariant (ap (ping_outputs a.host_time (interfaces_of a.interfaces)) (rest_none (take c.held-n.result a.asked.now) c.loop-to.to-index c.loop-to-test.false))
