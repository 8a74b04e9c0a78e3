-- One interface a turn.
use Rattle.std.specs.Prelude.{◌≡◌, ◌<◌, List, [], ◌∷◌, ◌+◌, ℕ, map, take, drop, length, get_or, min}
use Rattle.std.proofs.Common.{ap, subst, ◌∙◌, arith}
use Rattle.model.specs.Engine.{Output}
use Rattle.interface_map.specs.declared.Interface.{Interface}
use Rattle.interface_map.specs.declared.Interfaces.{Interfaces}
use Rattle.interface_map.specs.Held.{interface, interfaces_of}
use Rattle.answer.specs.declared.spread.Spread.{Spread}
use Rattle.answer.specs.Inner.Values.{spread_output}
use Rattle.answer.specs.Laws.Runs.{Left, all_left, room_for, then_left, done_laid}
use Rattle.answer.specs.Laws.Arrays.{rest_none, rest_from, interfaces_listed}
use Rattle.answer.proofs.spread.write_everywhere.Goals as goal

abbrev none : Interface
none = record { id = record { 0 = 0 }; addr = record { ip = 0; port = 0 } }

module _ (s : Spread) (xs : List Interface) (i : ℕ) where
  abbrev here : List Output
  here = spread_output s (interface (get_or xs i none)) ∷ []

  abbrev rest : List Output
  rest = map (spread_output s) (map interface (drop (i + 1) xs))

  next : i < length xs → map (spread_output s) (map interface (drop i xs)) ≡ spread_output s (interface (get_or xs i none)) ∷ rest
  next h = ap (λ (l : List Interface). map (spread_output s) (map interface l)) (rest_from xs i none h)

-- the slice that is walked has all interfaces that are held, since none of them is left out of its count
listed : (is : Interfaces) (n : ℕ) (l : List Interface) → l ≡ take (min n 4) is.slots → n ≡ is.count → interfaces_of is ≡ map interface l
listed is n l h e = interfaces_listed is l (h ∙ ap (λ (k : ℕ). take (min k 4) is.slots) e)

pub loop-x-init : goal.loop-x-init
loop-x-init c =
    let a = c.args in
    let all = map (spread_output a.spread) (interfaces_of a.interfaces) in
    subst (λ (l : _). Left a.start all a.buf.now a.start (map (spread_output a.spread) l) a.buf.now) (listed a.interfaces _ _ c.list-x-items.ensures (omega arith)) (all_left c.requires)

pub write_output-c-requires : goal.write_output-c-requires
write_output-c-requires c =
    let xs = c.list-x-items.result.now in
    let i = c.loop-x.x-index in
    rw c.empty-echo.ensures (rw c.output.ensures (room_for c.loop-x.invariant (here c.args.spread xs i) (rest c.args.spread xs i) (next c.args.spread xs i c.loop-x-test.true)))

pub loop-x-preserved : goal.loop-x-preserved
loop-x-preserved c =
    let xs = c.list-x-items.result.now in
    let i = c.loop-x.x-index in
    then_left c.loop-x.invariant (here c.args.spread xs i) (rest c.args.spread xs i) (next c.args.spread xs i c.loop-x-test.true)
    (rw c.output.ensures at (rw c.empty-echo.ensures at c.write_output-c.ensures))

pub returns : goal.returns
returns c =
    let s = c.args.spread in
    done_laid c.loop-x.invariant (ap (λ (l : List Interface). map (spread_output s) (map interface l)) (rest_none c.list-x-items.result.now c.loop-x.x-index c.loop-x-test.false))
