-- The outputs that the values of the private functions stand for: one or none, and one on each interface.
use Rattle.std.specs.Prelude.{ℕ, false, List, [], ◌∷◌, Option, Some, None}
use Rattle.wire.specs.Layout.{byebye_bytes, ping_bytes}
use Rattle.model.specs.Peers.{Interface}
use Rattle.model.specs.Engine.{send, multicast, our_alive}
use Rattle.model.specs.Engine as engine
use Rattle.output.specs.declared.Output.{Output}
use Rattle.output.specs.Inner.Outputs.{output_of}
use Rattle.engine_state.specs.Inner.OwnBox.{own_box}
use Rattle.answer.specs.declared.spread.Spread.{Spread}
use Rattle.answer.specs.declared.spread.Spread.TheVariants as spread

-- with what a pong echoes
unfoldable pub maybe_outputs : List ℕ → Option Output → List engine.Output
maybe_outputs echo (Some o) = output_of echo o ∷ []
maybe_outputs echo None = []

unfoldable pub spread_output : Spread → Interface → engine.Output
spread_output (spread.Alive own) i = send i.id multicast (our_alive (own_box own []) (Some i.addr) false)
spread_output (spread.ByeBye node) i = send i.id multicast (byebye_bytes node)
spread_output (spread.Ping to time) i = send i.id to (ping_bytes time None)
