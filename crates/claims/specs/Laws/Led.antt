-- What is held after a list of calls made on the code's engine is the definition's run. So every theorem over runs speaks of the engine.
use Rattle.std.specs.Prelude.{◌≡◌, refl, List}
use Rattle.std.proofs.Common.{ap, ◌∙◌}
use Rattle.wire.specs.declared.NodeId.{NodeId}
use Rattle.model.specs.Engine.{Box, new}
use Rattle.model.specs.Calls.{Call, run}
use Rattle.engine_state.specs.declared.Engine.{Engine}
use Rattle.engine_state.specs.Held.{held}
use Rattle.claims.specs.Host.{Led, led_on, call}

pub led_run : (e : Engine) (cs : List Call) (last : Engine) → Led e cs last → held last ≡ run (held e) cs
unfolding run
led_run e _ _ (led_on _) = refl
led_run e _ last (call _ c r says lent cs _ rest) = led_run r.engine cs last rest ∙ ap (λ (b : Box). run b cs) says.engine_is

-- from an engine that was made new
pub new_run : (n : NodeId) (e : Engine) (cs : List Call) (last : Engine) → held e ≡ new n → Led e cs last → held last ≡ run (new n) cs
new_run n e cs last made led = led_run e cs last led ∙ ap (λ (b : Box). run b cs) made
