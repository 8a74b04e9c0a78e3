-- The stages of upkeep under names of their own, for what is said of one of them.
use Rattle.std.specs.Prelude.{◌≡◌, refl}
use mathlib.Core.List.{List, ◌++◌, flat_map}
use Rattle.time.specs.declared.HostTime.{HostTime}
use Rattle.model.specs.Engine.{Box, Produced, Output, with_num_session_peers}
use Rattle.model.specs.Election.{resolve_if}
use Rattle.model.specs.Produce.{broadcasts, after_broadcast, pings, after_pings, lapse, lapses, next_timer, timer_outputs, session_peers, count_outputs, upkeep}

-- after the broadcast and the pings
unfoldable pub polled : HostTime → Box → Box
polled now e = after_pings now (after_broadcast now e)

-- after some have gone, and the election that follows
unfoldable pub settled : HostTime → Box → Produced
settled now e = resolve_if (lapses now (polled now e)) now (lapse now (polled now e))

unfoldable pub timer : HostTime → Box → HostTime
timer now e = next_timer (polled now e).next_broadcast (polled now e).peers (settled now e).box.peers

unfoldable pub upkeep_outputs : HostTime → Box → List Output
upkeep_outputs now e =
    broadcasts now e
    ++ (flat_map (pings now e.interfaces) e.peers
    ++ ((settled now e).outputs
    ++ (timer_outputs (timer now e)
    ++ count_outputs (settled now e).box)))

unfoldable pub upkeep_box : HostTime → Box → Box
upkeep_box now e = with_num_session_peers (session_peers (settled now e).box) (settled now e).box

pub upkeep_is : (now : HostTime) (e : Box) → upkeep now e ≡ record { box = upkeep_box now e; outputs = upkeep_outputs now e }
unfolding upkeep upkeep_box upkeep_outputs timer settled polled
upkeep_is now e = refl
