-- Where the engine parts from the papers or from what the source says of itself, run on the Rust and stated of the definitions: `tests/examples` writes this
-- file.
use Rattle.std.specs.Prelude.{◌≡◌, refl, List, [], ◌∷◌, true, false, ◌++◌, map, pos, negsuc}
use Rattle.wire.specs.Layout.{byebye_bytes}
use Rattle.model.specs.Engine.{new}
use Rattle.model.specs.Calls.{Call}
use Rattle.model.specs.Answer.{kind}
use Rattle.model.specs.Laws.Tools.Open.{everything}
use Rattle.model.specs.Laws.Tools.Scenes.{at, node, line, start_stop, state, announces, in_session, with_line, pong, pong_after, ticks, placed, on_at, commits_at, hears_at, node_led, last_outputs, states, timers}

-- The source quotes a hard floor of 50 ms between broadcasts. Commits at 0 and at 1 both broadcast.
abbrev no_broadcast_floor_calls_1 : List Call
no_broadcast_floor_calls_1 =
    placed
    ∷ on_at 0
    ∷ commits_at (line (pos 500000) (pos 1) (pos 0)) (start_stop false (pos 0) (pos 0)) 0
    ∷ []

abbrev no_broadcast_floor_calls_2 : List Call
no_broadcast_floor_calls_2 =
    placed
    ∷ on_at 0
    ∷ commits_at (line (pos 500000) (pos 1) (pos 0)) (start_stop false (pos 0) (pos 0)) 0
    ∷ commits_at (line (pos 500000) (pos 2) (pos 0)) (start_stop false (pos 0) (pos 0)) 1
    ∷ []

pub no_broadcast_floor :
    (map kind (last_outputs (new (node 1)) no_broadcast_floor_calls_1) ≡ (2 ∷ 1 ∷ 4 ∷ []))
    × (map kind (last_outputs (new (node 1)) no_broadcast_floor_calls_2) ≡ (2 ∷ 1 ∷ 4 ∷ []))
unfolding everything
no_broadcast_floor = (refl, refl)

-- The source means to broadcast as soon as possible after an election. One that upkeep holds comes after its broadcast: a broadcast is then due at once, and
-- the timer does not count it.
abbrev broadcast_after_upkeep_calls : List Call
broadcast_after_upkeep_calls =
    placed
    ∷ on_at 0
    ∷ hears_at 2 (announces 2 ([])) 0
    ∷ hears_at 3 (announces 3 (in_session 1 ++ with_line (line (pos 1000000) (pos 1) (pos 0)))) 1000000
    ∷ ticks 6000001
    ∷ []

pub broadcast_after_upkeep :
    (map kind (last_outputs (new (node 1)) broadcast_after_upkeep_calls) ≡ (1 ∷ 1 ∷ 1 ∷ 2 ∷ 4 ∷ []))
    × (states (last_outputs (new (node 1)) broadcast_after_upkeep_calls) ≡ ((state (line (pos 1000000) (pos 1) (pos 0)) (start_stop false (pos 0) (pos 0))) ∷ []))
    × ((node_led 1 broadcast_after_upkeep_calls).next_broadcast.0 ≡ (pos 6000001))
    × (timers (last_outputs (new (node 1)) broadcast_after_upkeep_calls) ≡ ((pos 6050001) ∷ []))
unfolding everything
broadcast_after_upkeep = (refl, refl, refl, refl)

-- A session that is behind by more than 500,000 is to lose, and an offset that differs by more than 500 to be readopted. The size of the smallest number wraps
-- to itself, so that it counts as within both; that of 1 more does not.
abbrev smallest_within_calls_1 : List Call
smallest_within_calls_1 =
    on_at 0
    ∷ hears_at 2 (announces 2 (in_session 0)) 0
    ∷ hears_at 2 (pong 0 (negsuc 9223372036854775807) (pos 0)) 0
    ∷ []

abbrev smallest_within_calls_2 : List Call
smallest_within_calls_2 =
    on_at 0
    ∷ hears_at 2 (announces 2 (in_session 0)) 0
    ∷ hears_at 2 (pong 0 (negsuc 9223372036854775806) (pos 0)) 0
    ∷ []

abbrev smallest_within_calls_3 : List Call
smallest_within_calls_3 =
    on_at 0
    ∷ hears_at 2 (announces 2 (in_session 0)) 0
    ∷ hears_at 2 (pong 0 (pos 0) (pos 0)) 0
    ∷ hears_at 3 (announces 3 (in_session 0)) 0
    ∷ hears_at 3 (pong 0 (negsuc 9223372036854775807) (pos 0)) 0
    ∷ []

abbrev smallest_within_calls_4 : List Call
smallest_within_calls_4 =
    on_at 0
    ∷ hears_at 2 (announces 2 (in_session 0)) 0
    ∷ hears_at 2 (pong 0 (pos 0) (pos 0)) 0
    ∷ hears_at 3 (announces 3 (in_session 0)) 0
    ∷ hears_at 3 (pong 0 (negsuc 9223372036854775806) (pos 0)) 0
    ∷ []

pub smallest_within :
    ((node_led 1 smallest_within_calls_1).session_id.0 ≡ 0)
    × ((node_led 1 smallest_within_calls_2).session_id.0 ≡ 1)
    × ((node_led 1 smallest_within_calls_3).session_offset ≡ (pos 0))
    × ((node_led 1 smallest_within_calls_4).session_offset ≡ (negsuc 9223372036854775806))
unfolding everything
smallest_within = (refl, refl, refl, refl)

-- Wins are to move the comparison. A readopted offset does so in the same election too: session 3 is ahead of ours by 500,001 and wins, and loses where node 2
-- of our session has a new offset of 501.
abbrev readopted_moves_comparison_calls_1 : List Call
readopted_moves_comparison_calls_1 =
    on_at 0
    ∷ hears_at 2 (announces 2 (in_session 0)) 0
    ∷ hears_at 2 (pong 0 (pos 0) (pos 0)) 0
    ∷ hears_at 3 (announces 3 (in_session 3)) 0
    ∷ hears_at 3 (pong 3 (pos 500001) (pos 0)) 0
    ∷ []

abbrev readopted_moves_comparison_calls_2 : List Call
readopted_moves_comparison_calls_2 =
    on_at 0
    ∷ hears_at 2 (announces 2 (in_session 0)) 0
    ∷ hears_at 2 (pong 0 (pos 0) (pos 0)) 0
    ∷ hears_at 2 (pong 0 (pos 502) (pos 2)) 0
    ∷ hears_at 3 (announces 3 (in_session 3)) 0
    ∷ hears_at 3 (pong 3 (pos 500001) (pos 0)) 0
    ∷ []

pub readopted_moves_comparison :
    ((node_led 1 readopted_moves_comparison_calls_1).session_id.0 ≡ 3)
    × ((node_led 1 readopted_moves_comparison_calls_2).session_id.0 ≡ 0)
unfolding everything
readopted_moves_comparison = (refl, refl)

-- An offset is to be readopted in the same session. That is the best one so far, also where it has only just won: session 0 wins by node 2 with the offset 0,
-- and node 3 of that session gives it 501.
abbrev won_readopted_calls : List Call
won_readopted_calls =
    on_at 0
    ∷ hears_at 2 (announces 2 (in_session 0)) 0
    ∷ hears_at 2 (pong 0 (negsuc 600000) (pos 0)) 0
    ∷ hears_at 3 (announces 3 (in_session 0)) 0
    ∷ hears_at 3 (pong 0 (negsuc 600000) (pos 0)) 0
    ∷ hears_at 2 (pong 0 (pos 1) (pos 2)) 0
    ∷ hears_at 2 (pong 0 (pos 2) (pos 4)) 0
    ∷ hears_at 3 (pong 0 (pos 502) (pos 2)) 0
    ∷ hears_at 3 (pong 0 (pos 503) (pos 4)) 0
    ∷ hears_at 9 (announces 9 ([])) 0
    ∷ hears_at 9 (byebye_bytes (node 9)) 0
    ∷ []

pub won_readopted :
    ((node_led 1 won_readopted_calls).session_id.0 ≡ 0)
    × ((node_led 1 won_readopted_calls).session_offset ≡ (pos 501))
unfolding everything
won_readopted = (refl, refl)

-- In the session of our own node's id no offset is to be readopted. One that leaves it and wins back in the same election brings its offset along.
abbrev won_back_calls : List Call
won_back_calls =
    on_at 0
    ∷ hears_at 3 (announces 3 (in_session 9)) 0
    ∷ hears_at 3 (pong 9 (pos 7) (pos 0)) 0
    ∷ hears_at 2 (announces 2 (in_session 20)) 0
    ∷ hears_at 2 (pong 20 (pos 500001) (pos 0)) 0
    ∷ []

pub won_back :
    ((node_led 9 won_back_calls).session_id.0 ≡ 9)
    × ((node_led 9 won_back_calls).session_offset ≡ (pos 7))
    × (map kind (last_outputs (new (node 9)) won_back_calls) ≡ (1 ∷ 2 ∷ 4 ∷ []))
unfolding everything
won_back = (refl, refl, refl)

-- A changed start-stop time is to be moved above those known. It is where anything of the start-stop state is changed: here only whether it plays.
abbrev any_change_moves_the_time_calls : List Call
any_change_moves_the_time_calls =
    commits_at (line (pos 500000) (pos 0) (pos 0)) (start_stop true (pos 0) (pos 0)) 0
    ∷ []

pub any_change_moves_the_time :
    ((node_led 1 any_change_moves_the_time_calls).state.start_stop ≡ (start_stop true (pos 0) (pos 1)))
unfolding everything
any_change_moves_the_time = refl

-- An alive with another session is to restart measuring. One that names none, where one is held, does so too.
abbrev no_session_is_another_calls : List Call
no_session_is_another_calls =
    on_at 0
    ∷ hears_at 1 (announces 1 (in_session 1)) 0
    ∷ hears_at 1 (pong 1 (pos 0) (pos 0)) 0
    ∷ hears_at 1 (announces 1 ([])) 0
    ∷ []

pub no_session_is_another :
    (map (λ p. p.samples.offsets) (node_led 9 no_session_is_another_calls).peers ≡ (([]) ∷ []))
    × (map (λ p. p.measuring) (node_led 9 no_session_is_another_calls).peers ≡ (true ∷ []))
unfolding everything
no_session_is_another = (refl, refl)

-- A sample is to be how far a neighbour's shared time is from our clock. The first after its change of session still has the shared time before that, of the
-- old session: session 1 is 100,000 ahead, node 2 gave just that, and the sample of node 3 is 75,000. The election that it calls for takes it.
abbrev sample_across_sessions_calls_1 : List Call
sample_across_sessions_calls_1 =
    on_at 0
    ∷ hears_at 2 (announces 2 (in_session 1)) 0
    ∷ hears_at 2 (pong 1 (pos 100000) (pos 0)) 0
    ∷ hears_at 3 (announces 3 (in_session 3)) 0
    ∷ hears_at 3 (pong 3 (pos 0) (pos 0)) 0
    ∷ []

abbrev sample_across_sessions_calls_2 : List Call
sample_across_sessions_calls_2 =
    on_at 0
    ∷ hears_at 2 (announces 2 (in_session 1)) 0
    ∷ hears_at 2 (pong 1 (pos 100000) (pos 0)) 0
    ∷ hears_at 3 (announces 3 (in_session 3)) 0
    ∷ hears_at 3 (pong 3 (pos 0) (pos 0)) 0
    ∷ hears_at 3 (pong_after 1 (pos 100000) (pos 0) (pos 0)) 0
    ∷ []

pub sample_across_sessions :
    ((node_led 9 sample_across_sessions_calls_1).session_id.0 ≡ 1)
    × ((node_led 9 sample_across_sessions_calls_1).session_offset ≡ (pos 100000))
    × ((node_led 9 sample_across_sessions_calls_2).session_id.0 ≡ 1)
    × ((node_led 9 sample_across_sessions_calls_2).session_offset ≡ (pos 75000))
    × (map (λ p. p.samples.offsets) (node_led 9 sample_across_sessions_calls_2).peers ≡ (((pos 100000) ∷ []) ∷ ((pos 75000) ∷ []) ∷ []))
unfolding everything
sample_across_sessions = (refl, refl, refl, refl, refl)

-- A neighbour that is heard is to stay. Only its alives count as seen: one that answers a ping a microsecond before goes all the same.
abbrev answering_is_not_seen_calls : List Call
answering_is_not_seen_calls =
    on_at 0
    ∷ hears_at 2 (announces 2 ([])) 0
    ∷ hears_at 2 (pong 1 (pos 0) (pos 0)) 6000000
    ∷ ticks 6000001
    ∷ []

pub answering_is_not_seen :
    (map (λ p. p.id.0) (node_led 1 answering_is_not_seen_calls).peers ≡ ([]))
unfolding everything
answering_is_not_seen = refl

-- The timer is to be for what is done next. A neighbour seen exactly 6 seconds ago stays, and the timer is for that very moment: a call at that time asks for
-- it again.
abbrev timer_at_the_edge_calls_1 : List Call
timer_at_the_edge_calls_1 =
    on_at 0
    ∷ hears_at 2 (announces 2 ([])) 0
    ∷ ticks 6000000
    ∷ []

abbrev timer_at_the_edge_calls_2 : List Call
timer_at_the_edge_calls_2 =
    on_at 0
    ∷ hears_at 2 (announces 2 ([])) 0
    ∷ ticks 6000000
    ∷ ticks 6000000
    ∷ []

pub timer_at_the_edge :
    (map (λ p. p.id.0) (node_led 1 timer_at_the_edge_calls_1).peers ≡ (2 ∷ []))
    × (timers (last_outputs (new (node 1)) timer_at_the_edge_calls_1) ≡ ((pos 6000000) ∷ []))
    × (map (λ p. p.id.0) (node_led 1 timer_at_the_edge_calls_2).peers ≡ (2 ∷ []))
    × (timers (last_outputs (new (node 1)) timer_at_the_edge_calls_2) ≡ ((pos 6000000) ∷ []))
unfolding everything
timer_at_the_edge = (refl, refl, refl, refl)

-- The Rust counts a pong as often as it comes, and has two samples of one that comes twice. Here it counts once.
abbrev doubled_pong_calls_1 : List Call
doubled_pong_calls_1 =
    on_at 0
    ∷ hears_at 2 (announces 2 (in_session 1)) 0
    ∷ hears_at 2 (pong 1 (pos 7) (pos 0)) 0
    ∷ []

abbrev doubled_pong_calls_2 : List Call
doubled_pong_calls_2 =
    on_at 0
    ∷ hears_at 2 (announces 2 (in_session 1)) 0
    ∷ hears_at 2 (pong 1 (pos 7) (pos 0)) 0
    ∷ hears_at 2 (pong 1 (pos 7) (pos 0)) 0
    ∷ []

pub doubled_pong :
    (map (λ p. p.samples.offsets) (node_led 1 doubled_pong_calls_1).peers ≡ (((pos 7) ∷ []) ∷ []))
    × (map (λ p. p.samples.ping_times) (node_led 1 doubled_pong_calls_1).peers ≡ (((at (pos 0)) ∷ []) ∷ []))
    × (map (λ p. p.samples.offsets) (node_led 1 doubled_pong_calls_2).peers ≡ (((pos 7) ∷ []) ∷ []))
    × (map (λ p. p.samples.ping_times) (node_led 1 doubled_pong_calls_2).peers ≡ (((at (pos 0)) ∷ []) ∷ []))
unfolding everything
doubled_pong = (refl, refl, refl, refl)
