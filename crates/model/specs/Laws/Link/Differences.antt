-- Where the engine parts from Link's documents or from what Link does, run on the Rust and stated of the definitions: `tests/examples` writes this file.
use Rattle.std.specs.Prelude.{◌≡◌, refl, List, [], ◌∷◌, true, false, ◌++◌, map, pos, negsuc, Some, None}
use Rattle.wire.specs.Layout.{keys, measurement_kinds, measurement_head, byebye_bytes}
use Rattle.model.specs.Engine.{new}
use Rattle.model.specs.Calls.{Call}
use Rattle.model.specs.Answer.{kind}
use Rattle.model.specs.Laws.Tools.Open.{everything}
use Rattle.model.specs.Laws.Tools.Scenes.{node, line, start_stop, state, announces, in_session, with_line, with_start_stop, with_addr, zeros, pong, pong_after, ticks, placed, on_at, commits_at, hears_at, node_led, last_outputs, states, messages, line_said, start_stop_said, destinations}

-- Joining is to leave the tempo of the session (TEMPO-2). A line that is announced under our session counts in the next election, for whatever reason that is
-- held, though its sender was never measured.
abbrev joined_line_taken_calls_1 : List Call
joined_line_taken_calls_1 =
    on_at 0
    ∷ hears_at 2 (announces 2 (in_session 1 ++ with_line (line (pos 1000000) (pos 1) (pos 0)))) 0
    ∷ hears_at 3 (announces 3 ([])) 0
    ∷ []

abbrev joined_line_taken_calls_2 : List Call
joined_line_taken_calls_2 =
    on_at 0
    ∷ hears_at 2 (announces 2 (in_session 1 ++ with_line (line (pos 1000000) (pos 1) (pos 0)))) 0
    ∷ hears_at 3 (announces 3 ([])) 0
    ∷ hears_at 3 (byebye_bytes (node 3)) 0
    ∷ []

pub joined_line_taken :
    ((node_led 1 joined_line_taken_calls_1).state.timeline ≡ (line (pos 500000) (pos 0) (pos 0)))
    × ((node_led 1 joined_line_taken_calls_2).state.timeline ≡ (line (pos 1000000) (pos 1) (pos 0)))
unfolding everything
joined_line_taken = (refl, refl)

-- A pong that changes a neighbour's session leaves the line that it announced for the other one, which then counts in the new one; not where its beat origin is
-- 0, as ours is.
abbrev carried_line_calls_1 : List Call
carried_line_calls_1 =
    on_at 0
    ∷ hears_at 2 (announces 2 (in_session 7 ++ with_line (line (pos 1000000) (pos 1) (pos 0)))) 0
    ∷ []

abbrev carried_line_calls_2 : List Call
carried_line_calls_2 =
    on_at 0
    ∷ hears_at 2 (announces 2 (in_session 7 ++ with_line (line (pos 1000000) (pos 1) (pos 0)))) 0
    ∷ hears_at 2 (pong 1 (pos 0) (pos 0)) 0
    ∷ []

abbrev carried_line_calls_3 : List Call
carried_line_calls_3 =
    on_at 0
    ∷ hears_at 2 (announces 2 (in_session 7 ++ with_line (line (pos 1000000) (pos 0) (pos 0)))) 0
    ∷ hears_at 2 (pong 1 (pos 0) (pos 0)) 0
    ∷ []

pub carried_line :
    ((node_led 1 carried_line_calls_1).state.timeline ≡ (line (pos 500000) (pos 0) (pos 0)))
    × ((node_led 1 carried_line_calls_2).state.timeline ≡ (line (pos 1000000) (pos 1) (pos 0)))
    × ((node_led 1 carried_line_calls_3).state.timeline ≡ (line (pos 500000) (pos 0) (pos 0)))
unfolding everything
carried_line = (refl, refl, refl)

-- Enabling is to keep the beat at every time (BEATTIME-1). A time origin of 0 becomes the time of the call. Enabled at 0 nothing changes, and a state is put
-- out all the same.
abbrev enabling_at_origin_0_calls_1 : List Call
enabling_at_origin_0_calls_1 =
    on_at 500000
    ∷ []

abbrev enabling_at_origin_0_calls_2 : List Call
enabling_at_origin_0_calls_2 =
    on_at 0
    ∷ []

pub enabling_at_origin_0 :
    ((node_led 1 enabling_at_origin_0_calls_1).state.timeline ≡ (line (pos 500000) (pos 0) (pos 500000)))
    × ((node_led 1 enabling_at_origin_0_calls_2).state.timeline ≡ (line (pos 500000) (pos 0) (pos 0)))
    × (states (last_outputs (new (node 1)) enabling_at_origin_0_calls_2) ≡ ((state (line (pos 500000) (pos 0) (pos 0)) (start_stop false (pos 0) (pos 0))) ∷ []))
unfolding everything
enabling_at_origin_0 = (refl, refl, refl)

-- The line of a new instance is to run from beat 0 at its making. It does so from time 0 of the host clock: half a second later the beat is 1, whenever the
-- engine was made.
abbrev line_from_time_0_calls : List Call
line_from_time_0_calls =
    ticks 500000
    ∷ []

pub line_from_time_0 :
    ((node_led 1 line_from_time_0_calls).state.timeline ≡ (line (pos 500000) (pos 0) (pos 0)))
unfolding everything
line_from_time_0 = refl

-- How large a beat is, is to be each participant's own, only its phase shared. Joining takes the session's beats.
abbrev beats_of_the_session_calls : List Call
beats_of_the_session_calls =
    on_at 0
    ∷ hears_at 1 (announces 1 (in_session 1)) 0
    ∷ hears_at 1 (announces 1 (in_session 1 ++ with_line (line (pos 500000) (pos 7000000) (pos 0)))) 0
    ∷ hears_at 1 (pong 1 (pos 0) (pos 0)) 0
    ∷ []

pub beats_of_the_session :
    ((node_led 9 beats_of_the_session_calls).state.timeline ≡ (line (pos 500000) (pos 7000000) (pos 0)))
unfolding everything
beats_of_the_session = refl

-- Tempos are to be from 20 to 999 beats a minute. Any is taken.
abbrev no_tempo_bounds_calls_1 : List Call
no_tempo_bounds_calls_1 =
    commits_at (line (pos 1) (pos 1) (pos 0)) (start_stop false (pos 0) (pos 0)) 0
    ∷ []

abbrev no_tempo_bounds_calls_2 : List Call
no_tempo_bounds_calls_2 =
    commits_at (line (pos 60000000) (pos 1) (pos 0)) (start_stop false (pos 0) (pos 0)) 0
    ∷ []

abbrev no_tempo_bounds_calls_3 : List Call
no_tempo_bounds_calls_3 =
    commits_at (line (pos 0) (pos 1) (pos 0)) (start_stop false (pos 0) (pos 0)) 0
    ∷ []

abbrev no_tempo_bounds_calls_4 : List Call
no_tempo_bounds_calls_4 =
    commits_at (line (negsuc 0) (pos 1) (pos 0)) (start_stop false (pos 0) (pos 0)) 0
    ∷ []

pub no_tempo_bounds :
    ((node_led 1 no_tempo_bounds_calls_1).state.timeline ≡ (line (pos 1) (pos 1) (pos 0)))
    × ((node_led 1 no_tempo_bounds_calls_2).state.timeline ≡ (line (pos 60000000) (pos 1) (pos 0)))
    × ((node_led 1 no_tempo_bounds_calls_3).state.timeline ≡ (line (pos 0) (pos 1) (pos 0)))
    × ((node_led 1 no_tempo_bounds_calls_4).state.timeline ≡ (line (negsuc 0) (pos 1) (pos 0)))
unfolding everything
no_tempo_bounds = (refl, refl, refl, refl)

-- A tempo that is heard is to be brought within these bounds. It is taken as it is: here 1,500 beats a minute.
abbrev any_tempo_heard_calls : List Call
any_tempo_heard_calls =
    on_at 0
    ∷ hears_at 2 (announces 2 (in_session 1)) 0
    ∷ hears_at 2 (pong 1 (pos 0) (pos 0)) 0
    ∷ hears_at 2 (announces 2 (in_session 1 ++ with_line (line (pos 40000) (pos 1) (pos 0)))) 0
    ∷ []

pub any_tempo_heard :
    ((node_led 1 any_tempo_heard_calls).state.timeline ≡ (line (pos 40000) (pos 1) (pos 0)))
unfolding everything
any_tempo_heard = refl

-- The later start or stop is to stand. Where one at the largest time is known, what is committed wraps to the smallest, and the next election takes the known
-- one again.
abbrev no_later_start_calls_1 : List Call
no_later_start_calls_1 =
    on_at 0
    ∷ hears_at 2 (announces 2 (in_session 1 ++ with_start_stop (start_stop false (pos 0) (pos 9223372036854775807)))) 0
    ∷ commits_at (line (pos 500000) (pos 0) (pos 0)) (start_stop true (pos 0) (pos 5)) 0
    ∷ []

abbrev no_later_start_calls_2 : List Call
no_later_start_calls_2 =
    on_at 0
    ∷ hears_at 2 (announces 2 (in_session 1 ++ with_start_stop (start_stop false (pos 0) (pos 9223372036854775807)))) 0
    ∷ commits_at (line (pos 500000) (pos 0) (pos 0)) (start_stop true (pos 0) (pos 5)) 0
    ∷ hears_at 3 (announces 3 ([])) 0
    ∷ hears_at 3 (byebye_bytes (node 3)) 0
    ∷ []

pub no_later_start :
    ((node_led 1 no_later_start_calls_1).state.start_stop ≡ (start_stop true (pos 0) (negsuc 9223372036854775807)))
    × ((node_led 1 no_later_start_calls_2).state.start_stop ≡ (start_stop false (pos 0) (pos 9223372036854775807)))
unfolding everything
no_later_start = (refl, refl)

-- A tempo change is to reach the others. Where the largest beat origin is known, a committed line wraps below it, and the next election takes the known line
-- again.
abbrev no_room_above_calls_1 : List Call
no_room_above_calls_1 =
    on_at 0
    ∷ hears_at 2 (announces 2 (in_session 1 ++ with_line (line (pos 500000) (pos 9223372036854775807) (pos 0)))) 0
    ∷ commits_at (line (pos 400000) (pos 5) (pos 0)) (start_stop false (pos 0) (pos 0)) 0
    ∷ []

abbrev no_room_above_calls_2 : List Call
no_room_above_calls_2 =
    on_at 0
    ∷ hears_at 2 (announces 2 (in_session 1 ++ with_line (line (pos 500000) (pos 9223372036854775807) (pos 0)))) 0
    ∷ commits_at (line (pos 400000) (pos 5) (pos 0)) (start_stop false (pos 0) (pos 0)) 0
    ∷ hears_at 3 (announces 3 ([])) 0
    ∷ hears_at 3 (byebye_bytes (node 3)) 0
    ∷ []

pub no_room_above :
    ((node_led 1 no_room_above_calls_1).state.timeline ≡ (line (pos 400000) (negsuc 9223372036853775808) (negsuc 3689348814741510324)))
    × ((node_led 1 no_room_above_calls_2).state.timeline ≡ (line (pos 500000) (pos 9223372036854775807) (pos 0)))
unfolding everything
no_room_above = (refl, refl)

-- Sharing start and stop is to be a participant's choice. Every alive has them, and there is no switch.
abbrev start_stop_always_shared_calls : List Call
start_stop_always_shared_calls =
    placed
    ∷ on_at 0
    ∷ ticks 250000
    ∷ []

pub start_stop_always_shared :
    (map start_stop_said (messages (last_outputs (new (node 1)) start_stop_always_shared_calls)) ≡ ((Some (start_stop false (pos 0) (pos 0))) ∷ []))
unfolding everything
start_stop_always_shared = refl

-- Joining is to leave one's own start-stop state (STARTSTOPSTATE-2). One that is stopped plays as soon as it joins a session that plays, and one that plays
-- stops in one that is stopped.
abbrev joining_takes_start_stop_calls_1 : List Call
joining_takes_start_stop_calls_1 =
    on_at 0
    ∷ hears_at 1 (announces 1 (in_session 1 ++ with_line (line (pos 500000) (pos 0) (pos 0)) ++ with_start_stop (start_stop true (pos 0) (pos 7)))) 0
    ∷ hears_at 1 (pong 1 (pos 0) (pos 0)) 0
    ∷ []

abbrev joining_takes_start_stop_calls_2 : List Call
joining_takes_start_stop_calls_2 =
    on_at 0
    ∷ commits_at (line (pos 500000) (pos 0) (pos 0)) (start_stop true (pos 0) (pos 7)) 0
    ∷ hears_at 1 (announces 1 (in_session 1 ++ with_line (line (pos 500000) (pos 0) (pos 0)) ++ with_start_stop (start_stop false (pos 0) (pos 0)))) 0
    ∷ hears_at 1 (pong 1 (pos 0) (pos 0)) 0
    ∷ []

pub joining_takes_start_stop :
    ((node_led 9 joining_takes_start_stop_calls_1).state.start_stop ≡ (start_stop true (pos 0) (pos 7)))
    × ((node_led 9 joining_takes_start_stop_calls_2).state.start_stop ≡ (start_stop false (pos 0) (pos 0)))
unfolding everything
joining_takes_start_stop = (refl, refl)

-- A stop is to end what was started before it. The time of a start is also its rank: one that is committed for 6,000,000 outranks a neighbour's stop at
-- 1,000,000, while our own stop then is put at 6,000,001.
abbrev start_ahead_holds_calls_1 : List Call
start_ahead_holds_calls_1 =
    on_at 0
    ∷ hears_at 2 (announces 2 (in_session 1)) 0
    ∷ hears_at 2 (pong 1 (pos 0) (pos 0)) 0
    ∷ commits_at (line (pos 500000) (pos 0) (pos 0)) (start_stop true (pos 0) (pos 6000000)) 0
    ∷ hears_at 2 (announces 2 (in_session 1 ++ with_start_stop (start_stop false (pos 0) (pos 1000000)))) 1000000
    ∷ []

abbrev start_ahead_holds_calls_2 : List Call
start_ahead_holds_calls_2 =
    on_at 0
    ∷ hears_at 2 (announces 2 (in_session 1)) 0
    ∷ hears_at 2 (pong 1 (pos 0) (pos 0)) 0
    ∷ commits_at (line (pos 500000) (pos 0) (pos 0)) (start_stop true (pos 0) (pos 6000000)) 0
    ∷ commits_at (line (pos 500000) (pos 0) (pos 0)) (start_stop false (pos 0) (pos 1000000)) 1000000
    ∷ []

pub start_ahead_holds :
    ((node_led 1 start_ahead_holds_calls_1).state.start_stop ≡ (start_stop true (pos 0) (pos 6000000)))
    × ((node_led 1 start_ahead_holds_calls_2).state.start_stop ≡ (start_stop false (pos 0) (pos 6000001)))
unfolding everything
start_ahead_holds = (refl, refl)

-- The phase is to be that of the session. An offset that is 500 off stays; one that is 501 off is put right, and our line stays at its host time, so that we
-- announce it 501 microseconds beside that of the session.
abbrev readopted_leaves_line_calls_1 : List Call
readopted_leaves_line_calls_1 =
    placed
    ∷ on_at 0
    ∷ hears_at 1 (announces 1 (in_session 1 ++ with_line (line (pos 500000) (pos 0) (pos 0)))) 0
    ∷ hears_at 1 (pong 1 (pos 0) (pos 0)) 0
    ∷ hears_at 1 (pong 1 (pos 501) (pos 2)) 0
    ∷ hears_at 3 (announces 3 ([])) 0
    ∷ hears_at 3 (byebye_bytes (node 3)) 0
    ∷ []

abbrev readopted_leaves_line_calls_2 : List Call
readopted_leaves_line_calls_2 =
    placed
    ∷ on_at 0
    ∷ hears_at 1 (announces 1 (in_session 1 ++ with_line (line (pos 500000) (pos 0) (pos 0)))) 0
    ∷ hears_at 1 (pong 1 (pos 0) (pos 0)) 0
    ∷ hears_at 1 (pong 1 (pos 502) (pos 2)) 0
    ∷ hears_at 3 (announces 3 ([])) 0
    ∷ hears_at 3 (byebye_bytes (node 3)) 0
    ∷ []

abbrev readopted_leaves_line_calls_3 : List Call
readopted_leaves_line_calls_3 =
    placed
    ∷ on_at 0
    ∷ hears_at 1 (announces 1 (in_session 1 ++ with_line (line (pos 500000) (pos 0) (pos 0)))) 0
    ∷ hears_at 1 (pong 1 (pos 0) (pos 0)) 0
    ∷ hears_at 1 (pong 1 (pos 502) (pos 2)) 0
    ∷ hears_at 3 (announces 3 ([])) 0
    ∷ hears_at 3 (byebye_bytes (node 3)) 0
    ∷ ticks 250000
    ∷ []

pub readopted_leaves_line :
    ((node_led 9 readopted_leaves_line_calls_1).session_offset ≡ (pos 0))
    × ((node_led 9 readopted_leaves_line_calls_2).session_offset ≡ (pos 501))
    × ((node_led 9 readopted_leaves_line_calls_2).state.timeline ≡ (line (pos 500000) (pos 0) (pos 0)))
    × (map line_said (messages (last_outputs (new (node 9)) readopted_leaves_line_calls_3)) ≡ ((Some (line (pos 500000) (pos 0) (pos 501))) ∷ None ∷ []))
unfolding everything
readopted_leaves_line = (refl, refl, refl, refl)

-- The relation between two clocks is to be kept up. After 20 samples a neighbour is not asked again, here for 30 seconds.
abbrev measured_once_calls_1 : List Call
measured_once_calls_1 =
    on_at 0
    ∷ hears_at 2 (announces 2 (in_session 1)) 0
    ∷ hears_at 2 (pong 1 (pos 0) (pos 0)) 0
    ∷ hears_at 2 (pong 1 (pos 1) (pos 2)) 0
    ∷ hears_at 2 (pong 1 (pos 2) (pos 4)) 0
    ∷ hears_at 2 (pong 1 (pos 3) (pos 6)) 0
    ∷ hears_at 2 (pong 1 (pos 4) (pos 8)) 0
    ∷ hears_at 2 (pong 1 (pos 5) (pos 10)) 0
    ∷ hears_at 2 (pong 1 (pos 6) (pos 12)) 0
    ∷ hears_at 2 (pong 1 (pos 7) (pos 14)) 0
    ∷ hears_at 2 (pong 1 (pos 8) (pos 16)) 0
    ∷ hears_at 2 (pong 1 (pos 9) (pos 18)) 0
    ∷ hears_at 2 (pong 1 (pos 10) (pos 20)) 0
    ∷ hears_at 2 (pong 1 (pos 11) (pos 22)) 0
    ∷ hears_at 2 (pong 1 (pos 12) (pos 24)) 0
    ∷ hears_at 2 (pong 1 (pos 13) (pos 26)) 0
    ∷ hears_at 2 (pong 1 (pos 14) (pos 28)) 0
    ∷ hears_at 2 (pong 1 (pos 15) (pos 30)) 0
    ∷ hears_at 2 (pong 1 (pos 16) (pos 32)) 0
    ∷ hears_at 2 (pong 1 (pos 17) (pos 34)) 0
    ∷ hears_at 2 (pong 1 (pos 18) (pos 36)) 0
    ∷ hears_at 2 (pong 1 (pos 19) (pos 38)) 0
    ∷ []

abbrev measured_once_calls_2 : List Call
measured_once_calls_2 =
    on_at 0
    ∷ hears_at 2 (announces 2 (in_session 1)) 0
    ∷ hears_at 2 (pong 1 (pos 0) (pos 0)) 0
    ∷ hears_at 2 (pong 1 (pos 1) (pos 2)) 0
    ∷ hears_at 2 (pong 1 (pos 2) (pos 4)) 0
    ∷ hears_at 2 (pong 1 (pos 3) (pos 6)) 0
    ∷ hears_at 2 (pong 1 (pos 4) (pos 8)) 0
    ∷ hears_at 2 (pong 1 (pos 5) (pos 10)) 0
    ∷ hears_at 2 (pong 1 (pos 6) (pos 12)) 0
    ∷ hears_at 2 (pong 1 (pos 7) (pos 14)) 0
    ∷ hears_at 2 (pong 1 (pos 8) (pos 16)) 0
    ∷ hears_at 2 (pong 1 (pos 9) (pos 18)) 0
    ∷ hears_at 2 (pong 1 (pos 10) (pos 20)) 0
    ∷ hears_at 2 (pong 1 (pos 11) (pos 22)) 0
    ∷ hears_at 2 (pong 1 (pos 12) (pos 24)) 0
    ∷ hears_at 2 (pong 1 (pos 13) (pos 26)) 0
    ∷ hears_at 2 (pong 1 (pos 14) (pos 28)) 0
    ∷ hears_at 2 (pong 1 (pos 15) (pos 30)) 0
    ∷ hears_at 2 (pong 1 (pos 16) (pos 32)) 0
    ∷ hears_at 2 (pong 1 (pos 17) (pos 34)) 0
    ∷ hears_at 2 (pong 1 (pos 18) (pos 36)) 0
    ∷ hears_at 2 (pong 1 (pos 19) (pos 38)) 0
    ∷ hears_at 2 (announces 2 (in_session 1)) 6000000
    ∷ hears_at 2 (announces 2 (in_session 1)) 12000000
    ∷ hears_at 2 (announces 2 (in_session 1)) 18000000
    ∷ hears_at 2 (announces 2 (in_session 1)) 24000000
    ∷ hears_at 2 (announces 2 (in_session 1)) 30000000
    ∷ []

pub measured_once :
    (map (λ p. p.measuring) (node_led 1 measured_once_calls_1).peers ≡ (false ∷ []))
    × (map (λ p. p.measuring) (node_led 1 measured_once_calls_2).peers ≡ (false ∷ []))
    × (map (λ p. p.ping_timeouts) (node_led 1 measured_once_calls_2).peers ≡ (0 ∷ []))
unfolding everything
measured_once = (refl, refl, refl)

-- Whoever is discovered is to be in the session at once. One of an older session counts only when it has been measured.
abbrev discovered_before_measured_calls_1 : List Call
discovered_before_measured_calls_1 =
    on_at 0
    ∷ hears_at 1 (announces 1 (in_session 1)) 0
    ∷ []

abbrev discovered_before_measured_calls_2 : List Call
discovered_before_measured_calls_2 =
    on_at 0
    ∷ hears_at 1 (announces 1 (in_session 1)) 0
    ∷ hears_at 1 (pong 1 (pos 0) (pos 0)) 0
    ∷ []

pub discovered_before_measured :
    ((node_led 9 discovered_before_measured_calls_1).session_id.0 ≡ 9)
    × ((node_led 9 discovered_before_measured_calls_1).num_session_peers ≡ 0)
    × ((node_led 9 discovered_before_measured_calls_2).session_id.0 ≡ 1)
    × ((node_led 9 discovered_before_measured_calls_2).num_session_peers ≡ 1)
unfolding everything
discovered_before_measured = (refl, refl, refl, refl)

-- The same. One that did not answer five pings is never asked again while it stays in its session, though it announces itself: we stay out of it.
abbrev given_up_for_good_calls_1 : List Call
given_up_for_good_calls_1 =
    on_at 0
    ∷ hears_at 1 (announces 1 (in_session 1)) 0
    ∷ ticks 50000
    ∷ ticks 100000
    ∷ ticks 150000
    ∷ ticks 200000
    ∷ ticks 250000
    ∷ []

abbrev given_up_for_good_calls_2 : List Call
given_up_for_good_calls_2 =
    on_at 0
    ∷ hears_at 1 (announces 1 (in_session 1)) 0
    ∷ ticks 50000
    ∷ ticks 100000
    ∷ ticks 150000
    ∷ ticks 200000
    ∷ ticks 250000
    ∷ hears_at 1 (announces 1 (in_session 1)) 5000000
    ∷ hears_at 1 (announces 1 (in_session 1)) 10000000
    ∷ []

pub given_up_for_good :
    (map (λ p. p.measuring) (node_led 9 given_up_for_good_calls_1).peers ≡ (false ∷ []))
    × (map (λ p. p.measuring) (node_led 9 given_up_for_good_calls_2).peers ≡ (false ∷ []))
    × ((node_led 9 given_up_for_good_calls_2).session_id.0 ≡ 9)
    × ((node_led 9 given_up_for_good_calls_2).num_session_peers ≡ 0)
unfolding everything
given_up_for_good = (refl, refl, refl, refl)

-- The last one in a session stays in it, under the id of the one that left.
abbrev session_outlives_founder_calls : List Call
session_outlives_founder_calls =
    on_at 0
    ∷ hears_at 1 (announces 1 (in_session 1)) 0
    ∷ hears_at 1 (pong 1 (pos 100000) (pos 0)) 0
    ∷ hears_at 1 (byebye_bytes (node 1)) 0
    ∷ []

pub session_outlives_founder :
    ((node_led 9 session_outlives_founder_calls).session_id.0 ≡ 1)
    × ((node_led 9 session_outlives_founder_calls).session_offset ≡ (pos 100000))
    × ((node_led 9 session_outlives_founder_calls).num_session_peers ≡ 0)
unfolding everything
session_outlives_founder = (refl, refl, refl)

-- Anyone is to join and leave without harm. Where the founder has left, and one that comes back has just changed into the session, its first sample is off by a
-- quarter of the change and is adopted: 75,000 for 100,000.
abbrev wrong_sample_adopted_calls_1 : List Call
wrong_sample_adopted_calls_1 =
    on_at 0
    ∷ hears_at 1 (announces 1 (in_session 1)) 0
    ∷ hears_at 1 (pong 1 (pos 100000) (pos 0)) 0
    ∷ hears_at 1 (byebye_bytes (node 1)) 0
    ∷ []

abbrev wrong_sample_adopted_calls_2 : List Call
wrong_sample_adopted_calls_2 =
    on_at 0
    ∷ hears_at 1 (announces 1 (in_session 1)) 0
    ∷ hears_at 1 (pong 1 (pos 100000) (pos 0)) 0
    ∷ hears_at 1 (byebye_bytes (node 1)) 0
    ∷ hears_at 2 (announces 2 (in_session 2)) 0
    ∷ hears_at 2 (pong 2 (pos 0) (pos 0)) 0
    ∷ hears_at 2 (pong_after 1 (pos 100000) (pos 0) (pos 0)) 0
    ∷ []

pub wrong_sample_adopted :
    ((node_led 9 wrong_sample_adopted_calls_1).session_offset ≡ (pos 100000))
    × ((node_led 9 wrong_sample_adopted_calls_2).session_id.0 ≡ 1)
    × ((node_led 9 wrong_sample_adopted_calls_2).session_offset ≡ (pos 75000))
unfolding everything
wrong_sample_adopted = (refl, refl, refl)

-- A tempo is to be followed at once. A new line of our session is not taken on the alive that has it where its sender has no sample.
abbrev unmeasured_line_waits_calls : List Call
unmeasured_line_waits_calls =
    on_at 0
    ∷ hears_at 2 (announces 2 (in_session 1)) 0
    ∷ hears_at 2 (announces 2 (in_session 1 ++ with_line (line (pos 1000000) (pos 1) (pos 0)))) 0
    ∷ []

pub unmeasured_line_waits :
    ((node_led 1 unmeasured_line_waits_calls).state.timeline ≡ (line (pos 500000) (pos 0) (pos 0)))
unfolding everything
unmeasured_line_waits = refl

-- Two ids at one address, as of a box that came back and whose bye was lost: the pong is taken for the smaller one, so that the other gets no sample, and a
-- tempo of it is not followed.
abbrev pong_of_the_smaller_id_calls_1 : List Call
pong_of_the_smaller_id_calls_1 =
    on_at 0
    ∷ hears_at 7 (announces 2 (in_session 1)) 0
    ∷ hears_at 7 (announces 3 (in_session 1)) 0
    ∷ hears_at 7 (pong 1 (pos 0) (pos 0)) 0
    ∷ []

abbrev pong_of_the_smaller_id_calls_2 : List Call
pong_of_the_smaller_id_calls_2 =
    on_at 0
    ∷ hears_at 7 (announces 2 (in_session 1)) 0
    ∷ hears_at 7 (announces 3 (in_session 1)) 0
    ∷ hears_at 7 (pong 1 (pos 0) (pos 0)) 0
    ∷ hears_at 7 (announces 3 (in_session 1 ++ with_line (line (pos 1000000) (pos 1) (pos 0)))) 0
    ∷ []

pub pong_of_the_smaller_id :
    (map (λ p. p.samples.offsets) (node_led 1 pong_of_the_smaller_id_calls_1).peers ≡ (((pos 0) ∷ []) ∷ ([]) ∷ []))
    × ((node_led 1 pong_of_the_smaller_id_calls_2).state.timeline ≡ (line (pos 500000) (pos 0) (pos 0)))
unfolding everything
pong_of_the_smaller_id = (refl, refl)

-- An alive is answered only where something in it is new, and at the address that it says, 7, not at that of its sender, 2.
abbrev answers_only_news_calls_1 : List Call
answers_only_news_calls_1 =
    placed
    ∷ on_at 0
    ∷ hears_at 2 (announces 2 (in_session 1 ++ with_addr 7)) 0
    ∷ []

abbrev answers_only_news_calls_2 : List Call
answers_only_news_calls_2 =
    placed
    ∷ on_at 0
    ∷ hears_at 2 (announces 2 (in_session 1 ++ with_addr 7)) 0
    ∷ hears_at 2 (announces 2 (in_session 1 ++ with_addr 7)) 1
    ∷ []

pub answers_only_news :
    (destinations (last_outputs (new (node 1)) answers_only_news_calls_1) ≡ (7 ∷ 7 ∷ []))
    × (destinations (last_outputs (new (node 1)) answers_only_news_calls_2) ≡ ([]))
unfolding everything
answers_only_news = (refl, refl)

-- A sample begins the five unanswered pings anew.
abbrev five_anew_after_a_sample_calls_1 : List Call
five_anew_after_a_sample_calls_1 =
    on_at 0
    ∷ hears_at 2 (announces 2 (in_session 1)) 0
    ∷ ticks 50000
    ∷ ticks 100000
    ∷ ticks 150000
    ∷ ticks 200000
    ∷ []

abbrev five_anew_after_a_sample_calls_2 : List Call
five_anew_after_a_sample_calls_2 =
    on_at 0
    ∷ hears_at 2 (announces 2 (in_session 1)) 0
    ∷ ticks 50000
    ∷ ticks 100000
    ∷ ticks 150000
    ∷ ticks 200000
    ∷ hears_at 2 (pong 1 (pos 0) (pos 0)) 200000
    ∷ ticks 250000
    ∷ ticks 300000
    ∷ ticks 350000
    ∷ ticks 400000
    ∷ ticks 450000
    ∷ []

pub five_anew_after_a_sample :
    (map (λ p. p.ping_timeouts) (node_led 1 five_anew_after_a_sample_calls_1).peers ≡ (5 ∷ []))
    × (map (λ p. p.ping_timeouts) (node_led 1 five_anew_after_a_sample_calls_2).peers ≡ (5 ∷ []))
    × (map (λ p. p.measuring) (node_led 1 five_anew_after_a_sample_calls_2).peers ≡ (true ∷ []))
unfolding everything
five_anew_after_a_sample = (refl, refl, refl)

-- A pong of shared time 0 is a sample.
abbrev zero_is_a_sample_calls : List Call
zero_is_a_sample_calls =
    on_at 0
    ∷ hears_at 2 (announces 2 (in_session 1)) 0
    ∷ hears_at 2 (pong 1 (pos 0) (pos 0)) 0
    ∷ []

pub zero_is_a_sample :
    (map (λ p. p.samples.offsets) (node_led 1 zero_is_a_sample_calls).peers ≡ (((pos 0) ∷ []) ∷ []))
unfolding everything
zero_is_a_sample = refl

-- A ping with 48 bytes of entries is answered; one without a time is not.
abbrev pings_answered_calls_1 : List Call
pings_answered_calls_1 =
    on_at 0
    ∷ hears_at 2 (measurement_head measurement_kinds.ping ++ zeros keys.ht ++ zeros keys.pgt ++ zeros keys.sess) 0
    ∷ []

abbrev pings_answered_calls_2 : List Call
pings_answered_calls_2 =
    on_at 0
    ∷ hears_at 2 (measurement_head measurement_kinds.ping ++ zeros keys.sess) 0
    ∷ []

pub pings_answered :
    (map kind (last_outputs (new (node 1)) pings_answered_calls_1) ≡ (1 ∷ 4 ∷ []))
    × (map kind (last_outputs (new (node 1)) pings_answered_calls_2) ≡ (4 ∷ []))
unfolding everything
pings_answered = (refl, refl)
