-- Worked examples, run on the Rust and stated of the definitions: `tests/examples` writes this file.
use Rattle.std.specs.Prelude.{◌≡◌, refl, List, [], ◌∷◌, true, false, ◌++◌, map, pos, negsuc, Some}
use Rattle.wire.specs.Layout.{byebye_bytes}
use Rattle.model.specs.Engine.{new}
use Rattle.model.specs.Calls.{Call}
use Rattle.model.specs.Answer.{kind, answer}
use Rattle.model.specs.Preview.{refused, given, preview}
use Rattle.model.specs.Laws.Tools.Open.{everything}
use Rattle.model.specs.Laws.Tools.Scenes.{at, node, line, start_stop, state, announces, in_session, with_line, with_start_stop, pong, ticks, on_at, off_at, commits_at, hears_at, node_led, last_outputs, states, timers}

-- In the session of our own node's id an offset is never readopted, however far off.
abbrev own_session_not_readopted_calls : List Call
own_session_not_readopted_calls =
    on_at 0
    ∷ hears_at 2 (announces 2 (in_session 1)) 0
    ∷ hears_at 2 (pong 1 (pos 9000) (pos 0)) 0
    ∷ []

pub own_session_not_readopted :
    ((node_led 1 own_session_not_readopted_calls).session_id.0 ≡ 1)
    × ((node_led 1 own_session_not_readopted_calls).session_offset ≡ (pos 0))
unfolding everything
own_session_not_readopted = (refl, refl)

-- In another one it is, from a difference of 501 on.
abbrev foreign_session_readopted_calls_1 : List Call
foreign_session_readopted_calls_1 =
    on_at 0
    ∷ hears_at 2 (announces 2 (in_session 0)) 0
    ∷ hears_at 2 (pong 0 (pos 0) (pos 0)) 0
    ∷ hears_at 3 (announces 3 (in_session 0)) 0
    ∷ hears_at 3 (pong 0 (pos 500) (pos 0)) 0
    ∷ []

abbrev foreign_session_readopted_calls_2 : List Call
foreign_session_readopted_calls_2 =
    on_at 0
    ∷ hears_at 2 (announces 2 (in_session 0)) 0
    ∷ hears_at 2 (pong 0 (pos 0) (pos 0)) 0
    ∷ hears_at 3 (announces 3 (in_session 0)) 0
    ∷ hears_at 3 (pong 0 (pos 501) (pos 0)) 0
    ∷ []

pub foreign_session_readopted :
    ((node_led 1 foreign_session_readopted_calls_1).session_id.0 ≡ 0)
    × ((node_led 1 foreign_session_readopted_calls_1).session_offset ≡ (pos 0))
    × ((node_led 1 foreign_session_readopted_calls_2).session_offset ≡ (pos 501))
unfolding everything
foreign_session_readopted = (refl, refl, refl)

-- Session 2 is ahead of ours by 600,000 and session 3 by 700,000. In the election of the bye 2 wins; 3 is then within 500,000 of the best and has the larger
-- id.
abbrev win_moves_the_comparison_calls : List Call
win_moves_the_comparison_calls =
    on_at 0
    ∷ hears_at 2 (announces 2 (in_session 2)) 0
    ∷ hears_at 2 (pong 2 (negsuc 599999) (pos 0)) 0
    ∷ hears_at 3 (announces 3 (in_session 3)) 0
    ∷ hears_at 3 (pong 3 (negsuc 599999) (pos 0)) 0
    ∷ hears_at 2 (pong 2 (pos 600001) (pos 2)) 0
    ∷ hears_at 2 (pong 2 (pos 600002) (pos 4)) 0
    ∷ hears_at 3 (pong 3 (pos 700001) (pos 2)) 0
    ∷ hears_at 3 (pong 3 (pos 700002) (pos 4)) 0
    ∷ hears_at 9 (announces 9 ([])) 0
    ∷ hears_at 9 (byebye_bytes (node 9)) 0
    ∷ []

pub win_moves_the_comparison :
    ((node_led 1 win_moves_the_comparison_calls).session_id.0 ≡ 2)
    × ((node_led 1 win_moves_the_comparison_calls).session_offset ≡ (pos 600000))
    × (map (λ p. p.samples.offsets) (node_led 1 win_moves_the_comparison_calls).peers ≡ (((negsuc 599999) ∷ (pos 600000) ∷ (pos 600000) ∷ []) ∷ ((negsuc 599999) ∷ (pos 700000) ∷ (pos 700000) ∷ []) ∷ []))
unfolding everything
win_moves_the_comparison = (refl, refl, refl)

-- Seen exactly 6,000,000 ago a neighbour stays, and a microsecond later it goes.
abbrev dropped_at_6000001_calls_1 : List Call
dropped_at_6000001_calls_1 =
    on_at 0
    ∷ hears_at 2 (announces 2 ([])) 0
    ∷ ticks 6000000
    ∷ []

abbrev dropped_at_6000001_calls_2 : List Call
dropped_at_6000001_calls_2 =
    on_at 0
    ∷ hears_at 2 (announces 2 ([])) 0
    ∷ ticks 6000001
    ∷ []

pub dropped_at_6000001 :
    (map (λ p. p.id.0) (node_led 1 dropped_at_6000001_calls_1).peers ≡ (2 ∷ []))
    × (map (λ p. p.id.0) (node_led 1 dropped_at_6000001_calls_2).peers ≡ ([]))
unfolding everything
dropped_at_6000001 = (refl, refl)

-- The timer is for the next ping of a neighbour that goes in this very call.
abbrev timer_of_a_lapsed_calls : List Call
timer_of_a_lapsed_calls =
    on_at 0
    ∷ hears_at 2 (announces 2 ([])) 0
    ∷ ticks 6000001
    ∷ []

pub timer_of_a_lapsed :
    (map (λ p. p.id.0) (node_led 1 timer_of_a_lapsed_calls).peers ≡ ([]))
    × (timers (last_outputs (new (node 1)) timer_of_a_lapsed_calls) ≡ ((pos 6050001) ∷ []))
unfolding everything
timer_of_a_lapsed = (refl, refl)

-- A start or stop that is not later than our own becomes that and 1, with no neighbour there.
abbrev own_start_stop_counts_calls_1 : List Call
own_start_stop_counts_calls_1 =
    commits_at (line (pos 500000) (pos 0) (pos 0)) (start_stop true (pos 0) (pos 70)) 0
    ∷ commits_at (line (pos 500000) (pos 0) (pos 0)) (start_stop false (pos 0) (pos 70)) 0
    ∷ []

abbrev own_start_stop_counts_calls_2 : List Call
own_start_stop_counts_calls_2 =
    commits_at (line (pos 500000) (pos 0) (pos 0)) (start_stop true (pos 0) (pos 70)) 0
    ∷ commits_at (line (pos 500000) (pos 0) (pos 0)) (start_stop false (pos 0) (pos 72)) 0
    ∷ []

pub own_start_stop_counts :
    ((node_led 1 own_start_stop_counts_calls_1).state.start_stop ≡ (start_stop false (pos 0) (pos 71)))
    × ((node_led 1 own_start_stop_counts_calls_2).state.start_stop ≡ (start_stop false (pos 0) (pos 72)))
unfolding everything
own_start_stop_counts = (refl, refl)

-- Switching off adds 1 to the node id, and the largest becomes 0.
abbrev node_id_after_off_calls_1 : List Call
node_id_after_off_calls_1 =
    on_at 0
    ∷ off_at 0
    ∷ []

abbrev node_id_after_off_calls_2 : List Call
node_id_after_off_calls_2 =
    on_at 0
    ∷ off_at 1
    ∷ []

pub node_id_after_off :
    ((node_led 1 node_id_after_off_calls_1).node_id.0 ≡ 2)
    × ((node_led 1 node_id_after_off_calls_1).session_id.0 ≡ 2)
    × ((node_led 18446744073709551615 node_id_after_off_calls_2).node_id.0 ≡ 0)
unfolding everything
node_id_after_off = (refl, refl, refl)

-- A neighbour that does not answer is asked five times; the sixth due call ends measuring.
abbrev five_asks_and_no_sixth_calls_1 : List Call
five_asks_and_no_sixth_calls_1 =
    on_at 0
    ∷ hears_at 2 (announces 2 ([])) 0
    ∷ ticks 50000
    ∷ ticks 100000
    ∷ ticks 150000
    ∷ ticks 200000
    ∷ []

abbrev five_asks_and_no_sixth_calls_2 : List Call
five_asks_and_no_sixth_calls_2 =
    on_at 0
    ∷ hears_at 2 (announces 2 ([])) 0
    ∷ ticks 50000
    ∷ ticks 100000
    ∷ ticks 150000
    ∷ ticks 200000
    ∷ ticks 250000
    ∷ []

pub five_asks_and_no_sixth :
    (map (λ p. p.ping_timeouts) (node_led 1 five_asks_and_no_sixth_calls_1).peers ≡ (5 ∷ []))
    × (map (λ p. p.measuring) (node_led 1 five_asks_and_no_sixth_calls_1).peers ≡ (true ∷ []))
    × (map (λ p. p.ping_timeouts) (node_led 1 five_asks_and_no_sixth_calls_2).peers ≡ (5 ∷ []))
    × (map (λ p. p.measuring) (node_led 1 five_asks_and_no_sixth_calls_2).peers ≡ (false ∷ []))
unfolding everything
five_asks_and_no_sixth = (refl, refl, refl, refl)

-- Of two lines in an alive the last one counts.
abbrev last_duplicate_counts_calls : List Call
last_duplicate_counts_calls =
    on_at 0
    ∷ hears_at 2 (announces 2 (with_line (line (pos 500000) (pos 1) (pos 0)) ++ with_line (line (pos 500000) (pos 2) (pos 0)))) 0
    ∷ []

pub last_duplicate_counts :
    (map (λ p. p.timeline_ghost) (node_led 1 last_duplicate_counts_calls).peers ≡ (Some (line (pos 500000) (pos 2) (pos 0)) ∷ []))
unfolding everything
last_duplicate_counts = refl

-- Within 500,000 the smaller session id wins; a larger one must be ahead by more.
abbrev elected_by_id_or_time_calls_1 : List Call
elected_by_id_or_time_calls_1 =
    on_at 0
    ∷ hears_at 9 (announces 9 (in_session 4)) 0
    ∷ hears_at 9 (pong 4 (negsuc 499999) (pos 0)) 0
    ∷ []

abbrev elected_by_id_or_time_calls_2 : List Call
elected_by_id_or_time_calls_2 =
    on_at 0
    ∷ hears_at 9 (announces 9 (in_session 6)) 0
    ∷ hears_at 9 (pong 6 (pos 500000) (pos 0)) 0
    ∷ []

abbrev elected_by_id_or_time_calls_3 : List Call
elected_by_id_or_time_calls_3 =
    on_at 0
    ∷ hears_at 9 (announces 9 (in_session 6)) 0
    ∷ hears_at 9 (pong 6 (pos 500001) (pos 0)) 0
    ∷ []

pub elected_by_id_or_time :
    ((node_led 5 elected_by_id_or_time_calls_1).session_id.0 ≡ 4)
    × ((node_led 5 elected_by_id_or_time_calls_2).session_id.0 ≡ 5)
    × ((node_led 5 elected_by_id_or_time_calls_3).session_id.0 ≡ 6)
unfolding everything
elected_by_id_or_time = (refl, refl, refl)

-- A committed line is moved above what is known in our session, and not above what is known in another.
abbrev moved_above_the_session_calls_1 : List Call
moved_above_the_session_calls_1 =
    on_at 0
    ∷ hears_at 2 (announces 2 (in_session 1 ++ with_line (line (pos 500000) (pos 8000000) (pos 0)))) 0
    ∷ hears_at 3 (announces 3 (in_session 7 ++ with_line (line (pos 500000) (pos 90000000) (pos 0)))) 0
    ∷ commits_at (line (pos 500001) (pos 7999999) (pos 0)) (start_stop false (pos 0) (pos 0)) 0
    ∷ []

abbrev moved_above_the_session_calls_2 : List Call
moved_above_the_session_calls_2 =
    on_at 0
    ∷ hears_at 2 (announces 2 (in_session 1 ++ with_line (line (pos 500000) (pos 8000000) (pos 0)))) 0
    ∷ hears_at 3 (announces 3 (in_session 7 ++ with_line (line (pos 500000) (pos 90000000) (pos 0)))) 0
    ∷ commits_at (line (pos 500001) (pos 8000001) (pos 0)) (start_stop false (pos 0) (pos 0)) 0
    ∷ []

pub moved_above_the_session :
    ((node_led 1 moved_above_the_session_calls_1).state.timeline ≡ (line (pos 500001) (pos 9000000) (pos 500001)))
    × ((node_led 1 moved_above_the_session_calls_2).state.timeline ≡ (line (pos 500001) (pos 8000001) (pos 0)))
unfolding everything
moved_above_the_session = (refl, refl)

-- A pong belongs to the neighbour with the sender's address, whatever session it names.
abbrev owner_by_address_calls_1 : List Call
owner_by_address_calls_1 =
    on_at 0
    ∷ hears_at 6 (announces 2 (in_session 1)) 0
    ∷ hears_at 7 (announces 3 (in_session 7)) 0
    ∷ hears_at 7 (pong 1 (pos 4) (pos 0)) 0
    ∷ []

abbrev owner_by_address_calls_2 : List Call
owner_by_address_calls_2 =
    on_at 0
    ∷ hears_at 7 (announces 2 (in_session 1)) 0
    ∷ hears_at 7 (announces 3 (in_session 1)) 0
    ∷ hears_at 7 (pong 1 (pos 4) (pos 0)) 0
    ∷ []

pub owner_by_address :
    (map (λ p. p.id.0) (node_led 1 owner_by_address_calls_1).peers ≡ (2 ∷ 3 ∷ []))
    × (map (λ p. p.session_id) (node_led 1 owner_by_address_calls_1).peers ≡ (Some (node 1) ∷ Some (node 1) ∷ []))
    × (map (λ p. p.samples.offsets) (node_led 1 owner_by_address_calls_1).peers ≡ (([]) ∷ ((pos 4) ∷ []) ∷ []))
    × (map (λ p. p.id.0) (node_led 1 owner_by_address_calls_2).peers ≡ (2 ∷ 3 ∷ []))
    × (map (λ p. p.samples.offsets) (node_led 1 owner_by_address_calls_2).peers ≡ (((pos 4) ∷ []) ∷ ([]) ∷ []))
unfolding everything
owner_by_address = (refl, refl, refl, refl, refl)

-- An alive with another session clears the samples, restarts measuring and elects nothing: the line that node 3 has announced in our session is not taken yet.
abbrev no_election_on_a_new_session_calls : List Call
no_election_on_a_new_session_calls =
    on_at 0
    ∷ hears_at 2 (announces 2 (in_session 1)) 0
    ∷ hears_at 2 (pong 1 (pos 9000) (pos 0)) 0
    ∷ hears_at 3 (announces 3 (in_session 1 ++ with_line (line (pos 500000) (pos 5) (pos 0)))) 0
    ∷ hears_at 2 (announces 2 (in_session 0)) 0
    ∷ []

pub no_election_on_a_new_session :
    ((node_led 1 no_election_on_a_new_session_calls).session_id.0 ≡ 1)
    × (map (λ p. p.samples.offsets) (node_led 1 no_election_on_a_new_session_calls).peers ≡ (([]) ∷ ([]) ∷ []))
    × (map (λ p. p.measuring) (node_led 1 no_election_on_a_new_session_calls).peers ≡ (true ∷ true ∷ []))
    × ((node_led 1 no_election_on_a_new_session_calls).state.timeline ≡ (line (pos 500000) (pos 0) (pos 0)))
unfolding everything
no_election_on_a_new_session = (refl, refl, refl, refl)

-- A pong with another session replaces the one held, and does not restart measuring that has ended. (It comes a little earlier than the last call, so that no
-- ping is due.)
abbrev pong_does_not_restart_calls : List Call
pong_does_not_restart_calls =
    on_at 0
    ∷ hears_at 2 (announces 2 ([])) 0
    ∷ ticks 50000
    ∷ ticks 100000
    ∷ ticks 150000
    ∷ ticks 200000
    ∷ ticks 250000
    ∷ hears_at 2 (pong 5 (pos 0) (pos 0)) 249999
    ∷ []

pub pong_does_not_restart :
    (map (λ p. p.session_id) (node_led 1 pong_does_not_restart_calls).peers ≡ (Some (node 5) ∷ []))
    × (map (λ p. p.samples.offsets) (node_led 1 pong_does_not_restart_calls).peers ≡ (([]) ∷ []))
    × (map (λ p. p.measuring) (node_led 1 pong_does_not_restart_calls).peers ≡ (false ∷ []))
unfolding everything
pong_does_not_restart = (refl, refl, refl)

-- A commit while disabled puts out the state alone.
abbrev commit_while_disabled_calls : List Call
commit_while_disabled_calls =
    commits_at (line (pos 500000) (pos 1) (pos 0)) (start_stop false (pos 0) (pos 0)) 0
    ∷ []

pub commit_while_disabled :
    (map kind (last_outputs (new (node 1)) commit_while_disabled_calls) ≡ (2 ∷ []))
    × ((node_led 1 commit_while_disabled_calls).state.timeline ≡ (line (pos 500000) (pos 1) (pos 0)))
unfolding everything
commit_while_disabled = (refl, refl)

-- While disabled a tick puts out nothing: four zero bytes.
abbrev empty_answer_calls : List Call
empty_answer_calls =
    ticks 0
    ∷ []

pub empty_answer :
    (answer (last_outputs (new (node 1)) empty_answer_calls) ≡ (0 ∷ 0 ∷ 0 ∷ 0 ∷ []))
unfolding everything
empty_answer = refl

-- A commit of a line in which node 2 goes: the election that follows takes the later start that node 3 has announced, and the commit reports twice. The preview
-- has the first of the two states.
abbrev first_report_counts_calls_1 : List Call
first_report_counts_calls_1 =
    on_at 0
    ∷ hears_at 2 (announces 2 ([])) 0
    ∷ hears_at 3 (announces 3 (in_session 1 ++ with_start_stop (start_stop true (pos 0) (pos 70)))) 1
    ∷ commits_at (line (pos 500000) (pos 1) (pos 0)) (start_stop false (pos 0) (pos 0)) 6000001
    ∷ []

abbrev first_report_counts_calls_2 : List Call
first_report_counts_calls_2 =
    on_at 0
    ∷ hears_at 2 (announces 2 ([])) 0
    ∷ hears_at 3 (announces 3 (in_session 1 ++ with_start_stop (start_stop true (pos 0) (pos 70)))) 1
    ∷ []

pub first_report_counts :
    (states (last_outputs (new (node 1)) first_report_counts_calls_1) ≡ ((state (line (pos 500000) (pos 1) (pos 0)) (start_stop false (pos 0) (pos 0))) ∷ (state (line (pos 500000) (pos 1) (pos 0)) (start_stop true (pos 0) (pos 70))) ∷ []))
    × (preview (node_led 1 first_report_counts_calls_2) (state (line (pos 500000) (pos 1) (pos 0)) (start_stop false (pos 0) (pos 0))) (at (pos 6000001)) ≡ given (state (line (pos 500000) (pos 1) (pos 0)) (start_stop false (pos 0) (pos 0))) (pos 0))
unfolding everything
first_report_counts = (refl, refl)

-- A commit of the held state reports nothing, and its preview has that state, moved by 0.
abbrev preview_of_the_held_calls_1 : List Call
preview_of_the_held_calls_1 =
    on_at 0
    ∷ commits_at (line (pos 500000) (pos 1) (pos 0)) (start_stop false (pos 0) (pos 0)) 0
    ∷ commits_at (line (pos 500000) (pos 1) (pos 0)) (start_stop false (pos 0) (pos 0)) 0
    ∷ []

abbrev preview_of_the_held_calls_2 : List Call
preview_of_the_held_calls_2 =
    on_at 0
    ∷ commits_at (line (pos 500000) (pos 1) (pos 0)) (start_stop false (pos 0) (pos 0)) 0
    ∷ []

pub preview_of_the_held :
    (states (last_outputs (new (node 1)) preview_of_the_held_calls_1) ≡ ([]))
    × (preview (node_led 1 preview_of_the_held_calls_2) (state (line (pos 500000) (pos 1) (pos 0)) (start_stop false (pos 0) (pos 0))) (at (pos 0)) ≡ given (state (line (pos 500000) (pos 1) (pos 0)) (start_stop false (pos 0) (pos 0))) (pos 0))
unfolding everything
preview_of_the_held = (refl, refl)

-- Above the largest beat origin the sum wraps, and the move comes out negative.
abbrev moved_negative_calls : List Call
moved_negative_calls =
    commits_at (line (pos 500000) (pos 9223372036854775807) (pos 0)) (start_stop false (pos 0) (pos 0)) 0
    ∷ []

pub moved_negative :
    (preview (node_led 1 moved_negative_calls) (state (line (pos 500000) (pos 5) (pos 0)) (start_stop false (pos 0) (pos 0))) (at (pos 0)) ≡ given (state (line (pos 500000) (negsuc 9223372036853775808) (negsuc 4611686018426887906)) (start_stop false (pos 0) (pos 0))) (negsuc 9223372036853775813))
unfolding everything
moved_negative = refl

-- Far enough below it the sum wraps to the asked beat origin: the line is moved, by 0.
abbrev moved_0_by_a_wrap_calls : List Call
moved_0_by_a_wrap_calls =
    commits_at (line (pos 500000) (pos 9223372036854775807) (pos 0)) (start_stop false (pos 0) (pos 0)) 0
    ∷ []

pub moved_0_by_a_wrap :
    (preview (node_led 1 moved_0_by_a_wrap_calls) (state (line (pos 500000) (negsuc 9223372036853775808) (pos 0)) (start_stop false (pos 0) (pos 0))) (at (pos 0)) ≡ given (state (line (pos 500000) (negsuc 9223372036853775808) (pos 0)) (start_stop false (pos 0) (pos 0))) (pos 0))
unfolding everything
moved_0_by_a_wrap = refl

-- The times from 0 to 10^15 are taken, and no others.
abbrev preview_refused_by_time_calls : List Call
preview_refused_by_time_calls =
    on_at 0
    ∷ []

pub preview_refused_by_time :
    (preview (node_led 1 preview_refused_by_time_calls) (state (line (pos 500000) (pos 1) (pos 0)) (start_stop false (pos 0) (pos 0))) (at (negsuc 0)) ≡ refused 1)
    × (preview (node_led 1 preview_refused_by_time_calls) (state (line (pos 500000) (pos 1) (pos 0)) (start_stop false (pos 0) (pos 0))) (at (pos 0)) ≡ given (state (line (pos 500000) (pos 1) (pos 0)) (start_stop false (pos 0) (pos 0))) (pos 0))
    × (preview (node_led 1 preview_refused_by_time_calls) (state (line (pos 500000) (pos 1) (pos 0)) (start_stop false (pos 0) (pos 0))) (at (pos 1000000000000000)) ≡ given (state (line (pos 500000) (pos 1) (pos 0)) (start_stop false (pos 0) (pos 0))) (pos 0))
    × (preview (node_led 1 preview_refused_by_time_calls) (state (line (pos 500000) (pos 1) (pos 0)) (start_stop false (pos 0) (pos 0))) (at (pos 1000000000000001)) ≡ refused 1)
unfolding everything
preview_refused_by_time = (refl, refl, refl, refl)

-- What is held of a pong is the time of its ping, 2, not that of the call, 9: a pong to a ping of 9 counts then.
abbrev ping_time_not_now_calls_1 : List Call
ping_time_not_now_calls_1 =
    on_at 0
    ∷ hears_at 2 (announces 2 ([])) 0
    ∷ hears_at 2 (pong 1 (pos 10) (pos 2)) 9
    ∷ []

abbrev ping_time_not_now_calls_2 : List Call
ping_time_not_now_calls_2 =
    on_at 0
    ∷ hears_at 2 (announces 2 ([])) 0
    ∷ hears_at 2 (pong 1 (pos 10) (pos 2)) 9
    ∷ hears_at 2 (pong 1 (pos 15) (pos 9)) 9
    ∷ []

pub ping_time_not_now :
    (map (λ p. p.samples.offsets) (node_led 1 ping_time_not_now_calls_1).peers ≡ (((pos 5) ∷ []) ∷ []))
    × (map (λ p. p.samples.ping_times) (node_led 1 ping_time_not_now_calls_1).peers ≡ (((at (pos 2)) ∷ []) ∷ []))
    × (map (λ p. p.samples.offsets) (node_led 1 ping_time_not_now_calls_2).peers ≡ (((pos 5) ∷ (pos 6) ∷ []) ∷ []))
    × (map (λ p. p.samples.ping_times) (node_led 1 ping_time_not_now_calls_2).peers ≡ (((at (pos 2)) ∷ (at (pos 9)) ∷ []) ∷ []))
unfolding everything
ping_time_not_now = (refl, refl, refl, refl)

-- One ping time counts at two neighbours, and once at each.
abbrev ping_time_of_each_calls : List Call
ping_time_of_each_calls =
    on_at 0
    ∷ hears_at 2 (announces 2 (in_session 1)) 0
    ∷ hears_at 2 (pong 1 (pos 5) (pos 0)) 0
    ∷ hears_at 3 (announces 3 (in_session 1)) 0
    ∷ hears_at 3 (pong 1 (pos 6) (pos 0)) 0
    ∷ hears_at 3 (pong 1 (pos 7) (pos 0)) 0
    ∷ hears_at 2 (pong 1 (pos 8) (pos 0)) 0
    ∷ []

pub ping_time_of_each :
    (map (λ p. p.samples.offsets) (node_led 1 ping_time_of_each_calls).peers ≡ (((pos 5) ∷ []) ∷ ((pos 6) ∷ []) ∷ []))
    × (map (λ p. p.samples.ping_times) (node_led 1 ping_time_of_each_calls).peers ≡ (((at (pos 0)) ∷ []) ∷ ((at (pos 0)) ∷ []) ∷ []))
unfolding everything
ping_time_of_each = (refl, refl)

-- A pong that names another session clears and counts, once; and so does the first after an alive with another session.
abbrev counted_again_once_cleared_calls_1 : List Call
counted_again_once_cleared_calls_1 =
    on_at 0
    ∷ hears_at 2 (announces 2 (in_session 1)) 0
    ∷ hears_at 2 (pong 1 (pos 5) (pos 0)) 0
    ∷ hears_at 2 (pong 3 (pos 6) (pos 0)) 0
    ∷ hears_at 2 (pong 3 (pos 7) (pos 0)) 0
    ∷ []

abbrev counted_again_once_cleared_calls_2 : List Call
counted_again_once_cleared_calls_2 =
    on_at 0
    ∷ hears_at 2 (announces 2 (in_session 1)) 0
    ∷ hears_at 2 (pong 1 (pos 5) (pos 0)) 0
    ∷ hears_at 2 (announces 2 (in_session 3)) 0
    ∷ hears_at 2 (pong 3 (pos 6) (pos 0)) 0
    ∷ hears_at 2 (pong 3 (pos 7) (pos 0)) 0
    ∷ []

pub counted_again_once_cleared :
    (map (λ p. p.session_id) (node_led 1 counted_again_once_cleared_calls_1).peers ≡ (Some (node 3) ∷ []))
    × (map (λ p. p.samples.offsets) (node_led 1 counted_again_once_cleared_calls_1).peers ≡ (((pos 6) ∷ []) ∷ []))
    × (map (λ p. p.samples.ping_times) (node_led 1 counted_again_once_cleared_calls_1).peers ≡ (((at (pos 0)) ∷ []) ∷ []))
    × (map (λ p. p.session_id) (node_led 1 counted_again_once_cleared_calls_2).peers ≡ (Some (node 3) ∷ []))
    × (map (λ p. p.samples.offsets) (node_led 1 counted_again_once_cleared_calls_2).peers ≡ (((pos 6) ∷ []) ∷ []))
    × (map (λ p. p.samples.ping_times) (node_led 1 counted_again_once_cleared_calls_2).peers ≡ (((at (pos 0)) ∷ []) ∷ []))
unfolding everything
counted_again_once_cleared = (refl, refl, refl, refl, refl, refl)
