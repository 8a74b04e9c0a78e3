-- Lists of calls that meet the premises of what holds of elections, commits, switching on and off, and what is told, sent and counted: the witness of a
-- theorem has its name and `-met` or which case it is, and what it comes to stands by it.
use Rattle.std.specs.Prelude.{ℕ, ◌≡◌, refl, ◌≢◌, true, false, ℤ, pos, nat_abs, length, ◌≤ℤ◌, ◌<ℤ◌, Option, Some, None}
use Rattle.std.proofs.Common.{arith, sym, ap, ◌∙◌, subst, inl, inr, ⊎_elim}
use mathlib.Core.List.Memᴰ
use mathlib.Core.List.{List, [], ◌∷◌, ◌++◌, Memᴰ, cons≢nil}
use Rattle.std.specs.Int.Signed.{le_z_yes, clash_ℤ}
use Rattle.timeline.specs.declared.Timeline.{Timeline}
use Rattle.timeline.specs.declared.StartStopState.{StartStopState}
use Rattle.timeline.specs.declared.SessionState.{SessionState}
use Rattle.timeline.specs.Session.{default_state}
use Rattle.wire.specs.Layout.{mep4_entry}
use Rattle.model.specs.Peers.{Peer, Interface, origin_of, moment_of}
use Rattle.model.specs.Engine.{Box, state_changed, set_timer, new, our_alive}
use Rattle.model.specs.Election.{resolved}
use Rattle.model.specs.Packet.{AliveMsg, Handled, handle_alive, held_peer}
use Rattle.model.specs.Calls.{Call, packet, commit, switch, interface_added, resolved_if_needed, committed, switched_on, run}
use Rattle.model.specs.Laws.Calls.Messages.{arrived}
use Rattle.lists.specs.Laws.Bools.{some_inj, none_some}
use Rattle.lists.specs.Laws.Each.{Each, nil, ◌▸◌, each_mem}
use Rattle.model.specs.Laws.Tools.Open.{everything}
use Rattle.model.specs.Laws.Tools.Scenes.{at, node, port, line, lined, unlike, led, placed, on, ticks, hears, announces, alive, in_session, with_line, with_start_stop, pongs, off_at, put_out, states}
use Rattle.model.specs.Laws.Clerk.Ids.{ids}
use Rattle.model.specs.Laws.Clerk.Count.{told}
use Rattle.model.specs.Laws.Link.Best.{IsBest}
use Rattle.model.specs.Laws.Link.Elected.{lines, start_stops, our_start_stop}
use Rattle.model.specs.Laws.Link.Sessions.{FromKnown, shared_start_stop}
use Rattle.model.proofs.Laws.Link.Sessions.{new_session_elects_nothing, new_session_keeps_state, election_line, election_line_changed, joining_keeps_line, election_start_stop, election_start_stop_changed, later_commit_stands, later_commit_taken}
use Rattle.model.proofs.Laws.Link.Enabling.{enabling_keeps_tempo, enabling_keeps_line, disabling_keeps_state, disabled_until_switched_on}
use Rattle.model.specs.Laws.Link.Reports.{state_of, states_told}
use Rattle.model.proofs.Laws.Link.Reports.{change_told, untold_unchanged}
use Rattle.model.specs.Laws.Link.Announces.{announcement, farewell}
use Rattle.model.proofs.Laws.Link.Announces.{enabling_announces, commit_announces, leaving_announces}
use Rattle.model.specs.Laws.Link.Interfaces.{CountsOthers, oneself, another, CountsAllButOne}
use Rattle.model.proofs.Laws.Link.Interfaces.{boxes_in_session, counted_once_over_interfaces}
use Rattle.wire.specs.declared.NodeId.{NodeId}

-- ---- an alive of another session

-- node 2 has been measured in session 2
abbrev with_2 : List Call
with_2 = on ∷ alive 2 (in_session 2) ∷ pongs 2 2 (pos 0) (pos 0) ∷ []

-- 60 beats a minute
abbrev slow : ℤ → Timeline
slow beat = line (pos 1_000_000) beat (pos 0)

-- what it says next: a line, in session s
abbrev says : ℕ → AliveMsg
says s = record { node_id = node 2; timeline = Some (slow (pos 1)); start_stop = None; session_id = Some (node s); mep4 = None }

abbrev heard : ℕ → Handled
heard s = handle_alive (led with_2) (arrived 0 (port 2) (at (pos 0))) (says s)

abbrev session_of : Option NodeId → ℕ
session_of None = 0
session_of (Some n) = n.0

held_elsewhere : (p : Peer) → held_peer (node 2) (led with_2).peers ≡ Some p → p.session_id ≢ Some (node 3)
unfolding everything
held_elsewhere p h q = unlike session_of refl (ap (λ (x : Peer). x.session_id) (some_inj _ p h) ∙ q)

-- It goes to session 3: no election is called for, and our state stays.
pub new_session_elects_nothing_met : (heard 3).needs_resolution ≡ false
new_session_elects_nothing_met = new_session_elects_nothing (led with_2) (arrived 0 (port 2) (at (pos 0))) (says 3) held_elsewhere

pub new_session_keeps_state_met : (resolved_if_needed (at (pos 0)) (heard 3)).box.state ≡ (led with_2).state
new_session_keeps_state_met = new_session_keeps_state (led with_2) (arrived 0 (port 2) (at (pos 0))) (says 3) held_elsewhere

-- It stays in session 2: one is called for.
pub same_session_elects : (heard 2).needs_resolution ≡ true
unfolding everything
same_session_elects = refl

-- ---- the line after an election

-- the box that an election makes of the one that these calls lead to
abbrev elected : List Call → Box
elected cs = resolved (at (pos 0)) (led cs)

-- node 2 is in our session, says a line of this beat origin, and has not been measured
abbrev beside : ℤ → List Call
beside beat = on ∷ alive 2 (in_session 1 ++ with_line (slow beat)) ∷ []

none_above : Each (λ l. origin_of l ≤ℤ pos 0) (lines (at (pos 0)) (led (beside (pos 0))))
unfolding everything
none_above = le_z_yes tt ▸ nil

-- The beat origin is 0, as ours is: our line stays.
pub election_line_ours : (elected (beside (pos 0))).state.timeline ≡ (led (beside (pos 0))).state.timeline
unfolding everything
election_line_ours = ⊎_elim (λ q. q) (λ k. clash_ℤ k.1 (each_mem none_above k.0.known)) (election_line (at (pos 0)) (led (beside (pos 0))) refl (record { sfits = omega arith }))

-- It is 1: the known line is taken.
pub election_line_known : (k : FromKnown (at (pos 0)) (led (beside (pos 1)))) × (pos 0 <ℤ origin_of k.line)
unfolding everything
election_line_known = ⊎_elim (λ q. absurd (unlike (λ l. nat_abs (origin_of l)) refl q)) (λ k. k) (election_line (at (pos 0)) (led (beside (pos 1))) refl (record { sfits = omega arith }))

-- node 2 is in session 2 and says these entries; since its second sample, on which no election is held, it is ahead of us by 500,001
abbrev ahead : List ℕ → List Call
ahead entries = on ∷ alive 2 (in_session 2 ++ entries) ∷ pongs 2 2 (pos 0) (pos 0) ∷ pongs 2 2 (pos 500_002) (pos 2) ∷ []

-- An election changes to its session and takes its line,
pub election_line_changed_known : FromKnown (at (pos 0)) (led (ahead (with_line (slow (pos 1)))))
unfolding everything
election_line_changed_known = ⊎_elim (λ q. absurd (cons≢nil q.0)) (λ k. k) (election_line_changed (at (pos 0)) (led (ahead (with_line (slow (pos 1))))) (unlike (λ n. n.0) refl))

-- or leaves ours where none is known.
pub election_line_changed_ours : (elected (ahead [])).state.timeline ≡ (led (ahead [])).state.timeline
unfolding everything
election_line_changed_ours = ⊎_elim (λ q. q.1) (λ k. absurd (Memᴰ.not-nil k.known)) (election_line_changed (at (pos 0)) (led (ahead [])) (unlike (λ n. n.0) refl))

-- we have come into session 0 and have its line; then node 2's median rises by 501
abbrev joined : List Call
joined = on ∷ alive 2 (in_session 0 ++ with_line (slow (pos 1))) ∷ pongs 2 0 (pos 0) (pos 0) ∷ pongs 2 0 (pos 502) (pos 2) ∷ []

-- An election leaves the line,
pub joining_keeps_line_met : (elected joined).state.timeline ≡ (led joined).state.timeline
unfolding everything
joining_keeps_line_met = joining_keeps_line (at (pos 0)) (led joined) refl (record { sfits = omega arith }) (le_z_yes tt ▸ nil)

-- which is the session's, and readopts the offset.
pub joining_readopts : ((led joined).state.timeline ≡ slow (pos 1)) × ((led joined).session_offset ≡ pos 0) × ((elected joined).session_offset ≡ pos 501)
unfolding everything
joining_readopts = (refl, refl, refl)

-- ---- start and stop

abbrev start : ℤ → StartStopState
start time = record { is_playing = true; beat = record { 0 = pos 0 }; time = at time }

abbrev stop : ℤ → StartStopState
stop time = record { is_playing = false; beat = record { 0 = pos 0 }; time = at time }

abbrev asked : StartStopState → SessionState
asked s = record { timeline = default_state.timeline; start_stop = s }

-- node 2 is in our session and says that it started at 7
abbrev beside_start : List Call
beside_start = on ∷ alive 2 (in_session 1 ++ with_start_stop (start (pos 7))) ∷ []

-- After an election ours is the latest,
pub election_start_stop_met : IsBest moment_of (Some (our_start_stop (at (pos 0)) (led beside_start))) (start_stops (at (pos 0)) (led beside_start)) (shared_start_stop (elected beside_start))
unfolding everything
election_start_stop_met = election_start_stop (at (pos 0)) (led beside_start) (record { sfits = omega arith } ▸ nil) refl

-- also where it changes the session,
pub election_start_stop_changed_met : IsBest moment_of None (start_stops (at (pos 0)) (led (ahead (with_start_stop (start (pos 7)))))) (shared_start_stop (elected (ahead (with_start_stop (start (pos 7))))))
unfolding everything
election_start_stop_changed_met =
    ⊎_elim (λ q. absurd (cons≢nil q.0)) (λ k. k)
    (election_start_stop_changed (at (pos 0)) (led (ahead (with_start_stop (start (pos 7))))) (record { sfits = omega arith } ▸ nil) (unlike (λ n. n.0) refl))

-- which is node 2's.
pub latest_is : (shared_start_stop (elected beside_start) ≡ start (pos 7)) × (shared_start_stop (elected (ahead (with_start_stop (start (pos 7))))) ≡ start (pos 7))
unfolding everything
latest_is = (refl, refl)

-- Node 1 commits a stop at 5: it is later than that start,
pub later_commit_stands_met : pos 7 <ℤ moment_of (shared_start_stop (committed (led beside_start) (asked (stop (pos 5))) (at (pos 0))))
unfolding everything
later_commit_stands_met =
    later_commit_stands (led beside_start) (asked (stop (pos 5))) (at (pos 0)) (unlike (λ s. nat_abs (moment_of s)) refl) (record { sfits = omega arith }) (start (pos 7)) (inr (Memᴰ.head refl))

-- by 1.
pub later_by_one : shared_start_stop (committed (led beside_start) (asked (stop (pos 5))) (at (pos 0))) ≡ stop (pos 8)
unfolding everything
later_by_one = refl

-- node 3 comes into our session, and commits a start at 5; we hear the alive that tells of it
abbrev node_3 : Box
node_3 = run (new (node 3)) (on ∷ alive 1 (in_session 1) ∷ pongs 1 1 (pos 0) (pos 0) ∷ [])

abbrev hears_of_it : List Call
hears_of_it = on ∷ hears 3 (our_alive (committed node_3 (asked (start (pos 5))) (at (pos 0))) None false) ∷ []

pub node_3_joined : node_3.session_id ≡ node 1
unfolding everything
node_3_joined = refl

-- An election of ours takes the start.
pub later_commit_taken_met : (elected hears_of_it).state.start_stop ≡ start (pos 5)
unfolding everything
later_commit_taken_met =
    later_commit_taken node_3 (asked (start (pos 5))) (at (pos 0)) (unlike (λ s. nat_abs (moment_of s)) refl) (record { sfits = omega arith }) (led hears_of_it) (at (pos 0)) refl (Memᴰ.head refl) (inl refl ▸ nil) (inl refl)

-- ---- enabling

-- 150 beats a minute from the time 3 on, committed while disabled
abbrev prepared : List Call
prepared = commit (lined (line (pos 400_000) (pos 1) (pos 3))) (at (pos 0)) 4096 ∷ []

abbrev on_at_7 : Call
on_at_7 = switch true (at (pos 7)) 4096

-- Enabled at 7 the box has the tempo,
pub enabling_keeps_tempo_met : (led (prepared ++ (on_at_7 ∷ []))).state.timeline.tempo ≡ (led prepared).state.timeline.tempo
unfolding everything
enabling_keeps_tempo_met = enabling_keeps_tempo (node 1) prepared refl (at (pos 7)) 4096 _ _ refl

-- and the state,
pub enabling_keeps_line_met : (led (prepared ++ (on_at_7 ∷ []))).state ≡ (led prepared).state
unfolding everything
enabling_keeps_line_met = enabling_keeps_line (node 1) prepared refl (at (pos 7)) 4096 _ _ refl (unlike nat_abs refl)

-- which is the committed one.
pub enabled_with : (led (prepared ++ (on_at_7 ∷ []))).state ≡ lined (line (pos 400_000) (pos 1) (pos 3))
unfolding everything
enabled_with = refl

-- ---- disabling

-- Disabled again at 9 it has the state still,
pub disabling_keeps_state_met : (led (prepared ++ (on_at_7 ∷ off_at 9 ∷ []))).state ≡ (led (prepared ++ (on_at_7 ∷ []))).state
unfolding everything
disabling_keeps_state_met = disabling_keeps_state (led (prepared ++ (on_at_7 ∷ []))) (at (pos 9)) 4096 _ _ refl

-- and was enabled in between.
pub disabled_again : ((led (prepared ++ (on_at_7 ∷ []))).enabled ≡ true) × ((led (prepared ++ (on_at_7 ∷ off_at 9 ∷ []))).enabled ≡ false)
unfolding everything
disabled_again = (refl, refl)

-- calls of other kinds
abbrev not_on : List Call
not_on = placed ∷ commit (lined (slow (pos 1))) (at (pos 0)) 4096 ∷ ticks 1 ∷ alive 2 (in_session 2) ∷ off_at 2 ∷ []

-- They leave a new engine disabled,
pub disabled_until_switched_on_met : (led not_on).enabled ≡ false
disabled_until_switched_on_met = disabled_until_switched_on (node 1) not_on (refl ▸ refl ▸ refl ▸ refl ▸ refl ▸ nil)

-- and switching on enables it.
pub switched_on_then : (led (not_on ++ (on_at_7 ∷ []))).enabled ≡ true
unfolding everything
switched_on_then = refl

-- ---- what is told

-- node 2 is in session 0 and says a line; its first sample is still to come
abbrev before_joining : List Call
before_joining = on ∷ alive 2 (in_session 0 ++ with_line (slow (pos 1))) ∷ []

-- The sample brings us into session 0, whose line is another: it is told,
pub change_told_met : Memᴰ (state_changed (led (before_joining ++ (pongs 2 0 (pos 0) (pos 0) ∷ []))).state) (put_out before_joining (pongs 2 0 (pos 0) (pos 0)))
unfolding everything
change_told_met = ⊎_elim (λ q. absurd (unlike (λ s. nat_abs (origin_of s.timeline)) refl q)) (λ m. m) (change_told (led before_joining) (pongs 2 0 (pos 0) (pos 0)) _ _ refl)

-- once, and after all these calls it is the last that was told.
pub told_joined : (states (put_out before_joining (pongs 2 0 (pos 0) (pos 0))) ≡ lined (slow (pos 1)) ∷ []) × (states_told default_state (new (node 1)) joined ≡ lined (slow (pos 1)))
unfolding everything states_told
told_joined = (refl, refl)

-- A call of the timer tells of no state: it leaves the one that is held.
pub untold_unchanged_met : (led (joined ++ (ticks 1 ∷ []))).state ≡ (led joined).state
unfolding everything
untold_unchanged_met = untold_unchanged (led joined) (ticks 1) _ (set_timer (at (pos 50_000)) ∷ []) refl (λ s m. none_some s (sym (each_mem no_state m)))
  where
    no_state : Each (λ o. state_of o ≡ None) (set_timer (at (pos 50_000)) ∷ [])
    no_state = refl ▸ nil

-- ---- what goes out on two interfaces

abbrev lan : Interface
lan = record { id = 3; addr = port 10 }

abbrev wifi : Interface
wifi = record { id = 4; addr = port 11 }

abbrev both_placed : List Call
both_placed = interface_added 3 (port 10) ∷ interface_added 4 (port 11) ∷ []

abbrev both_on : List Call
both_on = both_placed ++ (on ∷ [])

-- Switched on, node 1 announces itself on the second,
pub enabling_announces_met : Memᴰ (announcement (switched_on (led both_placed) (at (pos 0))) wifi) (put_out both_placed on)
unfolding everything
enabling_announces_met = enabling_announces (led both_placed) _ _ (at (pos 0)) 4096 refl refl wifi (Memᴰ.tail (Memᴰ.head refl))

-- as on the first.
pub enabling_puts_out : put_out both_placed on
    ≡ state_changed default_state ∷ announcement (led both_on) lan ∷ announcement (led both_on) wifi ∷ set_timer (at (pos 250_000)) ∷ []
unfolding everything
enabling_puts_out = refl

abbrev asks_slow : Call
asks_slow = commit (lined (slow (pos 1))) (at (pos 9)) 4096

-- A slower line is committed: it goes out on the second,
pub commit_announces_met : Memᴰ (announcement (committed (led both_on) (lined (slow (pos 1))) (at (pos 9))) wifi) (put_out both_on asks_slow)
unfolding everything
commit_announces_met = commit_announces (led both_on) _ _ (at (pos 9)) 4096 (lined (slow (pos 1))) refl refl refl wifi (Memᴰ.tail (Memᴰ.head refl))

-- as on the first.
pub commit_puts_out : put_out both_on asks_slow
    ≡ state_changed (lined (slow (pos 1))) ∷ announcement (led (both_on ++ (asks_slow ∷ []))) lan ∷ announcement (led (both_on ++ (asks_slow ∷ []))) wifi ∷ set_timer (at (pos 250_009)) ∷ []
unfolding everything
commit_puts_out = refl

-- Switched off, it says bye on the second,
pub leaving_announces_met : Memᴰ (farewell (led both_on) wifi) (put_out both_on (off_at 9))
unfolding everything
leaving_announces_met = leaving_announces (led both_on) _ _ (at (pos 9)) 4096 refl refl wifi (Memᴰ.tail (Memᴰ.head refl))

-- as on the first.
pub leaving_puts_out : put_out both_on (off_at 9) ≡ farewell (led both_on) lan ∷ farewell (led both_on) wifi ∷ []
unfolding everything
leaving_puts_out = refl

-- ---- one box on two interfaces

-- node 2 says that it is in our session, and at which address it is
abbrev there : ℕ → AliveMsg
there k = record { node_id = node 2; timeline = None; start_stop = None; session_id = Some (node 1); mep4 = Some (port k) }

abbrev its_alive : ℕ → List ℕ
its_alive k = announces 2 (in_session 1 ++ mep4_entry (Some (port k)))

-- on interface i, from that address
abbrev heard_on : ℕ → ℕ → ℕ → Call
heard_on i k now = packet i (port k) (its_alive k) (at (pos now)) 4096

abbrev on_one : List Call
on_one = both_on ++ (heard_on 3 20 0 ∷ [])

abbrev on_both : List Call
on_both = both_on ++ (heard_on 3 20 0 ∷ heard_on 4 21 9 ∷ [])

-- Heard on interface 3 and then on interface 4, from another address, it is one among the counted,
pub counted_once_over_interfaces_met : (c : CountsOthers (led on_both) (told 0 (new (node 1)) on_both)) × Each (λ n. Memᴰ n.0 (ids (led on_one).peers)) c.others
unfolding everything
counted_once_over_interfaces_met =
    counted_once_over_interfaces (node 1) both_on (its_alive 20) (its_alive 21) (there 20) (there 21) refl refl refl 3 4 (port 20) (port 21) (at (pos 0)) (at (pos 9)) 4096 4096 _ _ _ _ refl refl

-- and the only one: the count told is 1 after the first and stays 1.
pub counted_one : (told 0 (new (node 1)) on_one ≡ 1) × (told 0 (new (node 1)) on_both ≡ 1) × (ids (led on_both).peers ≡ 2 ∷ [])
unfolding everything told
counted_one = (refl, refl, refl)

-- Two boxes are in session, one more than the count: node 1 itself and node 2.
pub boxes_in_session_met : (c : CountsAllButOne (led on_both) 1) × (length c.boxes ≡ 2) × Memᴰ (node 1) c.boxes × Memᴰ (node 2) c.boxes
unfolding everything
boxes_in_session_met =
    let c : CountsAllButOne (led on_both) 1 = subst (CountsAllButOne (led on_both)) counted_one.1 (boxes_in_session (node 1) on_both refl) in
    (c, c.number, c.all_in (node 1) (oneself refl refl), c.all_in (node 2) (another (record { one = _; held = Memᴰ.head refl; id = refl; session = refl })))
