-- Lists of calls that meet the premises of the clerk's claims: the witness of a claim has its name and `-met`, and what it comes to stands by it.
use Rattle.std.specs.Prelude.{ℕ, ◌+◌, ◌≤◌, ◌≡◌, refl, ◌≢◌, ◌⊎◌, Bool, true, false, ℤ, pos, length, ◌≤ℤ◌, Option, Some, None}
use Rattle.std.proofs.Common.{sym, ap}
use mathlib.Core.List.{List, [], ◌∷◌, ◌++◌, map, Memᴰ, cons≢nil}
use Rattle.std.specs.Int.Signed.{le_z_yes}
use Rattle.timeline.specs.declared.SessionState.{SessionState}
use Rattle.wire.specs.Layout.{mep4_entry}
use Rattle.lists.specs.Lists.{keep}
use Rattle.model.specs.Peers.{Samples, Peer, no_samples}
use Rattle.model.specs.Engine.{Box, state_changed}
use Rattle.model.specs.Packet.{AliveMsg, held_peer}
use Rattle.model.specs.Calls.{Call, packet, tick, commit, interface_added, interface_removed, Outcome, refused, done, next, step, run, outputs_of}
use Rattle.model.specs.Answer.{kind, buffer_after}
use Rattle.model.specs.Laws.Tools.Open.{everything}
use Rattle.lists.specs.Laws.Bools.{clash}
use Rattle.lists.specs.Laws.Each.{Each, nil, ◌▸◌}
use Rattle.model.specs.Laws.Tools.Scenes.{at, node, port, line, lined, led, placed, on, ticks, announces, alive, in_session, with_addr, bye, pongs, hears_at, put_out}
use Rattle.model.specs.Laws.Clerk.Ids.{ids}
use Rattle.model.specs.Laws.Clerk.Staying.{is_alive_of}
use Rattle.model.specs.Laws.Clerk.Seen.{HeldAs}
use Rattle.model.specs.Laws.Clerk.Silent.{asked_over, Unreset, over, goes_on}
use Rattle.model.proofs.Laws.Clerk.Silent.{five_asks, sixth_ends, ended_after_five, stays_ended}
use Rattle.model.specs.Laws.Clerk.Pings.{sends_ask, asks_at}
use Rattle.model.specs.Laws.Clerk.Asked.{asks_to}
use Rattle.model.proofs.Laws.Clerk.Asked.{asked_in_packets, five_asks_sent}
use Rattle.model.specs.Laws.Clerk.Quiet.{Utters, nothing, the_state}
use Rattle.model.proofs.Laws.Clerk.Quiet.{refused_leaves_box, refused_leaves_buffer, refused_skipped, own_alive_nothing, disabled_quiet}
use Rattle.model.proofs.Laws.Clerk.Claims.{announced_twice, announced_at_once, announced_again, one_of_an_id, seen_lately, removed_only, bye_removes, seen_by_alive, exactly_six_seconds}
use Rattle.wire.specs.declared.SocketAddrPlain.{SocketAddrPlain}

-- ---- announcements of one node on two ports

-- node n says that it is in session n, and at which address it is
abbrev saying : ℕ → Option SocketAddrPlain → AliveMsg
saying n addr = record { node_id = node n; timeline = None; start_stop = None; session_id = Some (node n); mep4 = addr }

abbrev its_alive : ℕ → Option SocketAddrPlain → List ℕ
its_alive n addr = announces n (in_session n ++ mep4_entry addr)

-- node 2's address on interface i
abbrev its_addr : ℕ → Option SocketAddrPlain
its_addr i = Some (port (10 + i))

-- node 2's alive, taken on interface i from port i
abbrev on_interface : ℕ → ℤ → Call
on_interface i now = packet i (port i) (its_alive 2 (its_addr i)) (at now) 4096

-- node 1 has both
abbrev two_placed : List Call
two_placed = interface_added 3 (port 0) ∷ interface_added 4 (port 1) ∷ on ∷ []

abbrev once : List Call
once = two_placed ++ (on_interface 3 (pos 0) ∷ [])

abbrev twice : ℤ → List Call
twice now = two_placed ++ (on_interface 3 (pos 0) ∷ on_interface 4 now ∷ [])

-- On interface 3 at 0 and on interface 4 at 9: no id is added.
pub announced_twice_met : (k : ℕ) → Memᴰ k (ids (led (twice (pos 9))).peers) → Memᴰ k (ids (led once).peers)
unfolding everything
announced_twice_met =
    announced_twice (node 1) two_placed (its_alive 2 (its_addr 3)) (its_alive 2 (its_addr 4)) (saying 2 (its_addr 3)) (saying 2 (its_addr 4)) refl refl refl
    3 4 (port 3) (port 4) (at (pos 0)) 4096 _ _ refl (at (pos 9)) 4096 _ _ refl

-- At 0 on both: the ids are the same.
pub announced_at_once_met : ids (led (twice (pos 0))).peers ≡ ids (led once).peers
unfolding everything
announced_at_once_met =
    announced_at_once (node 1) two_placed (its_alive 2 (its_addr 3)) (its_alive 2 (its_addr 4)) (saying 2 (its_addr 3)) (saying 2 (its_addr 4)) refl refl refl
    3 4 (port 3) (port 4) (at (pos 0)) 4096 _ _ refl 4096 _ _ refl

-- The second address is another, and is taken.
pub announced_addrs : (map (λ (p : Peer). p.addr) (led once).peers ≡ port 13 ∷ []) × (map (λ (p : Peer). p.addr) (led (twice (pos 9))).peers ≡ port 14 ∷ [])
unfolding everything
announced_addrs = (refl, refl)

-- Node 2 is held each time, and no other.
pub announced_ids : (ids (led once).peers ≡ 2 ∷ []) × (ids (led (twice (pos 9))).peers ≡ 2 ∷ []) × (ids (led (twice (pos 0))).peers ≡ 2 ∷ [])
unfolding everything
announced_ids = (refl, refl, refl)

-- ---- an announcement after other calls

abbrev pub accepted : Outcome → Bool
accepted (refused n) = false
accepted (done e os) = true

pub done_if : (e : Box) (o : Outcome) → accepted o ≡ true → o ≡ done (next e o) (outputs_of o)
done_if e (refused n) h = clash (sym h)
done_if e (done e' os) h = refl

-- then node 3's alive, a tick, the bye of a node that is not held, the loss of interface 3, and a tick
abbrev in_between : List Call
in_between = once ++ (hears_at 3 (its_alive 3 None) 9 ∷ ticks 50_000 ∷ bye 4 ∷ interface_removed 3 ∷ ticks 300_000 ∷ [])

-- node 2's alive after them, on interface 4
abbrev heard_again : Outcome
heard_again = step (led in_between) (on_interface 4 (pos 300_001))

-- No id is added,
pub announced_again_met : (k : ℕ) → Memᴰ k (ids (next (led in_between) heard_again).peers) → Memᴰ k (ids (led in_between).peers)
unfolding everything
announced_again_met =
    announced_again (node 1) in_between (its_alive 2 (its_addr 4)) (saying 2 (its_addr 4)) refl (Memᴰ.head refl) 4 (port 4) (at (pos 300_001)) 4096
    (next (led in_between) heard_again) (outputs_of heard_again) (done_if (led in_between) heard_again refl)

-- and both are held still.
pub announced_again_ids : (ids (led in_between).peers ≡ 2 ∷ 3 ∷ []) × (ids (next (led in_between) heard_again).peers ≡ 2 ∷ 3 ∷ [])
unfolding everything
announced_again_ids = (refl, refl)

-- ---- a neighbour that is held and measured

abbrev pub with_2 : List Call
with_2 = on ∷ alive 2 (in_session 2) ∷ []

-- node 2: its samples, when it is pinged next, how many pings went unanswered, whether it is measured
abbrev pub node_2 : Samples → ℕ → ℕ → Bool → Peer
node_2 samples ping timeouts measured = record {
  id = node 2;
  session_id = Some (node 2);
  timeline_ghost = None;
  start_stop_ghost = None;
  last_seen = at (pos 0);
  addr = port 2;
  samples = samples;
  next_ping_time = at (pos ping);
  ping_timeouts = timeouts;
  measuring = measured;
}

abbrev pub held : Peer
held = node_2 no_samples 50_000 1 true

-- So it stands after the two calls.
pub with_2_holds : (led with_2).peers ≡ held ∷ []
unfolding everything
with_2_holds = refl

-- Whoever has its id is it.
pub one_of_an_id_met : (q : Peer) → Memᴰ q (led with_2).peers → q.id ≡ node 2 → q ≡ held
unfolding everything
one_of_an_id_met q = one_of_an_id (node 1) with_2 held q (Memᴰ.head refl)

-- ---- a neighbour that was seen at 0

abbrev after_six_seconds : List Call
after_six_seconds = with_2 ++ (ticks 6_000_000 ∷ [])

-- node 2's alive, at 6,000,001
abbrev late_alive : Call
late_alive = hears_at 2 (its_alive 2 None) 6_000_001

-- At 6,000,000 whoever is held was seen at 0 or later,
pub seen_lately_met : Each (λ p. pos 0 ≤ℤ p.last_seen.0) (led after_six_seconds).peers
unfolding everything
seen_lately_met = seen_lately (node 1) with_2 (ticks 6_000_000) _ _ refl refl

-- and node 2 is, since nothing removes it,
pub removed_only_met : Memᴰ 2 (ids (led after_six_seconds).peers)
unfolding everything
removed_only_met = removed_only (node 1) with_2 (ticks 6_000_000) _ _ refl held (Memᴰ.head refl) refl refl (λ up unsaid. le_z_yes tt)

-- and since it was seen exactly 6,000,000 before.
pub exactly_six_seconds_met : Memᴰ 2 (ids (led after_six_seconds).peers)
unfolding everything
exactly_six_seconds_met = exactly_six_seconds (node 1) with_2 (ticks 6_000_000) _ _ refl held (Memᴰ.head refl) refl refl refl

-- At 6,000,001 it goes,
pub six_seconds_and_one : (led (with_2 ++ (ticks 6_000_001 ∷ []))).peers ≡ []
unfolding everything
six_seconds_and_one = refl

-- but stays where that call is its alive.
pub removed_only_at_alive : Memᴰ 2 (ids (led (with_2 ++ (late_alive ∷ []))).peers)
unfolding everything
removed_only_at_alive = removed_only (node 1) with_2 late_alive _ _ refl held (Memᴰ.head refl) refl refl (λ up unsaid. clash unsaid)

-- ---- two neighbours, of which one says something

-- node 3's alive, at 9
abbrev third : Call
third = hears_at 3 (its_alive 3 None) 9

abbrev with_2_and_3 : List Call
with_2_and_3 = with_2 ++ (third ∷ [])

-- After it each is announced by it and was seen at 9, or was held before and was seen when it had been.
pub seen_by_alive_met : Each (λ q. ((is_alive_of q.id third ≡ true) × (q.last_seen ≡ at (pos 9))) ⊎ HeldAs (led with_2).peers q.id q.last_seen) (led with_2_and_3).peers
unfolding everything
seen_by_alive_met = seen_by_alive (node 1) with_2 third _ _ refl

-- Node 2 is the one case and node 3 the other: the first was seen at 0 and is not announced, the second was seen at 9 and is.
pub both_cases : (ids (led with_2_and_3).peers ≡ 2 ∷ 3 ∷ []) × (map (λ (p : Peer). p.last_seen) (led with_2_and_3).peers ≡ at (pos 0) ∷ at (pos 9) ∷ [])
    × (is_alive_of (node 2) third ≡ false) × (is_alive_of (node 3) third ≡ true)
unfolding everything
both_cases = (refl, refl, refl, refl)

-- After node 2's bye none has its id,
pub bye_removes_met : Each (λ q. q.id ≢ node 2) (led (with_2_and_3 ++ (bye 2 ∷ []))).peers
unfolding everything
bye_removes_met = bye_removes (node 1) with_2_and_3 (bye 2) _ _ refl (node 2) refl refl

-- and node 3 is held still.
pub bye_leaves_3 : ids (led (with_2_and_3 ++ (bye 2 ∷ []))).peers ≡ 3 ∷ []
unfolding everything
bye_leaves_3 = refl

-- ---- a neighbour that does not answer

-- its sample of 0, which answers a ping of 0
abbrev pub sample_0 : Samples
sample_0 = record { offsets = pos 0 ∷ []; ping_times = at (pos 0) ∷ [] }

-- node 2 has answered once, at 0
abbrev pub answered : List Call
answered = with_2 ++ (pongs 2 2 (pos 0) (pos 0) ∷ [])

-- calls at each of which a ping is due
abbrev five : List Call
five = ticks 50_000 ∷ ticks 100_000 ∷ ticks 150_000 ∷ ticks 200_000 ∷ ticks 250_000 ∷ []

abbrev pub six : List Call
six = five ++ (ticks 300_000 ∷ [])

unreset : Unreset (node 2) (led answered) six
unfolding everything
unreset = goes_on _ refl refl (goes_on _ refl refl (goes_on _ refl refl (goes_on _ refl refl (goes_on _ refl refl (goes_on _ refl refl over)))))

-- It is asked at most five times,
pub five_asks_met : asked_over (node 2) (led answered) six ≤ 5
five_asks_met = five_asks (node 1) answered (node 2) six unreset

-- and five times it is. After an alive that call itself is the first of them.
pub just_five : (asked_over (node 2) (led answered) six ≡ 5) × (asked_over (node 2) (led (on ∷ [])) (alive 2 (in_session 2) ∷ six) ≡ 5) × (asked_over (node 2) (led with_2) six ≡ 4)
unfolding everything asked_over
just_five = (refl, refl, refl)

-- ---- the same in packets, with an interface

abbrev placed_answered : List Call
placed_answered = placed ∷ answered

unreset_placed : Unreset (node 2) (led placed_answered) six
unfolding everything
unreset_placed = goes_on _ refl refl (goes_on _ refl refl (goes_on _ refl refl (goes_on _ refl refl (goes_on _ refl refl (goes_on _ refl refl over)))))

-- At most five pings without `_pgt` are sent to it,
pub five_asks_sent_met : length (asks_to (node 2) (record { id = 0; addr = port 0 }) (led placed_answered) six) ≤ 5
five_asks_sent_met = five_asks_sent (node 1) placed_answered (node 2) (record { id = 0; addr = port 0 }) six unreset_placed

-- the numbers of them among the outputs of each call
abbrev asks_put_out : Box → List Call → List ℕ
asks_put_out e [] = []
asks_put_out e (c ∷ cs) = length (keep sends_ask (outputs_of (step e c))) ∷ asks_put_out (next e (step e c)) cs

-- and five are.
pub just_five_sent : asks_put_out (led placed_answered) six ≡ 1 ∷ 1 ∷ 1 ∷ 1 ∷ 1 ∷ 0 ∷ []
unfolding everything
just_five_sent = refl

-- The first goes to its address, as the tally counts.
pub asked_in_packets_met : length (keep (asks_at 0 (port 2)) (put_out placed_answered (ticks 50_000))) ≡ 1
unfolding everything
asked_in_packets_met = asked_in_packets (node 1) placed_answered (ticks 50_000) (record { id = 0; addr = port 0 }) (Memᴰ.head refl) (node 2) (port 2) (refl ▸ nil)

-- Nodes 2 and 3 at one address are each sent their own.
pub two_at_one_address : length (keep (asks_at 0 (port 9)) (put_out (placed ∷ on ∷ alive 2 (with_addr 9) ∷ alive 3 (with_addr 9) ∷ []) (ticks 50_000))) ≡ 2
unfolding everything
two_at_one_address = refl

-- ---- the end of measuring

-- So it stands after five and after six of these calls.
pub after_five : (led (answered ++ five)).peers ≡ node_2 sample_0 300_000 5 true ∷ []
unfolding everything
after_five = refl

pub after_six : (led (answered ++ six)).peers ≡ node_2 sample_0 300_000 5 false ∷ []
unfolding everything
after_six = refl

-- The sixth ends measuring,
pub sixth_ends_met : Each (λ q. q.id ≡ node 2 → q.measuring ≡ false) (led (answered ++ six)).peers
unfolding everything
sixth_ends_met = sixth_ends (node 1) (answered ++ five) (node_2 sample_0 300_000 5 true) (ticks 300_000) _ _ (ap (held_peer (node 2)) after_five) refl refl refl refl refl

-- as follows from the five asks alone,
pub ended_after_five_met : Each (λ q. q.id ≡ node 2 → q.measuring ≡ false) (led (answered ++ six)).peers
unfolding everything asked_over
ended_after_five_met =
    ended_after_five (node 1) answered (node 2) five (goes_on _ refl refl (goes_on _ refl refl (goes_on _ refl refl (goes_on _ refl refl (goes_on _ refl refl over))))) refl
    (node_2 sample_0 300_000 5 true) (ap (held_peer (node 2)) after_five) (ticks 300_000) _ _ refl refl refl refl

-- and it stays ended at a tick,
pub stays_ended_met : Each (λ q. q.id ≡ node 2 → q.measuring ≡ false) (led (answered ++ (six ++ (ticks 350_000 ∷ [])))).peers
unfolding everything
stays_ended_met = stays_ended (node 1) (answered ++ six) (node_2 sample_0 300_000 5 false) (ticks 350_000) _ _ (ap (held_peer (node 2)) after_six) refl refl refl

-- and at a pong of another session, here after the alive and five calls.
pub stays_ended_at_pong : Each (λ q. q.id ≡ node 2 → q.measuring ≡ false) (led (with_2 ++ (five ++ (pongs 2 3 (pos 0) (pos 0) ∷ [])))).peers
unfolding everything
stays_ended_at_pong = stays_ended (node 1) (with_2 ++ five) (node_2 no_samples 250_000 5 false) (pongs 2 3 (pos 0) (pos 0)) _ _ refl refl refl refl

-- It is held then, too.
pub ended_holds : (ids (led (answered ++ (six ++ (ticks 350_000 ∷ [])))).peers ≡ 2 ∷ []) × (ids (led (with_2 ++ (five ++ (pongs 2 3 (pos 0) (pos 0) ∷ [])))).peers ≡ 2 ∷ [])
unfolding everything
ended_holds = (refl, refl)

-- ---- calls that change nothing

-- node 1's own alive, at 300,000
abbrev own : Call
own = packet 0 (port 1) (its_alive 1 None) (at (pos 300_000)) 4096

-- It leaves the box and puts out nothing,
pub own_alive_nothing_met : (led (placed ∷ with_2 ++ (own ∷ [])) ≡ led (placed ∷ with_2)) × (put_out (placed ∷ with_2) own ≡ [])
unfolding everything
own_alive_nothing_met = own_alive_nothing (led (placed ∷ with_2)) 0 (port 1) (its_alive 1 None) (at (pos 300_000)) 4096 (saying 1 None) refl refl _ _ refl

-- where a tick puts out a broadcast, a ping and a timer.
pub tick_instead : map kind (put_out (placed ∷ with_2) (ticks 300_000)) ≡ 1 ∷ 1 ∷ 4 ∷ []
unfolding everything
tick_instead = refl

-- a tick with too small a buffer
abbrev cramped : Call
cramped = tick (at (pos 300_000)) 4095

-- It is refused: the box, the buffer and all that follows are as without it.
pub refused_met : (next (led with_2) (step (led with_2) cramped) ≡ led with_2) × (buffer_after (step (led with_2) cramped) (7 ∷ []) ≡ 7 ∷ []) × (run (led with_2) (cramped ∷ six) ≡ run (led with_2) six)
unfolding everything
refused_met = (refused_leaves_box (led with_2) cramped 2 refl, refused_leaves_buffer (led with_2) cramped 2 (7 ∷ []) refl, refused_skipped (led with_2) cramped six 2 refl)

-- ---- a disabled engine

abbrev asked : SessionState
asked = lined (line (pos 400_000) (pos 1) (pos 0))

abbrev commits : Call
commits = commit asked (at (pos 0)) 4096

-- A commit puts out its state, and nothing else.
pub disabled_quiet_met : put_out [] commits ≡ state_changed asked ∷ []
unfolding everything
disabled_quiet_met = go (disabled_quiet (led []) commits _ _ refl refl)
  where
    go : Utters (led []) (put_out [] commits) commits → put_out [] commits ≡ state_changed asked ∷ []
    go (nothing h) = absurd (cons≢nil h)
    go (the_state h) = h
