-- Lists of calls with pongs that come twice: those that meet the premises of the claims on them, and what is kept of ping times.
use Rattle.std.specs.Prelude.{ℕ, ◌≡◌, refl, true, false, ℤ, pos, negsuc, Some, None}
use Rattle.std.proofs.Common.{arith}
use mathlib.Core.List.{List, [], ◌∷◌, ◌++◌, map, Memᴰ}
use Rattle.time.specs.declared.HostTime.{HostTime}
use Rattle.wire.specs.Parse.{parse}
use Rattle.lists.specs.Lists.{first}
use Rattle.model.specs.Peers.{Peer}
use Rattle.model.specs.Engine.{Box}
use Rattle.model.specs.Packet.{owns}
use Rattle.model.specs.Calls.{Call, packet, Outcome, refused, step, next, outputs_of}
use Rattle.model.specs.Laws.Calls.Messages.{pong_said, pong_msg}
use Rattle.model.specs.Laws.Tools.Open.{everything}
use Rattle.model.specs.Laws.Tools.Scenes.{at, node, port, led, on, alive, in_session, with_addr, pong, unnamed_pong, pongs, hears, hears_at}
use Rattle.model.specs.Laws.Clerk.PingTimes.{FromPong}
use Rattle.model.specs.Laws.Clerk.Claims.{CountsOnce}
use Rattle.model.proofs.Laws.Clerk.Claims.{ponged_twice, each_from_a_pong}
use Rattle.model.proofs.Laws.Clerk.Witness.{accepted, done_if, with_2, node_2, held, sample_0, answered, six}

-- ---- a pong that comes twice

-- node 2's, of the shared time 1,000, on a ping of the time 0
abbrev its_pong : List ℕ
its_pong = pong 2 (pos 1_000) (pos 0)

abbrev ponged : ℕ → ℤ → Call
ponged iface now = packet iface (port 2) its_pong (at now) 4096

abbrev ponged_once : List Call
ponged_once = with_2 ++ (ponged 0 (pos 0) ∷ [])

-- So it stands after the first.
pub ponged_holds : (led ponged_once).peers ≡ node_2 (record { offsets = pos 1_000 ∷ []; ping_times = at (pos 0) ∷ [] }) 50_000 0 true ∷ []
unfolding everything
ponged_holds = refl

counts_once : CountsOnce (led ponged_once) (port 2) its_pong held
unfolding everything
counts_once = ponged_twice (node 1) with_2 (port 2) its_pong (pong_msg (Some (node 2)) (at (pos 1_000)) (at (pos 0)) None) refl held refl 0 (at (pos 0)) 4096 _ _ refl

-- The second is turned down, on another interface and at 10; node 2's samples stay.
pub ponged_twice_met : (step (led ponged_once) (ponged 1 (pos 10)) ≡ refused 11)
    × ((r : Peer) → Memᴰ r (led (ponged_once ++ (ponged 1 (pos 10) ∷ []))).peers → r.id ≡ node 2 → r.samples ≡ record { offsets = pos 1_000 ∷ []; ping_times = at (pos 0) ∷ [] })
unfolding everything
ponged_twice_met = (counts_once.refused_again _ refl refl 1 (at (pos 10)) 4096 refl (omega arith), λ r m. counts_once.samples_stay 1 (at (pos 10)) 4096 _ r (Memᴰ.head refl) m refl)

-- Its one sample is from that pong, whose time is its one ping time.
pub each_from_a_pong_met : FromPong ponged_once (pos 1_000) (at (pos 0))
unfolding everything
each_from_a_pong_met = each_from_a_pong (node 1) ponged_once _ (Memᴰ.head refl) (pos 0) (at (pos 0)) 0 (omega arith)

-- ---- the ping times that are kept

abbrev times : List Call → List (List HostTime)
times cs = map (λ (p : Peer). p.samples.ping_times) (led cs).peers

abbrev offsets : List Call → List (List ℤ)
offsets cs = map (λ (p : Peer). p.samples.offsets) (led cs).peers

-- node 2's pong for session s, on a ping of a time, heard at that time
abbrev answers : ℕ → ℕ → Call
answers s ping = hears_at 2 (pong s (pos ping) (pos ping)) ping

-- Of two pongs to one ping of the time 7, the first is kept, and the time is the ping's, not that of the call; another time is kept beside it,
pub times_kept :
    (times (with_2 ++ (answers 2 7 ∷ hears_at 2 (pong 2 (pos 9) (pos 7)) 8 ∷ [])) ≡ (at (pos 7) ∷ []) ∷ [])
    × (times (with_2 ++ (hears_at 2 (pong 2 (pos 9) (pos 7)) 8 ∷ [])) ≡ (at (pos 7) ∷ []) ∷ [])
    × (times (with_2 ++ (answers 2 7 ∷ answers 2 8 ∷ [])) ≡ (at (pos 7) ∷ at (pos 8) ∷ []) ∷ [])
unfolding everything
times_kept = (refl, refl, refl)

-- and all are cleared by a pong of another session and by an alive of one, but not by an alive of the same from another address.
pub times_cleared :
    (times (with_2 ++ (answers 2 7 ∷ answers 3 8 ∷ [])) ≡ (at (pos 8) ∷ []) ∷ [])
    × (times (with_2 ++ (answers 2 7 ∷ alive 2 (in_session 3) ∷ [])) ≡ [] ∷ [])
    × (times (with_2 ++ (answers 2 7 ∷ alive 2 [] ∷ [])) ≡ [] ∷ [])
    × (times (with_2 ++ (answers 2 7 ∷ alive 2 (in_session 2 ++ with_addr 9) ∷ [])) ≡ (at (pos 7) ∷ []) ∷ [])
unfolding everything
times_cleared = (refl, refl, refl, refl)

-- Pongs for sessions 3, 4 and 3 on a ping of one time count each, since each clears what the one before it left.
pub sessions_in_turn :
    (offsets (with_2 ++ (pongs 2 3 (pos 1) (pos 7) ∷ [])) ≡ (negsuc 1 ∷ []) ∷ [])
    × (offsets (with_2 ++ (pongs 2 3 (pos 1) (pos 7) ∷ pongs 2 4 (pos 2) (pos 7) ∷ [])) ≡ (negsuc 0 ∷ []) ∷ [])
    × (offsets (with_2 ++ (pongs 2 3 (pos 1) (pos 7) ∷ pongs 2 4 (pos 2) (pos 7) ∷ pongs 2 3 (pos 3) (pos 7) ∷ [])) ≡ (pos 0 ∷ []) ∷ [])
    × (times (with_2 ++ (pongs 2 3 (pos 1) (pos 7) ∷ pongs 2 4 (pos 2) (pos 7) ∷ pongs 2 3 (pos 3) (pos 7) ∷ [])) ≡ (at (pos 7) ∷ []) ∷ [])
unfolding everything
sessions_in_turn = (refl, refl, refl, refl)

-- node 2's pong of the shared time 9, which names no session
abbrev unnamed : Call
unnamed = hears 2 (unnamed_pong (pos 9) (pos 0))

-- Once an alive of another session has cleared the samples a pong that was turned down counts again.
pub counts_again : (step (led (with_2 ++ (unnamed ∷ []))) unnamed ≡ refused 11) × (offsets (with_2 ++ (unnamed ∷ alive 2 (in_session 3) ∷ unnamed ∷ [])) ≡ (pos 9 ∷ []) ∷ [])
unfolding everything
counts_again = (refl, refl)

-- The same time at two neighbours is two samples,
pub two_neighbours : times (with_2 ++ (alive 3 (in_session 3) ∷ pongs 2 2 (pos 0) (pos 7) ∷ pongs 3 3 (pos 0) (pos 7) ∷ [])) ≡ (at (pos 7) ∷ []) ∷ (at (pos 7) ∷ []) ∷ []
unfolding everything
two_neighbours = refl

-- nodes 2 and 3 at one address, and a pong from there
abbrev at_one_address : List Call
at_one_address = on ∷ alive 2 (with_addr 9) ∷ alive 3 (with_addr 9) ∷ []

abbrev from_9 : Call
from_9 = pongs 9 5 (pos 0) (pos 7)

-- but of two at one address the first one's times decide, and the other gets none.
pub one_address : (times (at_one_address ++ (from_9 ∷ [])) ≡ (at (pos 7) ∷ []) ∷ [] ∷ []) × (step (led (at_one_address ++ (from_9 ∷ []))) from_9 ≡ refused 11)
unfolding everything
one_address = (refl, refl)

-- node 2's pong at the end of measuring
abbrev late : ℕ → ℕ → Call
late s ping = hears_at 2 (pong s (pos 1_000) (pos ping)) 300_000

-- Once measuring has ended a pong is not turned down, be it on a ping that was counted or on another, and adds nothing; one of another session clears.
pub ended_adds_none :
    (accepted (step (led (answered ++ six)) (late 2 0)) ≡ true)
    × ((led (answered ++ (six ++ (late 2 0 ∷ [])))).peers ≡ node_2 sample_0 300_000 5 false ∷ [])
    × ((led (answered ++ (six ++ (late 2 7 ∷ [])))).peers ≡ node_2 sample_0 300_000 5 false ∷ [])
    × (offsets (answered ++ (six ++ (late 3 7 ∷ []))) ≡ [] ∷ [])
    × (times (answered ++ (six ++ (late 3 7 ∷ []))) ≡ [] ∷ [])
unfolding everything
ended_adds_none = (refl, refl, refl, refl, refl)

-- the box in which measuring has ended, that pong on a ping of the time 7, and the box after it
abbrev ended : List Call
ended = answered ++ six

abbrev late_once : Outcome
late_once = step (led ended) (late 2 7)

abbrev after_late : Box
after_late = next (led ended) late_once

late_says : parse (pong 2 (pos 1_000) (pos 7)) ≡ pong_said (pong_msg (Some (node 2)) (at (pos 1_000)) (at (pos 7)) None)
unfolding everything
late_says = refl

late_owner : first (owns (port 2)) (led ended).peers ≡ Some (node_2 sample_0 300_000 5 false)
unfolding everything
late_owner = refl

late_taken : accepted late_once ≡ true
unfolding everything
late_taken = refl

-- So of the claim the case is met in which a pong that comes twice is not turned down:
pub late_twice_taken : accepted (step after_late (late 2 7)) ≡ true
unfolding everything
late_twice_taken = refl

-- node 2 has the samples that it had.
pub late_twice_met : (q r : Peer) → Memᴰ q after_late.peers → Memᴰ r (next after_late (step after_late (late 2 7))).peers → q.id ≡ node 2 → r.id ≡ node 2 → r.samples ≡ q.samples
late_twice_met =
    (ponged_twice (node 1) ended (port 2) (pong 2 (pos 1_000) (pos 7)) (pong_msg (Some (node 2)) (at (pos 1_000)) (at (pos 7)) None) late_says
    (node_2 sample_0 300_000 5 false) late_owner 0 (at (pos 300_000)) 4096 after_late (outputs_of late_once) (done_if (led ended) late_once late_taken)
    ).samples_stay 0 (at (pos 300_000)) 4096
