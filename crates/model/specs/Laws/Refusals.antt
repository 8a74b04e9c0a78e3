-- The numbers for a call turned down: the examples of the scope's table, and the order of the tests.
use Rattle.std.specs.Prelude.{ℕ, zero, suc, ◌≡◌, refl, true, false, List, [], ◌∷◌, ◌++◌, pos, negsuc, replicate, None}
use Rattle.big_endian.specs.Bytes.{bytes}
use Rattle.timeline.specs.Session.{default_state}
use Rattle.wire.specs.declared.SocketAddrPlain.{SocketAddrPlain}
use Rattle.wire.specs.Layout.{asdp_magic, link_magic, alive_bytes, byebye_bytes, pong_bytes}
use Rattle.wire.specs.Parse.{parse, number_of}
use Rattle.big_endian.specs.Written.{written}
use Rattle.wire.specs.Written.{written_echo}
use Rattle.model.specs.Engine.{Box, new}
use Rattle.model.specs.Calls.{send_failed, Call, packet, tick, commit, switch, interface_added, interface_removed, io_error, outcome_number, step, run}
use Rattle.model.specs.Laws.Tools.Open.{everything}
use Rattle.model.specs.Laws.Tools.Scenes.{at, node, port, on, ticks, announces, in_session, bye, pong, unnamed_pong, off_at, hears_at}

abbrev nowhere : SocketAddrPlain
nowhere = port 0

abbrev alive : ℕ → List ℕ
alive n = alive_bytes (node n) (node n) default_state.timeline default_state.start_stop None false

-- an alive of node n, taken at 0
abbrev hears : ℕ → Call
hears n = packet 7 nowhere (alive n) (at (pos 0)) 4096

-- those of nodes 1 to n
abbrev hears_all : ℕ → List Call
hears_all zero = []
hears_all (suc n) = hears (suc n) ∷ hears_all n

abbrev adds : ℕ → Call
adds n = interface_added n nowhere

-- node 99 enabled, with 16 neighbours; node 99 with 4 interfaces
abbrev full : Box
full = run (new (node 99)) (on ∷ hears_all 16)

abbrev four : Box
four = run (new (node 99)) (adds 1 ∷ adds 2 ∷ adds 3 ∷ adds 4 ∷ [])

abbrev answers : Box → Call → ℕ
answers e c = outcome_number (step e c)

pub refusals :
    -- 1: a time outside 0 to 10^15, whichever call, and before all else
    (answers full (tick (at (negsuc 0)) 4096) ≡ 1)
    × (answers full (tick (at (pos 1_000_000_000_000_001)) 4096) ≡ 1)
    × (answers full (tick (at (pos 1_000_000_000_000_000)) 4096) ≡ 0)
    × (answers full (packet 7 nowhere (replicate 513 0) (at (negsuc 0)) 4095) ≡ 1)
    × (answers full (commit default_state (at (negsuc 0)) 4096) ≡ 1)
    × (answers full (switch true (at (negsuc 0)) 4096) ≡ 1)
    -- 2: a buffer under 4,096 bytes
    × (answers full (tick (at (pos 0)) 4095) ≡ 2)
    × (answers full (packet 7 nowhere (replicate 513 0) (at (pos 0)) 4095) ≡ 2)
    × (answers full (commit default_state (at (pos 0)) 4095) ≡ 2)
    × (answers full (switch true (at (pos 0)) 4095) ≡ 2)
    -- 3: a packet over 512 bytes, also for an engine that is disabled
    × (answers full (packet 7 nowhere (replicate 513 0) (at (pos 0)) 4096) ≡ 3)
    × (answers (new (node 99)) (packet 7 nowhere (replicate 513 0) (at (pos 0)) 4096) ≡ 3)
    × (answers full (packet 7 nowhere (replicate 512 0) (at (pos 0)) 4096) ≡ 0)
    -- the same for an echo over 503 bytes at the writer of pongs, before 7
    × ((written_echo (pong_bytes (node 1) (at (pos 0))) (replicate 504 0) (replicate 512 0)).number ≡ 3)
    × ((written_echo (pong_bytes (node 1) (at (pos 0))) (replicate 503 0) (replicate 512 0)).number ≡ 7)
    × ((written_echo (pong_bytes (node 1) (at (pos 0))) (replicate 503 0) (replicate 544 0)).number ≡ 0)
    -- 4 is the reader's alone, here of eight bytes, magic only: an unreadable packet is taken
    × (number_of (parse (bytes 8 asdp_magic)) ≡ 4)
    × (number_of (parse (bytes 8 link_magic)) ≡ 4)
    × (answers full (packet 7 nowhere (bytes 8 asdp_magic) (at (pos 0)) 4096) ≡ 0)
    -- 5: a 17th id, stale ones counted; not while disabled, not for our own alive, not for one that is held
    × (answers full (hears 17) ≡ 5)
    × (answers full (packet 7 nowhere (alive 17) (at (pos 60_000_000)) 4096) ≡ 5)
    × (answers (new (node 99)) (hears 17) ≡ 0)
    × (answers full (hears 99) ≡ 0)
    × (answers full (hears 16) ≡ 0)
    -- a freed place serves again
    × (answers (run full (bye 5 ∷ [])) (hears 17) ≡ 0)
    -- 6: a fifth number; not for one that is held, and not once one is removed
    × (answers four (adds 5) ≡ 6)
    × (answers four (adds 4) ≡ 0)
    × (answers (run four (interface_removed 2 ∷ [])) (adds 5) ≡ 0)
    -- removing one that is not held answers 0
    × (answers four (interface_removed 5) ≡ 0)
    × (answers four (io_error 5 send_failed) ≡ 0)
    -- 7: a bye into 19 bytes
    × ((written (byebye_bytes (node 1)) (replicate 19 0)).number ≡ 7)
    × ((written (byebye_bytes (node 1)) (replicate 20 0)).number ≡ 0)
unfolding everything written written_echo
refusals = (refl, refl, refl, refl, refl, refl, refl, refl, refl, refl, refl, refl, refl, refl, refl, refl, refl, refl, refl, refl, refl, refl, refl, refl, refl, refl, refl, refl, refl, refl, refl, refl)

-- ---- 11: a doubled pong

-- a pong that names session 2, and one that names none, on a ping of a time
abbrev named : ℕ → List ℕ
named ping = pong 2 (pos 0) (pos ping)

abbrev unnamed : ℕ → List ℕ
unnamed ping = unnamed_pong (pos 0) (pos ping)

-- node 99 enabled, with node 2, which has said these entries and has answered a ping of the time 7 with this pong
abbrev answered_by : List ℕ → List ℕ → Box
answered_by entries bs = run (new (node 99)) (on ∷ hears_at 2 (announces 2 entries) 0 ∷ hears_at 2 bs 0 ∷ [])

-- in session 2, and in none
abbrev answered : Box
answered = answered_by (in_session 2) (named 7)

abbrev answered_outside : Box
answered_outside = answered_by [] (unnamed 7)

-- five calls at each of which node 2 is asked again: a sixth would end measuring
abbrev five_asks : List Call
five_asks = ticks 50_000 ∷ ticks 100_000 ∷ ticks 150_000 ∷ ticks 200_000 ∷ ticks 250_000 ∷ []

-- a box that is off but has neighbours, to which no calls lead: it tells where the test for a disabled one stands
abbrev off_with_neighbours : Box → Box
off_with_neighbours e = record {
  node_id = e.node_id;
  enabled = false;
  session_id = e.session_id;
  session_offset = e.session_offset;
  state = e.state;
  interfaces = e.interfaces;
  peers = e.peers;
  num_session_peers = e.num_session_peers;
  next_broadcast = e.next_broadcast;
}

pub doubled_pongs :
    -- it names the held session, or none, also of a neighbour that holds none
    (answers answered (hears_at 2 (named 7) 0) ≡ 11)
    × (answers answered (hears_at 2 (unnamed 7) 0) ≡ 11)
    × (answers answered_outside (hears_at 2 (unnamed 7) 0) ≡ 11)
    -- and on whichever interface it comes
    × (answers answered (packet 7 (port 2) (named 7) (at (pos 0)) 4096) ≡ 11)
    -- before upkeep, which would drop a neighbour or end its measuring
    × (answers answered (hears_at 2 (named 7) 60_000_000) ≡ 11)
    × (answers (run answered five_asks) (hears_at 2 (named 7) 300_000) ≡ 11)
    -- after 1, 2 and 3: with 456 bytes behind it, it has 513
    × (answers answered (packet 0 (port 2) (named 7 ++ replicate 456 0) (at (negsuc 0)) 4095) ≡ 1)
    × (answers answered (packet 0 (port 2) (named 7 ++ replicate 456 0) (at (pos 0)) 4095) ≡ 2)
    × (answers answered (hears_at 2 (named 7 ++ replicate 456 0) 0) ≡ 3)
    × (answers answered (hears_at 2 (named 7 ++ replicate 455 0) 0) ≡ 11)
    -- not while disabled, nor once node 2 is measured no longer
    × (answers (run answered (off_at 0 ∷ [])) (hears_at 2 (named 7) 0) ≡ 0)
    × (answers (off_with_neighbours answered) (hears_at 2 (named 7) 0) ≡ 0)
    × (answers (off_with_neighbours answered) (hears_at 2 (named 7 ++ replicate 456 0) 0) ≡ 3)
    × (answers (run (run answered five_asks) (ticks 300_000 ∷ [])) (hears_at 2 (named 7) 300_000) ≡ 0)
    -- not where it names another session, here also of a neighbour that holds none
    × (answers answered (hears_at 2 (pong 3 (pos 0) (pos 7)) 0) ≡ 0)
    × (answers answered_outside (hears_at 2 (named 7) 0) ≡ 0)
    -- not from another port, nor from the same one of another machine
    × (answers answered (hears_at 3 (named 7) 0) ≡ 0)
    × (answers answered (packet 0 (record { ip = 1; port = 2 }) (named 7) (at (pos 0)) 4096) ≡ 0)
    -- and not on a ping of another time
    × (answers answered (hears_at 2 (named 8) 0) ≡ 0)
unfolding everything
doubled_pongs = (refl, refl, refl, refl, refl, refl, refl, refl, refl, refl, refl, refl, refl, refl, refl, refl, refl, refl, refl)
