-- Upkeep: broadcasts, pings, neighbours that are dropped, the timer, the count (produce_outputs of engine.rs).
use Rattle.std.specs.Prelude.{ℕ, suc, Bool, false, ◌&&◌, not, cond, eqb, leb, pos, length, Some, None}
use mathlib.Core.List.{List, [], ◌∷◌, ◌++◌, map, flat_map}
use Rattle.std.specs.Int.Signed.{le_z}
use Rattle.time.specs.declared.HostTime.{HostTime}
use Rattle.time.specs.Same.{same_time}
use Rattle.wire.specs.Layout.{ping_bytes}
use Rattle.model.specs.Sums.{plus, minus, never, earlier}
use Rattle.lists.specs.Lists.{keep}
use Rattle.model.specs.Peers.{Peer, Interface, peers_in}
use Rattle.model.specs.Engine.{Box, Produced, Output, send, num_peers_changed, set_timer, with_peers, with_num_session_peers, with_next_broadcast, multicast, our_alive}
use Rattle.model.specs.Election.{resolve_if}

-- ---- the broadcast

abbrev pub broadcast_due : HostTime → Box → Bool
broadcast_due now e = le_z e.next_broadcast.0 now.0

unfoldable pub broadcasts : HostTime → Box → List Output
broadcasts now e = cond (broadcast_due now e) (map (λ i. send i.id multicast (our_alive e (Some i.addr) false)) e.interfaces) []

unfoldable pub after_broadcast : HostTime → Box → Box
after_broadcast now e = with_next_broadcast (cond (broadcast_due now e) (plus now (pos 250_000)) e.next_broadcast) e

-- ---- the pings

abbrev pub ping_due : HostTime → Peer → Bool
ping_due now p = p.measuring && le_z p.next_ping_time.0 now.0

-- five due pings went unanswered
abbrev pub silent : Peer → Bool
silent p = leb 5 p.ping_timeouts

-- a due ping is sent
abbrev pub asks : HostTime → Peer → Bool
asks now p = ping_due now p && not (silent p)

-- a due ping is sent, or after five unanswered ones ends measuring
unfoldable pub after_ping : HostTime → Peer → Peer
after_ping now p = record {
  id = p.id;
  session_id = p.session_id;
  timeline_ghost = p.timeline_ghost;
  start_stop_ghost = p.start_stop_ghost;
  last_seen = p.last_seen;
  addr = p.addr;
  samples = p.samples;
  next_ping_time = cond (asks now p) (plus now (pos 50_000)) p.next_ping_time;
  ping_timeouts = cond (asks now p) (suc p.ping_timeouts) p.ping_timeouts;
  measuring = cond (ping_due now p && silent p) false p.measuring;
}

-- on every interface
unfoldable pub pings : HostTime → List Interface → Peer → List Output
pings now is p = cond (asks now p) (map (λ i. send i.id p.addr (ping_bytes now None)) is) []

unfoldable pub after_pings : HostTime → Box → Box
after_pings now e = with_peers (map (after_ping now) e.peers) e

-- ---- neighbours that are dropped

-- last seen at most 6,000,000 ago
abbrev pub recent : HostTime → Peer → Bool
recent now p = le_z (minus now (pos 6_000_000)).0 p.last_seen.0

-- those seen longer ago go
unfoldable pub lapse : HostTime → Box → Box
lapse now e = with_peers (keep (recent now) e.peers) e

-- whether one goes
abbrev pub lapses : HostTime → Box → Bool
lapses now e = not (eqb (length (lapse now e).peers) (length e.peers))

-- ---- the timer

-- the earliest of a time and of the next pings of those that are measured
unfoldable pub earliest_ping : HostTime → List Peer → HostTime
earliest_ping t [] = t
earliest_ping t (p ∷ ps) = earliest_ping (cond p.measuring (earlier t p.next_ping_time) t) ps

unfoldable pub min_last_seen : HostTime → List Peer → HostTime
min_last_seen t [] = t
min_last_seen t (p ∷ ps) = min_last_seen (earlier t p.last_seen) ps

-- when the one seen longest ago goes, where there is one
unfoldable pub or_timeout : HostTime → HostTime → HostTime
or_timeout t seen = cond (same_time seen never) t (earlier t (plus seen (pos 6_000_000)))

-- The next broadcast, the next ping of the neighbours before any of them goes, and the next timeout of those that are left: so the timer may be set for
-- the ping of a neighbour that has just gone.
unfoldable pub next_timer : HostTime → List Peer → List Peer → HostTime
next_timer next_broadcast polled left = or_timeout (earliest_ping (earlier never next_broadcast) polled) (min_last_seen never left)

unfoldable pub timer_outputs : HostTime → List Output
timer_outputs t = cond (same_time t never) [] (set_timer t ∷ [])

-- ---- the count

unfoldable pub session_peers : Box → ℕ
session_peers e = length (peers_in e.session_id e.peers)

unfoldable pub count_outputs : Box → List Output
count_outputs e = cond (eqb (session_peers e) e.num_session_peers) [] (num_peers_changed (session_peers e) ∷ [])

-- ---- the whole

-- the broadcast, the pings, those that go and the election that follows where one went, the timer, the count
unfoldable pub upkeep : HostTime → Box → Produced
upkeep now e =
    let polled = after_pings now (after_broadcast now e) in
    let settled = resolve_if (lapses now polled) now (lapse now polled) in
    record {
      box = with_num_session_peers (session_peers settled.box) settled.box;
      outputs =
          broadcasts now e
          ++ (flat_map (pings now e.interfaces) e.peers
          ++ (settled.outputs
          ++ (timer_outputs (next_timer polled.next_broadcast polled.peers settled.box.peers)
          ++ count_outputs settled.box)));
    }

-- nothing while disabled
unfoldable pub produce_outputs : HostTime → Box → Produced
produce_outputs now e = cond e.enabled (upkeep now e) (record { box = e; outputs = [] })
