-- Calls whose arguments fit their types lead to boxes whose numbers fit theirs.
use Rattle.std.specs.Prelude.{ℕ, suc, ◌/◌, ◌^◌, ◌<◌, ◌≤◌, ◌≡◌, Bool, true, false, ◌&&◌, not, cond, leb, ℤ, pos, length, Option, Some, None}
use Rattle.std.proofs.Common.{arith, sym, subst, SFits, leb-false}
use mathlib.Core.List.{List, [], ◌∷◌}
use Rattle.std.specs.Int.Signed.{le_z}
use Rattle.std.specs.Int.{w64}
use Rattle.signed.specs.Laws.Quotient.{quot_mag}
use Rattle.signed.specs.Laws.WrapLaws.{wrap64_fits}
use Rattle.signed.specs.Laws.Tests.{both}
use Rattle.time.specs.declared.HostTime.{HostTime}
use Rattle.timeline.specs.declared.Timeline.{Timeline}
use Rattle.timeline.specs.declared.StartStopState.{StartStopState}
use Rattle.timeline.specs.declared.SessionState.{SessionState}
use Rattle.timeline.specs.Session.{default_state}
use Rattle.timeline.specs.Same.{same_timeline, same_start_stop}
use Rattle.wire.specs.declared.NodeId.{NodeId}
use Rattle.wire.specs.declared.SocketAddrPlain.{SocketAddrPlain}
use Rattle.wire.specs.Parse.{parse}
use Rattle.wire.specs.Laws.RoundTrip.{TimelineFits, StartStopFits, AddrFits, AddrHeld}
use Rattle.wire.specs.Laws.RoundTrip.AddrHeld.{absent, present}
use Rattle.wire.specs.Same.{same_node}
use Rattle.model.specs.Sums.{plus, half, add64}
use Rattle.lists.specs.Lists.{empty, without, best_from, best}
use Rattle.model.specs.Peers.{Samples, Peer, Interface, interface_key, no_samples, sampled, new_peer, peers_in, timeline_list, start_stop_list, timelines_in, start_stops_in, insert_sorted, sorted, median_offset, sample}
use Rattle.model.specs.Engine.{Box, Output, new, with_state, with_interfaces, with_peers, with_num_session_peers, with_next_broadcast, timeline_to_ghost, timeline_to_host, start_stop_to_ghost, start_stop_to_host}
use Rattle.model.specs.Election.{Best, wins, readopts, meet, consider, consider_all, best_session, own_if, best_timeline, best_start_stop, host_or, resolved_state, changes, resolve_to, resolved, resolve_if}
use Rattle.model.specs.Produce.{broadcast_due, after_broadcast, ping_due, after_ping, after_pings, lapse, asks}
use Rattle.model.specs.Laws.Calls.Messages.{arrived, alive_said, pong_said}
use Rattle.model.specs.Laws.Calls.Stages.{polled, settled, upkeep_box}
use Rattle.model.specs.Packet.{Arrival, AliveMsg, addr_or, session_changed, after_alive, PongMsg, sample_of, moves, moved, samples_with, still_measuring, measured, after_pong, handle_message}
use Rattle.model.specs.Commit.{move_to, above, later_than, taken}
use Rattle.model.specs.Calls.{Call, packet, tick, commit, switch, interface_added, interface_removed, io_error, Outcome, then_produce, resolved_if_needed, take_message, handle_timer, read_refusal, committed, unstarted, started, switched_on, switched_off, switch_on, switch_off, remove_interface, handle_io_error, step, next, run}
use Rattle.lists.specs.Laws.Bools.{by_cond, not_true}
use Rattle.lists.specs.Laws.Each.{Each, nil, ◌▸◌, each_keep, each_flat_map, each_append, each_upsert_any}
use Rattle.lists.specs.Laws.ListLaws.{each_take, each_get_d}
use Rattle.model.proofs.Laws.Calls.Steps.{by_admit, by_packet, by_commit, by_switch, by_add, by_produce, message_peers}
use Rattle.model.specs.Laws.Calls.Kept.{KeepsPeer}
use Rattle.model.proofs.Laws.Calls.Kept.{keeps_each, peers_lapse, peers_message}
use Rattle.model.proofs.Laws.Calls.Reach.{reached}
use Rattle.model.specs.Laws.Calls.Says.{NodeHeld, no_node, a_node, MessageFits, says_alive, says_pong, parse_fits}
use Rattle.model.specs.Laws.Calls.Fits.{TimeFits, CallFits, packet_fits, commit_fits, added_fits, SamplesFit, PeerFits, InterfaceFits, StateFits}
use Rattle.wire.specs.declared.Message.{Message}

-- ---- a neighbour

half_fits : (a : ℤ) → SFits w64 a → SFits w64 (half a)
half_fits a f = record { sfits = omega (arith, quot_mag a 2, f.sfits) }

pub sample_fits : (b1 : Option HostTime) (b2 a2 now : HostTime) → SFits w64 (sample b1 b2 a2 now)
unfolding sample
sample_fits None b2 a2 now = wrap64_fits _
sample_fits (Some b1) b2 a2 now = half_fits _ (wrap64_fits _)

-- by a test
one_of : {A : Type 0} (P : A → Type 0) (t : Bool) (x y : A) → P x → P y → P (cond t x y)
one_of P t x y p q = by_cond P t x y (λ e. p) (λ e. q)

addr_or_fits : (from : SocketAddrPlain) → AddrFits from → {a : Option SocketAddrPlain} → AddrHeld a → AddrFits (addr_or from a)
addr_or_fits from f absent = f
addr_or_fits from f (present h) = h

none_fit : SamplesFit no_samples
none_fit = record { offsets = nil; ping_times = nil }

one_more_fits : (ping : HostTime) → TimeFits ping → (x : ℤ) → SFits w64 x → (s : Samples) → SamplesFit s → SamplesFit (sampled ping x s)
unfolding sampled
one_more_fits ping u x f s h = record { offsets = each_take 20 (each_append h.offsets (f ▸ nil)); ping_times = each_take 20 (each_append h.ping_times (u ▸ nil)) }

-- what is said of an alive and of a pong
abbrev Says : SocketAddrPlain → Option Message → HostTime → Type 0
Says from m now = AddrFits from × MessageFits m

-- a ping that is sent follows fewer than five
timeouts : (due : Bool) (n : ℕ) → n ≤ 5 → cond (due && not (leb 5 n)) (suc n) n ≤ 5
timeouts due n h = by_cond (λ (k : ℕ). k ≤ 5) (due && not (leb 5 n)) (suc n) n
    (λ e. let l : n < 5 = leb-false 5 n (not_true _ (both due (not (leb 5 n)) e).1) in omega arith) (λ e. h)

fits_new : (from : SocketAddrPlain) (m : AliveMsg) (now : HostTime) → TimeFits now → Says from (alive_said m) now → PeerFits (new_peer m.node_id from now)
unfolding new_peer
fits_new from m now f (a, says_alive n t s x y) = record {
  id = n;
  session_id = no_node;
  timeline = nil;
  start_stop = nil;
  last_seen = f;
  addr = a;
  samples = none_fit;
  next_ping_time = f;
  ping_timeouts = omega arith;
}

fits_ping : (now : HostTime) → TimeFits now → (p : Peer) → PeerFits p → PeerFits (after_ping now p)
unfolding after_ping
fits_ping now f p h = record {
  id = h.id;
  session_id = h.session_id;
  timeline = h.timeline;
  start_stop = h.start_stop;
  last_seen = h.last_seen;
  addr = h.addr;
  samples = h.samples;
  next_ping_time = one_of TimeFits (asks now p) (plus now (pos 50_000)) p.next_ping_time (wrap64_fits _) h.next_ping_time;
  ping_timeouts = timeouts (ping_due now p) p.ping_timeouts h.ping_timeouts;
}

fits_alive : (from : SocketAddrPlain) (m : AliveMsg) (now : HostTime) → TimeFits now → Says from (alive_said m) now → (p : Peer) → PeerFits p → PeerFits (after_alive from m now p)
unfolding after_alive
fits_alive from m now f (a, says_alive n t s x y) p h = record {
  id = h.id;
  session_id = x;
  timeline = t;
  start_stop = s;
  last_seen = f;
  addr = addr_or_fits from a y;
  samples = one_of SamplesFit (session_changed m p) no_samples p.samples none_fit h.samples;
  next_ping_time = one_of TimeFits (session_changed m p) now p.next_ping_time f h.next_ping_time;
  ping_timeouts = one_of (λ (k : ℕ). k ≤ 5) (session_changed m p) 0 p.ping_timeouts (omega arith) h.ping_timeouts;
}

-- the two steps of a pong
fits_moved : (session : Option NodeId) → NodeHeld session → (p : Peer) → PeerFits p → PeerFits (moved session p)
unfolding moved
fits_moved session x p h = record {
  id = h.id;
  session_id = one_of NodeHeld (moves session p) session p.session_id x h.session_id;
  timeline = h.timeline;
  start_stop = h.start_stop;
  last_seen = h.last_seen;
  addr = h.addr;
  samples = one_of SamplesFit (moves session p) no_samples p.samples none_fit h.samples;
  next_ping_time = h.next_ping_time;
  ping_timeouts = h.ping_timeouts;
}

module _ (ping : HostTime) (u : TimeFits ping) (x : ℤ) (f : SFits w64 x) (now : HostTime) where
  fits_measured : TimeFits now → (p : Peer) → PeerFits p → PeerFits (measured ping x now p)
  unfolding measured samples_with
  fits_measured t p h = record {
    id = h.id;
    session_id = h.session_id;
    timeline = h.timeline;
    start_stop = h.start_stop;
    last_seen = h.last_seen;
    addr = h.addr;
    samples = one_of SamplesFit p.measuring (sampled ping x p.samples) p.samples (one_more_fits ping u x f p.samples h.samples) h.samples;
    next_ping_time = one_of TimeFits (still_measuring ping x p) (plus now (pos 50_000)) p.next_ping_time (wrap64_fits _) h.next_ping_time;
    ping_timeouts = one_of (λ (k : ℕ). k ≤ 5) p.measuring 0 p.ping_timeouts (omega arith) h.ping_timeouts;
  }

fits_pong : (from : SocketAddrPlain) (m : PongMsg) (now : HostTime) → TimeFits now → Says from (pong_said m) now → (p : Peer) → PeerFits p → PeerFits (after_pong m now p)
unfolding after_pong
fits_pong from m now t (a, says_pong x u) p h =
    fits_measured m.ping_host_time u (sample_of m now) (sample_fits m.ping_prev_ghost_time m.ghost_time m.ping_host_time now) now t (moved m.session_id p) (fits_moved m.session_id x p h)

keeps_fits : KeepsPeer Says PeerFits
keeps_fits = record { fresh = fits_new; pinged = fits_ping; alive = fits_alive; pong = λ from m now f s ps p o free h. fits_pong from m now f s p h }

-- ---- an election

fits_insert : (a : ℤ) → SFits w64 a → {bs : List ℤ} → Each (SFits w64) bs → Each (SFits w64) (insert_sorted a bs)
unfolding insert_sorted
fits_insert a f nil = f ▸ nil
fits_insert a f (◌▸◌ {x = b} {xs = bs} p h) = one_of (Each (SFits w64)) (le_z a b) (a ∷ (b ∷ bs)) (b ∷ insert_sorted a bs) (f ▸ p ▸ h) (p ▸ fits_insert a f h)

fits_sorted : {as' : List ℤ} → Each (SFits w64) as' → Each (SFits w64) (sorted as')
unfolding sorted
fits_sorted nil = nil
fits_sorted (◌▸◌ {x = a} p h) = fits_insert a p (fits_sorted h)

pub median_fits : {os : List ℤ} → Each (SFits w64) os → SFits w64 (median_offset os)
unfolding median_offset
median_fits {os} h = each_get_d (length os / 2) (pos 0) (record { sfits = omega arith }) (fits_sorted h)

-- the best session's offset, and its id where one to begin with fits
record BestFits (n : Type 0) (b : Best) : Type 0 where
  session : n → b.session.0 < 2 ^ 64
  offset : SFits w64 b.offset

module _ {N : Type 0} (node : NodeId) (now : HostTime) where
  fits_meet : (b : Best) → BestFits N b → (s : NodeId) (o : ℤ) → s.0 < 2 ^ 64 → SFits w64 o → BestFits N (meet node now b s o)
  unfolding meet
  fits_meet b h s o n f =
      let t : BestFits N (record { session = s; offset = o }) = record { session = λ u. n; offset = f } in
      one_of (BestFits N) (same_node s b.session) _ _ (one_of (BestFits N) (not (same_node b.session node) && readopts b.offset o) _ b t h) (one_of (BestFits N) (wins _ _) _ b t h)

  fits_consider : (b : Best) → BestFits N b → (s : Option NodeId) → NodeHeld s → (os : List ℤ) → Each (SFits w64) os → BestFits N (consider node now b s os)
  unfolding consider
  fits_consider b h s x [] f = h
  fits_consider b h None x (o ∷ os) f = h
  fits_consider b h (Some s) (a_node n) (o ∷ os) f = fits_meet b h s _ n (median_fits f)

  fits_consider_all : (b : Best) → BestFits N b → {ps : List Peer} → Each PeerFits ps → BestFits N (consider_all node now b ps)
  unfolding consider_all
  fits_consider_all b h nil = h
  fits_consider_all b h (◌▸◌ {x = p} q k) = fits_consider_all (consider node now b p.session_id p.samples.offsets) (fits_consider b h p.session_id q.session_id p.samples.offsets q.samples.offsets) k

-- of one that may be absent
data Held {A : Type 0} (P : A → Type 0) : Option A → Type 0 where
  not_held : Held P None
  held : {x : A} → P x → Held P (Some x)

module _ {A : Type 0} {P : A → Type 0} where
  from_holds : (value : A → ℤ) (b : A) → P b → {xs : List A} → Each P xs → P (best_from value b xs)
  unfolding best_from
  from_holds value b q nil = q
  from_holds value b q (◌▸◌ {x = x} p k) = from_holds value (cond (le_z (value x) (value b)) b x) (one_of P (le_z (value x) (value b)) b x q p) k

  best_holds : (value : A → ℤ) {o : Option A} → Held P o → {xs : List A} → Each P xs → Held P (best value o xs)
  unfolding best
  best_holds value (held {x = b} q) k = held (from_holds value b q k)
  best_holds value not_held nil = not_held
  best_holds value not_held (◌▸◌ {x = x} p k) = held (from_holds value x p k)

  own_holds : (t : Bool) (x : A) → P x → Held P (own_if t x)
  own_holds true x p = held p
  own_holds false x p = not_held

  host_holds : (to_host : A → A) → ((x : A) → P x → P (to_host x)) → (old : A) → P old → {o : Option A} → Held P o → P (host_or to_host old o)
  host_holds to_host f old p not_held = p
  host_holds to_host f old p (held {x = x} q) = f x q

-- the lines and the start-stop states that are known
fits_timelines : (s : NodeId) {ps : List Peer} → Each PeerFits ps → Each TimelineFits (timelines_in s ps)
unfolding timelines_in peers_in
fits_timelines s h = each_flat_map (λ p. timeline_list p.timeline_ghost) (λ p q. q.timeline) (each_keep _ h)

fits_start_stops : (s : NodeId) {ps : List Peer} → Each PeerFits ps → Each StartStopFits (start_stops_in s ps)
unfolding start_stops_in peers_in
fits_start_stops s h = each_flat_map (λ p. start_stop_list p.start_stop_ghost) (λ p q. q.start_stop) (each_keep _ h)

-- what an election makes of the state, whatever session and offset it finds
fits_line : (b : Best) (e : Box) → StateFits e → TimelineFits (resolved_state b e).timeline
unfolding resolved_state best_timeline timeline_to_ghost timeline_to_host
fits_line b e h =
    host_holds (timeline_to_host b.offset) (λ l f. record { tempo = f.tempo; beat_origin = f.beat_origin; time_origin = wrap64_fits _ }) e.state.timeline h.timeline
    (best_holds _ (own_holds (same_node b.session e.session_id) (timeline_to_ghost b.offset e.state.timeline)
    (record { tempo = h.timeline.tempo; beat_origin = h.timeline.beat_origin; time_origin = wrap64_fits _ }))
    (fits_timelines b.session h.peers))

fits_start_stop : (b : Best) (e : Box) → StateFits e → StartStopFits (resolved_state b e).start_stop
unfolding resolved_state best_start_stop start_stop_to_ghost start_stop_to_host
fits_start_stop b e h =
    host_holds (start_stop_to_host b.offset) (λ s f. record { beat = f.beat; time = wrap64_fits _ }) e.state.start_stop h.start_stop
    (best_holds _ (own_holds (same_node b.session e.session_id) (start_stop_to_ghost b.offset e.state.start_stop)
    (record { beat = h.start_stop.beat; time = wrap64_fits _ }))
    (fits_start_stops b.session h.peers))

pub fits_resolve_if : (t : Bool) (now : HostTime) → TimeFits now → (e : Box) → StateFits e → StateFits (resolve_if t now e).box
unfolding resolve_if resolved resolve_to best_session
fits_resolve_if true now f e h =
    let b : BestFits (e.node_id.0 < 2 ^ 64) (best_session now e) = fits_consider_all e.node_id now _ (record { session = h.session; offset = h.offset }) h.peers in
    record {
      session = b.session;
      offset = b.offset;
      timeline = fits_line (best_session now e) e h;
      start_stop = fits_start_stop (best_session now e) e h;
      interfaces = h.interfaces;
      peers = h.peers;
      next_broadcast = one_of TimeFits (changes (best_session now e) e) now e.next_broadcast f h.next_broadcast;
    }
fits_resolve_if false now f e h = h

-- ---- upkeep and messages

fits_lapse : (now : HostTime) → TimeFits now → (e : Box) → StateFits e → StateFits (lapse now (polled now e))
unfolding lapse polled after_pings after_broadcast with_peers with_next_broadcast
fits_lapse now f e h = record {
  session = h.session;
  offset = h.offset;
  timeline = h.timeline;
  start_stop = h.start_stop;
  interfaces = h.interfaces;
  peers = peers_lapse (keeps_each keeps_fits) now e f h.peers;
  next_broadcast = one_of TimeFits (broadcast_due now e) (plus now (pos 250_000)) e.next_broadcast (wrap64_fits _) h.next_broadcast;
}

fits_with_peers : (ps : List Peer) → Each PeerFits ps → (e : Box) → StateFits e → StateFits (with_peers ps e)
unfolding with_peers
fits_with_peers ps k e h = record { session = h.session; offset = h.offset; timeline = h.timeline; start_stop = h.start_stop; interfaces = h.interfaces; peers = k; next_broadcast = h.next_broadcast }

fits_upkeep : (now : HostTime) → TimeFits now → (e : Box) → StateFits e → StateFits (upkeep_box now e)
unfolding upkeep_box with_num_session_peers settled
fits_upkeep now f e h =
    let r : StateFits (settled now e).box = fits_resolve_if _ now f _ (fits_lapse now f e h) in
    record { session = r.session; offset = r.offset; timeline = r.timeline; start_stop = r.start_stop; interfaces = r.interfaces; peers = r.peers; next_broadcast = r.next_broadcast }

fits_message : (e : Box) (a : Arrival) (bytes : List ℕ) (m : Option Message)
    → TimeFits a.now → Says a.from m a.now → read_refusal e a.from m ≡ 0 → StateFits e → StateFits (handle_message e a bytes m).box
fits_message e a bytes m f s free h =
    subst StateFits (sym (message_peers e a bytes m)) (fits_with_peers _ (peers_message (keeps_each keeps_fits) e a bytes m f s free h.peers) e h)

-- ---- a commit

pub fits_above : (k : ℤ) (l : Timeline) → TimelineFits l → TimelineFits (above k l)
unfolding above move_to
fits_above k l f = one_of TimelineFits (le_z l.beat_origin.0 k) (move_to (add64 k (pos 1_000_000)) l) l (record { tempo = f.tempo; beat_origin = wrap64_fits _; time_origin = wrap64_fits _ }) f

fits_later : (offset k : ℤ) (s : StartStopState) → StartStopFits s → StartStopFits (later_than offset k s)
unfolding later_than
fits_later offset k s f = one_of StartStopFits (le_z (add64 s.time.0 offset) k) _ s (record { beat = f.beat; time = wrap64_fits _ }) f

module _ (e : Box) (h : StateFits e) where
  fits_taken : (s : SessionState) → TimelineFits s.timeline → StartStopFits s.start_stop → StateFits (with_state (taken e s) e)
  unfolding with_state taken
  fits_taken s f g = record {
    session = h.session;
    offset = h.offset;
    timeline = one_of TimelineFits (same_timeline s.timeline e.state.timeline) s.timeline _ f (fits_above _ s.timeline f);
    start_stop = one_of StartStopFits (same_start_stop s.start_stop e.state.start_stop) s.start_stop _ g (fits_later _ _ s.start_stop g);
    interfaces = h.interfaces;
    peers = h.peers;
    next_broadcast = h.next_broadcast;
  }

  fits_committed : (s : SessionState) (now : HostTime) → TimelineFits s.timeline → StartStopFits s.start_stop → TimeFits now → StateFits (committed e s now)
  unfolding committed with_next_broadcast
  fits_committed s now f g t =
      let r : StateFits (with_state (taken e s) e) = fits_taken s f g in
      one_of StateFits e.enabled (with_next_broadcast now (with_state (taken e s) e)) (with_state (taken e s) e)
      (record { session = r.session; offset = r.offset; timeline = r.timeline; start_stop = r.start_stop; interfaces = r.interfaces; peers = r.peers; next_broadcast = t }) r

  -- ---- the switch and the interfaces

  fits_on : (now : HostTime) → TimeFits now → StateFits (switched_on e now)
  unfolding switched_on started
  fits_on now f = record {
    session = λ n. one_of (λ (x : NodeId). x.0 < 2 ^ 64) (empty e.peers) e.node_id e.session_id n (h.session n);
    offset = one_of (SFits w64) (empty e.peers) _ e.session_offset (wrap64_fits _) h.offset;
    timeline = one_of (λ (s : SessionState). TimelineFits s.timeline) (unstarted e.state) (started now e.state) e.state
        (record { tempo = h.timeline.tempo; beat_origin = h.timeline.beat_origin; time_origin = f }) h.timeline;
    start_stop = one_of (λ (s : SessionState). StartStopFits s.start_stop) (unstarted e.state) (started now e.state) e.state h.start_stop h.start_stop;
    interfaces = h.interfaces;
    peers = h.peers;
    next_broadcast = f;
  }

  fits_off : StateFits (switched_off e)
  unfolding switched_off
  fits_off = record { session = λ n. n; offset = h.offset; timeline = h.timeline; start_stop = h.start_stop; interfaces = h.interfaces; peers = nil; next_broadcast = h.next_broadcast }

  fits_interfaces : (is : List Interface) → Each InterfaceFits is → StateFits (with_interfaces is e)
  unfolding with_interfaces
  fits_interfaces is k = record { session = h.session; offset = h.offset; timeline = h.timeline; start_stop = h.start_stop; interfaces = k; peers = h.peers; next_broadcast = h.next_broadcast }

  -- ---- every call

  abbrev Ok : Outcome → Type 0
  Ok o = StateFits (next e o)

  fits_produce : (os : List Output) (now : HostTime) → TimeFits now → (x : Box) → StateFits x → Ok (then_produce os now x)
  fits_produce os now f x k = by_produce Ok (λ n. h) os now x (λ on. fits_upkeep now f x k) (λ off. k)

  pub fits_step : (c : Call) → CallFits c → StateFits (next e (step e c))
  unfolding step take_message resolved_if_needed handle_timer switch_on switch_off remove_interface handle_io_error without
  fits_step (packet iface from bytes now buf_size) (packet_fits i a b t r) = by_admit Ok (λ n. h) now buf_size _ (λ f. by_packet Ok (λ n. h) e h (arrived iface from now) bytes
      (λ l on free. fits_produce _ now f _ (fits_resolve_if _ now f _ (fits_message e (arrived iface from now) bytes (parse bytes) f (a, parse_fits b) free h))))
  fits_step (tick now buf_size) c = by_admit Ok (λ n. h) now buf_size _ (λ f. fits_produce [] now f e h)
  fits_step (commit s now buf_size) (commit_fits l g t r) = by_admit Ok (λ n. h) now buf_size _ (λ f. by_commit Ok (λ n. h) e h s now (fits_produce _ now f _ (fits_committed s now l g f)))
  fits_step (switch b now buf_size) c = by_admit Ok (λ n. h) now buf_size _ (λ f. by_switch Ok (λ n. h) e h b now (λ off. fits_produce _ now f _ (fits_on now f)) (λ on. fits_off))
  fits_step (interface_added iface addr) (added_fits i a) = by_add Ok (λ n. h) e (record { id = iface; addr = addr })
      (λ free. fits_interfaces _ (each_upsert_any interface_key (record { id = iface; addr = addr }) (record { id = i; addr = a }) h.interfaces))
  fits_step (interface_removed iface) c = fits_interfaces _ (each_keep _ h.interfaces)
  fits_step (io_error iface error) c = fits_interfaces _ (each_keep _ h.interfaces)

pub fits_run : (e : Box) → StateFits e → {cs : List Call} → Each CallFits cs → StateFits (run e cs)
unfolding run
fits_run e h nil = h
fits_run e h (◌▸◌ {x = c} p k) = fits_run (next e (step e c)) (fits_step e h c p) k

pub fits_new_engine : (a : NodeId) → StateFits (new a)
unfolding new default_state
fits_new_engine a = record {
  session = λ n. n;
  offset = small 0 (omega arith);
  timeline = record { tempo = small 500_000 (omega arith); beat_origin = small 0 (omega arith); time_origin = small 0 (omega arith) };
  start_stop = record { beat = small 0 (omega arith); time = small 0 (omega arith) };
  interfaces = nil;
  peers = nil;
  next_broadcast = small 0 (omega arith);
}
  where
    small : (n : ℕ) → n < 2 ^ 63 → SFits w64 (pos n)
    small n h = record { sfits = h }

pub state_fits : (a : NodeId) (cs : List Call) → Each CallFits cs → StateFits (run (new a) cs)
state_fits a cs h = fits_run (new a) (fits_new_engine a) h

-- with our node's id both ids of the box fit
pub ids_fit : (a : NodeId) → a.0 < 2 ^ 64 → (cs : List Call) → Each CallFits cs → ((run (new a) cs).node_id.0 < 2 ^ 64) × ((run (new a) cs).session_id.0 < 2 ^ 64)
ids_fit a n cs h = let m : (run (new a) cs).node_id.0 < 2 ^ 64 = (reached a cs).node n in (m, (state_fits a cs h).session m)
