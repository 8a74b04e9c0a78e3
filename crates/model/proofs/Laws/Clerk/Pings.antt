-- The pings that no sample calls for, which have no `_pgt`: a call puts out one on each interface for each neighbour that its upkeep asks, and no other.
use Rattle.std.specs.Prelude.{ℕ, ◌<◌, ◌≡◌, refl, Bool, ◌&&◌, ◌||◌, not, cond, eqb, leb, length, get_or, Option, Some, None}
use Rattle.std.proofs.Common.{arith, sym, ap, ◌∙◌, subst, eq-eqb, ne_eqb}
use Rattle.std.proofs.Math.Path.{ap₂}
use Rattle.std.proofs.Math.Bool.{true, false}
use mathlib.Core.List.{List, [], ◌∷◌, ◌++◌, map, flat_map, append-nil, Memᴰ}
use Rattle.big_endian.specs.Bytes.{bytes, number, number_at}
use Rattle.time.specs.declared.HostTime.{HostTime}
use Rattle.time.specs.Same.{same_time}
use Rattle.timeline.specs.declared.Timeline.{Timeline}
use Rattle.timeline.specs.declared.StartStopState.{StartStopState}
use Rattle.timeline.specs.Same.{same_state}
use Rattle.wire.specs.declared.NodeId.{NodeId}
use Rattle.wire.specs.declared.SocketAddrPlain.{SocketAddrPlain}
use Rattle.wire.specs.declared.DiscoveryMsg.TheVariants.{Alive, ByeBye}
use Rattle.wire.specs.declared.MeasurementMsg.TheVariants.{Ping, Pong}
use Rattle.wire.specs.declared.Message.TheVariants.{Discovery, Measurement}
use Rattle.wire.specs.Layout.{asdp_magic, link_magic, discovery_kinds, keys, int_bytes, entry, pgt_entry, discovery_head, alive_bytes, byebye_bytes, measurement_head, ping_bytes, pong_bytes}
use Rattle.wire.specs.Parse.{size_of, has_entry, first_entry, after_entry, scan, entries, last_good, time_of, ping_of, pong_of, parse_discovery, parse_measurement, parse}
use Rattle.wire.specs.Laws.Reads.{number_behind}
use Rattle.wire.specs.Laws.RoundTrip.{measurement_reads}
use Rattle.wire.specs.Same.{same_addr}
use Rattle.model.specs.Sums.{never}
use Rattle.lists.specs.Lists.{first, keep}
use Rattle.model.specs.Peers.{Peer, Interface, interface_key}
use Rattle.model.specs.Engine.{Box, Produced, Output, our_alive}
use Rattle.model.specs.Election.{resolve_if, resolve_outputs, changes, best_session}
use Rattle.model.specs.Produce.{broadcast_due, broadcasts, asks, pings, timer_outputs, session_peers, count_outputs}
use Rattle.model.specs.Laws.Calls.Messages.{arrived, pong_msg}
use Rattle.model.specs.Laws.Calls.Stages.{settled, upkeep_outputs}
use Rattle.model.specs.Packet.{Arrival, unchanged, news, response, handle_alive_of, handle_alive, handle_byebye, handle_ping, PongMsg, after_pong, handle_pong_of, handle_pong, handle_message, owns}
use Rattle.model.specs.Calls.{Call, Outcome, refused, done, resolved_if_needed, unstarted, switched_on, switch_off, step, outputs_of}
use Rattle.lists.specs.Laws.Bools.{split, by_cond, cond-true, cond-false}
use Rattle.model.specs.Laws.Tools.Outcomes.{done_outputs}
use Rattle.lists.specs.Laws.Each.{Each, nil, ◌▸◌, each_mem, each_map, each_append, either, each_of_map, each_of_flat_map, Ascending, none_left, more}
use Rattle.lists.specs.Laws.ListLaws.{keep_append, keep_none, keep_both, keep_map}
use Rattle.model.proofs.Laws.Calls.Steps.{resolve_if_interfaces, message_interfaces, committed_interfaces, produce_on, produce_off}
use Rattle.model.specs.Laws.Calls.Course.{Course, packet_ignored, packet_taken, ticked, commit_same, commit_taken, switch_same, went_on, went_off, added, removed, failed, Kept}
use Rattle.model.proofs.Laws.Calls.Course.{course}
use Rattle.model.specs.Laws.Clerk.Neighbours.{runs_upkeep, call_time, heard}
use Rattle.model.proofs.Laws.Clerk.Neighbours.{messaged_peers, messaged_alike, committed_peers, committed_enabled}
use Rattle.model.proofs.Laws.Clerk.Ids.{keep_all}
use Rattle.model.specs.Laws.Clerk.Pings.{is_ask, sends_ask, ask, asks_of, asked_in, asked_ones, goes_by, goes_to, asks_on, asks_at}
use Rattle.wire.specs.declared.Message.{Message}

-- a discovery packet is none
discovery_no : (bs : List ℕ) → is_ask (parse_discovery bs) ≡ false
unfolding parse_discovery
discovery_no bs =
    by_cond (λ (m : Option Message). is_ask m ≡ false) (leb 20 (length bs)) _ None
    (λ l. by_cond (λ (m : Option Message). is_ask m ≡ false) (eqb (get_or bs 8 0) discovery_kinds.byebye) _ _ (λ k. refl)
    (λ k. by_cond (λ (m : Option Message). is_ask m ≡ false) (eqb (get_or bs 8 0) discovery_kinds.alive || eqb (get_or bs 8 0) discovery_kinds.response) _ None (λ j. refl) (λ j. refl)))
    (λ l. refl)

asdp_no : (rest : List ℕ) → is_ask (parse (bytes 8 asdp_magic ++ rest)) ≡ false
unfolding parse
asdp_no rest =
    let bs = bytes 8 asdp_magic ++ rest in
    ap (λ (k : ℕ). is_ask (cond (eqb k asdp_magic) (parse_discovery bs) (cond (eqb k link_magic) (parse_measurement bs) None))) (number_behind 8 asdp_magic [] rest 0 refl)
    ∙ discovery_no bs

alive_no : (node session : NodeId) (l : Timeline) (s : StartStopState) (a : Option SocketAddrPlain) (r : Bool) → is_ask (parse (alive_bytes node session l s a r)) ≡ false
unfolding alive_bytes discovery_head bytes
alive_no node session l s a r = asdp_no _

byebye_no : (node : NodeId) → is_ask (parse (byebye_bytes node)) ≡ false
unfolding byebye_bytes discovery_head bytes
byebye_no node = asdp_no _

-- a pong is none, whatever it echoes
pong_of_no : (session : Option NodeId) (ghost time prev : Option HostTime) → is_ask (pong_of session ghost time prev) ≡ false
unfolding pong_of
pong_of_no session None time prev = refl
pong_of_no session (Some g) None prev = refl
pong_of_no session (Some g) (Some t) prev = refl

pong_no : (session : NodeId) (ghost : HostTime) (echo : List ℕ) → is_ask (parse (pong_bytes session ghost echo)) ≡ false
unfolding pong_bytes measurement_head bytes
pong_no session ghost echo = ap is_ask (measurement_reads 2 (entry keys.sess (bytes 8 session.0) ++ (entry keys.gt (int_bytes ghost.0) ++ echo))) ∙ pong_of_no _ _ _ _

-- a ping is one where it has no `_pgt`
module _ (t : HostTime) (prev : Option HostTime) where
  abbrev body : List ℕ
  body = entry keys.ht (int_bytes t.0) ++ pgt_entry prev

  ping_reads : parse (ping_bytes t prev) ≡ ping_of (time_of (last_good keys.ht 8 None (entries body))) (time_of (last_good keys.pgt 8 None (entries body)))
  unfolding ping_bytes measurement_head bytes
  ping_reads = measurement_reads 1 body

follows_no : (t prev : HostTime) → is_ask (parse (ping_bytes t (Some prev))) ≡ false
unfolding entry pgt_entry bytes number number_at size_of has_entry first_entry after_entry scan entries last_good time_of ping_of
follows_no t prev = ap is_ask (ping_reads t (Some prev))

asking_yes : (t : HostTime) → is_ask (parse (ping_bytes t None)) ≡ true
unfolding entry pgt_entry bytes number number_at size_of has_entry first_entry after_entry scan entries last_good time_of ping_of
asking_yes t = ap is_ask (ping_reads t None)

abbrev Other : Output → Type 0
Other o = sends_ask o ≡ false

-- outputs that are none, and then some
past_others : (os rest : List Output) → Each Other os → keep sends_ask (os ++ rest) ≡ keep sends_ask rest
past_others os rest h = keep_append sends_ask os rest ∙ ap (λ (l : List Output). l ++ keep sends_ask rest) (keep_none sends_ask h)

-- ---- upkeep

module _ (now : HostTime) (e : Box) where
  broadcasts_others : Each Other (broadcasts now e)
  unfolding broadcasts our_alive
  broadcasts_others = either (broadcast_due now e) (each_of_map {Q = Other} _ (λ (i : Interface). alive_no _ _ _ _ _ _) e.interfaces) nil

  election_others : (t : Bool) (x : Box) → Each Other (resolve_if t now x).outputs
  unfolding resolve_if resolve_outputs
  election_others true x = either (changes (best_session now x) x) (refl ▸ nil) nil
  election_others false x = nil

  settled_others : Each Other (settled now e).outputs
  unfolding settled
  settled_others = election_others _ _

  timer_others : (t : HostTime) → Each Other (timer_outputs t)
  unfolding timer_outputs
  timer_others t = either (same_time t never) nil (refl ▸ nil)

  count_others : (x : Box) → Each Other (count_outputs x)
  unfolding count_outputs
  count_others x = either (eqb (session_peers x) x.num_session_peers) nil (refl ▸ nil)

-- the neighbours that are asked, in order
pings_are : (now : HostTime) (is : List Interface) (ps : List Peer) → flat_map (pings now is) ps ≡ flat_map (asks_of now is) (keep (asks now) ps)
unfolding flat_map pings keep
pings_are now is [] = refl
pings_are now is (p ∷ ps) = split (asks now p)
    (λ t. ap (λ (l : List Output). l ++ flat_map (pings now is) ps) (cond-true _ _ t) ∙ ap (λ (l : List Output). asks_of now is p ++ l) (pings_are now is ps)
    ∙ ap (flat_map (asks_of now is)) (sym (cond-true (p ∷ keep (asks now) ps) (keep (asks now) ps) t)))
    (λ t. ap (λ (l : List Output). l ++ flat_map (pings now is) ps) (cond-false _ _ t) ∙ pings_are now is ps
    ∙ ap (flat_map (asks_of now is)) (sym (cond-false (p ∷ keep (asks now) ps) (keep (asks now) ps) t)))

-- and all of these are asks
all_asks : (now : HostTime) (is : List Interface) (ps : List Peer) → Each (λ o. sends_ask o ≡ true) (flat_map (asks_of now is) ps)
all_asks now is ps = each_of_flat_map (asks_of now is) (λ p. each_of_map (ask now p) (λ i. asking_yes now) is) ps

module _ (now : HostTime) (e : Box) where
  upkeep_asks : keep sends_ask (upkeep_outputs now e) ≡ flat_map (asks_of now e.interfaces) (keep (asks now) e.peers)
  unfolding upkeep_outputs
  upkeep_asks =
      past_others (broadcasts now e) _ (broadcasts_others now e)
      ∙ keep_append sends_ask (flat_map (pings now e.interfaces) e.peers) _
      ∙ ap₂ (λ (xs ys : List Output). xs ++ ys)
      (ap (keep sends_ask) (pings_are now e.interfaces e.peers) ∙ keep_all sends_ask (all_asks now e.interfaces (keep (asks now) e.peers)))
      (keep_none sends_ask (each_append (settled_others now e) (each_append (timer_others now e _) (count_others now e _))))
      ∙ append-nil _

-- ---- what comes before upkeep

module _ (e : Box) (a : Arrival) (bytes : List ℕ) where
  pong_others : (m : PongMsg) (o : Option Peer) → Each Other (handle_pong_of e a m o).outputs
  unfolding handle_pong_of unchanged
  pong_others m None = nil
  pong_others m (Some p) = either (after_pong m a.now p).measuring (follows_no a.now m.ghost_time ▸ nil) nil

  message_others : (m : Option Message) → Each Other (handle_message e a bytes m).outputs
  unfolding handle_message unchanged handle_alive handle_alive_of handle_byebye handle_ping handle_pong response our_alive
  message_others None = nil
  message_others (Some (Discovery (Alive node timeline start_stop session mep4))) = either (news _ _) (alive_no _ _ _ _ _ _ ▸ nil) nil
  message_others (Some (Discovery (ByeBye node))) = nil
  message_others (Some (Measurement (Ping time prev))) = pong_no _ _ _ ▸ nil
  message_others (Some (Measurement (Pong session b2 a2 b1))) = pong_others (pong_msg session b2 a2 b1) (first (owns a.from) e.peers)

-- switching off says bye and the count
off_others : (e e' : Box) (os : List Output) → done e' os ≡ switch_off e → Each Other os
unfolding switch_off
off_others e e' os h =
    subst (Each Other) (sym (done_outputs _ _ _ _ h))
    (each_append (each_of_map {Q = Other} _ (λ (i : Interface). byebye_no _) e.interfaces) (either (eqb e.num_session_peers 0) nil (refl ▸ nil)))

-- what upkeep of a box puts out, by its interfaces, its neighbours and whether it is on
kept_asks : (now : HostTime) (x e' : Box) (before os : List Output) (is : List Interface) (ps : List Peer) (t : Bool) → Kept now x before e' os → Each Other before
    → x.interfaces ≡ is → x.peers ≡ ps → x.enabled ≡ t → keep sends_ask os ≡ flat_map (asks_of now is) (cond t (keep (asks now) ps) [])
unfolding flat_map
kept_asks now x e' before os is ps true k h f g u =
    ap (keep sends_ask) k.outputs ∙ past_others before _ h ∙ ap (λ (a : Produced). keep sends_ask a.outputs) (produce_on now x u) ∙ upkeep_asks now x
    ∙ ap₂ (λ (is : List Interface) (ps : List Peer). flat_map (asks_of now is) (keep (asks now) ps)) f g
kept_asks now x e' before os is ps false k h f g u =
    ap (keep sends_ask) k.outputs ∙ past_others before _ h ∙ ap (λ (a : Produced). keep sends_ask a.outputs) (produce_off now x u) ∙ keep_none sends_ask nil

none_asked : (e : Box) (c : Call) {os : List Output} → Each Other os → runs_upkeep e c ≡ false
    → keep sends_ask os ≡ flat_map (asks_of (call_time c) e.interfaces) (cond (runs_upkeep e c) (keep (asks (call_time c)) (heard e c)) [])
unfolding flat_map
none_asked e c h t = keep_none sends_ask h ∙ sym (ap (flat_map (asks_of (call_time c) e.interfaces)) (cond-false _ _ t))

by_course : (e e' : Box) (os : List Output) (c : Call) → Course e e' os c
    → keep sends_ask os ≡ flat_map (asks_of (call_time c) e.interfaces) (cond (runs_upkeep e c) (keep (asks (call_time c)) (heard e c)) [])
unfolding switched_on resolved_if_needed
by_course e e' os c (packet_ignored a t i) = none_asked e c (subst (Each Other) (sym i.outputs) nil) t
by_course e e' os c (packet_taken {iface} {from} {bytes} {now} a l on own full k) =
    let x = arrived iface from now in
    kept_asks now _ e' _ os e.interfaces _ true k (each_append (message_others e x bytes (parse bytes)) (election_others now e _ _))
    (resolve_if_interfaces _ now _ ∙ message_interfaces e x bytes (parse bytes)) (messaged_peers e x bytes) ((messaged_alike e x bytes).enabled ∙ on)
    ∙ ap (flat_map (asks_of now e.interfaces)) (sym (cond-true _ _ (ap₂ ◌&&◌ on (ap not own))))
by_course e e' os c (ticked {now} a k) = kept_asks now e e' [] os e.interfaces e.peers e.enabled k nil refl refl refl
by_course e e' os c (commit_same {s} a t i) = none_asked e c (subst (Each Other) (sym i.outputs) nil) (ap (λ (b : Bool). e.enabled && not b) t ∙ off e.enabled)
  where
    off : (b : Bool) → b && false ≡ false
    off true = refl
    off false = refl
by_course e e' os c (commit_taken {s} {now} a t k) =
    kept_asks now _ e' _ os e.interfaces e.peers e.enabled k (refl ▸ nil) (committed_interfaces e s now) (committed_peers e s now) (committed_enabled e s now)
    ∙ ap (λ (b : Bool). flat_map (asks_of now e.interfaces) (cond b (keep (asks now) e.peers) [])) (on e.enabled)
  where
    on : (b : Bool) → b ≡ b && not (same_state e.state s)
    on true = sym (ap not t)
    on false = refl
by_course e e' os c (switch_same {b} a t i) = none_asked e c (subst (Each Other) (sym i.outputs) nil) (same b t)
  where
    same : (b : Bool) → e.enabled ≡ b → b && not e.enabled ≡ false
    same true t = ap not t
    same false t = refl
by_course e e' os c (went_on {now} a t k) =
    kept_asks now _ e' _ os e.interfaces e.peers true k (either (unstarted e.state) (refl ▸ nil) nil) refl refl refl
    ∙ ap (flat_map (asks_of now e.interfaces)) (sym (cond-true _ _ (ap not t)))
by_course e e' os c (went_off a t h) = none_asked e c (off_others e e' os h) refl
by_course e e' os c (added f g) = none_asked e c (subst (Each Other) (sym g) nil) refl
by_course e e' os c (removed f g) = none_asked e c (subst (Each Other) (sym g) nil) refl
by_course e e' os c (failed f g) = none_asked e c (subst (Each Other) (sym g) nil) refl

-- the asks among a call's outputs: for each neighbour that it asks, in order, one on each interface, to the neighbour's address
pub asks_sent : (e : Box) (c : Call) → keep sends_ask (outputs_of (step e c)) ≡ flat_map (asks_of (call_time c) e.interfaces) (asked_ones e c)
unfolding flat_map
asks_sent e c = go (step e c) refl
  where
    go : (o : Outcome) → step e c ≡ o → keep sends_ask (outputs_of o) ≡ flat_map (asks_of (call_time c) e.interfaces) (asked_in e c o)
    go (refused n) h = keep_none sends_ask nil
    go (done e' os) h = by_course e e' os c (course e c e' os h)

-- of the asks of one neighbour one is on interface i
one_on : (now : HostTime) (p : Peer) (i : Interface) {is : List Interface} → Ascending interface_key is → Memᴰ i is → keep (goes_by i.id) (asks_of now is p) ≡ ask now p i ∷ []
unfolding keep
one_on now p i none_left m = elim m [ ]
one_on now p i (more {x = j} {xs = js} above as') (Memᴰ.head e) =
    cond-true _ _ (eq-eqb j.id i.id (ap interface_key (sym e)))
    ∙ ap₂ (λ (k : Interface) (os : List Output). ask now p k ∷ os) (sym e)
    (keep_none (goes_by i.id) (each_map (ask now p) (λ k (l : j.id < k.id). ne_eqb k.id i.id (λ (f : k.id ≡ i.id). let g : i.id ≡ j.id = ap interface_key e in omega arith)) above))
one_on now p i (more {x = j} {xs = js} above as') (Memᴰ.tail m) =
    let l : j.id < i.id = each_mem above m in
    cond-false _ _ (ne_eqb j.id i.id (λ (f : j.id ≡ i.id). omega arith)) ∙ one_on now p i as' m

one_each : (now : HostTime) (is : List Interface) (i : Interface) → Ascending interface_key is → Memᴰ i is → (ps : List Peer)
    → keep (goes_by i.id) (flat_map (asks_of now is) ps) ≡ map (λ p. ask now p i) ps
unfolding flat_map keep
one_each now is i asc m [] = refl
one_each now is i asc m (p ∷ ps) = keep_append (goes_by i.id) (asks_of now is p) _ ∙ ap₂ (λ (xs ys : List Output). xs ++ ys) (one_on now p i asc m) (one_each now is i asc m ps)

module _ (e : Box) (asc : Ascending interface_key e.interfaces) (c : Call) (i : Interface) (m : Memᴰ i e.interfaces) where
  -- those on an interface that is held: one for each neighbour that the call asks, in order
  pub asks_sent_on : keep (asks_on i.id) (outputs_of (step e c)) ≡ map (λ p. ask (call_time c) p i) (asked_ones e c)
  asks_sent_on =
      keep_both sends_ask (goes_by i.id) (outputs_of (step e c)) ∙ ap (keep (goes_by i.id)) (asks_sent e c) ∙ one_each (call_time c) e.interfaces i asc m (asked_ones e c)

  -- those on it to an address: one for each neighbour at this address that the call asks
  pub asks_sent_at : (a : SocketAddrPlain) → keep (asks_at i.id a) (outputs_of (step e c)) ≡ map (λ p. ask (call_time c) p i) (keep (λ p. same_addr p.addr a) (asked_ones e c))
  asks_sent_at a =
      keep_both (asks_on i.id) (goes_to a) (outputs_of (step e c)) ∙ ap (keep (goes_to a)) asks_sent_on ∙ keep_map (goes_to a) (λ p. ask (call_time c) p i) (asked_ones e c)
