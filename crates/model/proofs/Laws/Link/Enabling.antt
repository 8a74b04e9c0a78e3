-- What Link's documentation and test plan ask of lists of calls: enabling keeps the tempo and the beat, disabling the state, a new engine is disabled, and
-- oneself is not counted.
use Rattle.std.specs.Prelude.{ℕ, ◌≡◌, ◌≢◌, Bool, false, not, cond, eqb, pos, length, Option, Some, None, unwrap_or}
use Rattle.std.proofs.Math.Path.{refl, ap, subst}
use Rattle.std.proofs.Common.{sym, ◌∙◌}
use Rattle.std.proofs.Math.Bool.{true}
use mathlib.Core.List.{List, [], ◌∷◌, map}
use borrow.Author.Tests.{eqb-true, eqb-false}
use Rattle.signed.specs.Laws.Signs.{eq_z_true}
use Rattle.signed.specs.Laws.Tests.{both}
use Rattle.time.specs.declared.HostTime.{HostTime}
use Rattle.timeline.specs.declared.SessionState.{SessionState}
use Rattle.wire.specs.declared.NodeId.{NodeId}
use Rattle.wire.specs.declared.SocketAddrPlain.{SocketAddrPlain}
use Rattle.wire.specs.declared.DiscoveryMsg.TheVariants.{Alive, ByeBye}
use Rattle.wire.specs.declared.MeasurementMsg.TheVariants.{Ping, Pong}
use Rattle.wire.specs.declared.Message.TheVariants.{Discovery, Measurement}
use Rattle.wire.specs.Parse.{parse}
use Rattle.lists.specs.Lists.{first, keep, has_key, without}
use Rattle.model.specs.Peers.{Peer, peer_key, new_peer}
use Rattle.model.specs.Engine.{Box, Produced, Output, new, with_peers, with_interfaces, with_num_session_peers, with_next_broadcast}
use Rattle.model.specs.Election.{resolve_if}
use Rattle.model.specs.Produce.{after_broadcast, after_ping, after_pings, lapse, produce_outputs}
use Rattle.model.specs.Laws.Calls.Messages.{arrived, pong_msg}
use Rattle.model.specs.Laws.Calls.Stages.{polled, settled, upkeep_box}
use Rattle.model.specs.Packet.{Arrival, unchanged, after_alive, handle_alive_of, handle_alive, handle_byebye, handle_ping, moved, measured, after_pong, handle_pong_of, handle_pong, handle_message, held_peer, owns}
use Rattle.model.specs.Calls.{Call, packet, tick, commit, switch, interface_added, interface_removed, io_error, Outcome, refused, done, next, our_own, committed, unstarted, started, switched_on, switched_off, switch_off, step, run}
use Rattle.lists.specs.Laws.Bools.{split, by_cond, clash, none_some, not_true, not_true→false, cond-false}
use Rattle.model.specs.Laws.Tools.Outcomes.{done_box}
use Rattle.lists.specs.Laws.Each.{Each, nil, each_mem, each_keep, each_map, each_change, each_upsert_any, first_mem, ◌▸◌}
use Rattle.model.specs.Laws.Calls.Course.{Course, packet_ignored, packet_taken, ticked, commit_same, commit_taken, switch_same, went_on, went_off, added, removed, failed, Kept}
use Rattle.model.proofs.Laws.Calls.Course.{course}
use Rattle.model.specs.Laws.Clerk.Neighbours.{runs_upkeep, goes_off, call_time, heard, upkept}
use Rattle.model.proofs.Laws.Clerk.Neighbours.{produce_enabled, messaged_alike, committed_enabled, accepted_peers}
use Rattle.model.proofs.Laws.Calls.Steps.{produce_on, produce_node, committed_node}
use Rattle.model.proofs.Laws.Calls.Reach.{reached}
use Rattle.model.specs.Laws.Link.Enabling.{switches_on, NotSelf}
use Rattle.wire.specs.declared.Message.{Message}

-- ---- switching on

-- upkeep without neighbours holds no election
alone_elects_nothing : (now : HostTime) (ps : List Peer) → ps ≡ [] → not (eqb (length (upkept now ps)) (length (map (after_ping now) ps))) ≡ false
unfolding keep
alone_elects_nothing now ps h = ap (λ (qs : List Peer). not (eqb (length (upkept now qs)) (length (map (after_ping now) qs)))) h

alone_keeps_state : (now : HostTime) (e : Box) → e.enabled ≡ true → e.peers ≡ [] → (produce_outputs now e).box.state ≡ e.state
unfolding upkeep_box with_num_session_peers settled lapse polled after_pings after_broadcast with_peers with_next_broadcast resolve_if
alone_keeps_state now e on h =
    ap (λ (a : Produced). a.box.state) (produce_on now e on) ∙ ap (λ (t : Bool). (resolve_if t now (lapse now (polled now e))).box.state) (alone_elects_nothing now e.peers h)

module _ (a : NodeId) (cs : List Call) (off : (run (new a) cs).enabled ≡ false) (now : HostTime) (buf_size : ℕ) (e' : Box) (os : List Output)
    (accepted : step (run (new a) cs) (switch true now buf_size) ≡ done e' os) where
  -- a disabled box that calls have led to holds no neighbour, so switching it on holds no election
  switched_state : e'.state ≡ (switched_on (run (new a) cs) now).state
  unfolding switched_on
  switched_state = go (course (run (new a) cs) (switch true now buf_size) e' os accepted)
    where
      go : Course (run (new a) cs) e' os (switch true now buf_size) → e'.state ≡ (switched_on (run (new a) cs) now).state
      go (switch_same t on i) = clash (sym on ∙ off)
      go (went_on t on k) = ap (λ (x : Box). x.state) k.box ∙ alone_keeps_state now (switched_on (run (new a) cs) now) refl ((reached a cs).alone off)

  -- TEMPO-5: enabling keeps the tempo
  pub enabling_keeps_tempo : e'.state.timeline.tempo ≡ (run (new a) cs).state.timeline.tempo
  unfolding switched_on started
  enabling_keeps_tempo =
      ap (λ (s : SessionState). s.timeline.tempo) switched_state
      ∙ by_cond (λ (s : SessionState). s.timeline.tempo ≡ (run (new a) cs).state.timeline.tempo) (unstarted (run (new a) cs).state) (started now (run (new a) cs).state) (run (new a) cs).state (λ t. refl) (λ t. refl)

  -- BEATTIME-1: and the beat at every time, where the line's time origin is not 0
  pub enabling_keeps_line : (run (new a) cs).state.timeline.time_origin.0 ≢ pos 0 → e'.state ≡ (run (new a) cs).state
  unfolding switched_on
  enabling_keeps_line d = switched_state ∙ cond-false _ _ (not_true→false _ (λ t. d (eq_z_true t)))

-- ---- switching off

-- TEMPO-5 and BEATTIME-1: disabling keeps the state, so the tempo and the beat at every time, on any box
pub disabling_keeps_state : (e : Box) (now : HostTime) (buf_size : ℕ) (e' : Box) (os : List Output) → step e (switch false now buf_size) ≡ done e' os → e'.state ≡ e.state
unfolding switch_off switched_off
disabling_keeps_state e now buf_size e' os accepted = go (course e (switch false now buf_size) e' os accepted)
  where
    go : Course e e' os (switch false now buf_size) → e'.state ≡ e.state
    go (switch_same a t i) = ap (λ (x : Box). x.state) i.box
    go (went_off a t h) = ap (λ (x : Box). x.state) (done_box _ _ _ _ h)

-- ---- disabled at first

pub new_is_disabled : (a : NodeId) → (new a).enabled ≡ false
unfolding new
new_is_disabled a = refl

module _ (e : Box) (off : e.enabled ≡ false) where
  -- what upkeep makes of a disabled box is disabled
  kept_off : {now : HostTime} (x : Box) {before : List Output} {e' : Box} {os : List Output} → x.enabled ≡ e.enabled → Kept now x before e' os → e'.enabled ≡ false
  kept_off {now} x f k = ap (λ (b : Box). b.enabled) k.box ∙ produce_enabled now x ∙ f ∙ off

  call_off : (e' : Box) (os : List Output) (c : Call) → switches_on c ≡ false → Course e e' os c → e'.enabled ≡ false
  unfolding switch_off switched_off with_interfaces
  call_off e' os c s (packet_ignored a t i) = ap (λ (b : Box). b.enabled) i.box ∙ off
  call_off e' os c s (packet_taken a l on own full k) = clash (sym on ∙ off)
  call_off e' os c s (ticked a k) = kept_off e refl k
  call_off e' os c s (commit_same a t i) = ap (λ (b : Box). b.enabled) i.box ∙ off
  call_off e' os c s (commit_taken {s = state} {now} a t k) = kept_off (committed e state now) (committed_enabled e state now) k
  call_off e' os c s (switch_same a t i) = ap (λ (b : Box). b.enabled) i.box ∙ off
  call_off e' os c s (went_on a t k) = clash s
  call_off e' os c s (went_off a t h) = ap (λ (b : Box). b.enabled) (done_box _ _ _ _ h)
  call_off e' os c s (added f g) = ap (λ (b : Box). b.enabled) f ∙ off
  call_off e' os c s (removed f g) = ap (λ (b : Box). b.enabled) f ∙ off
  call_off e' os c s (failed f g) = ap (λ (b : Box). b.enabled) f ∙ off

  step_off : (c : Call) → switches_on c ≡ false → (next e (step e c)).enabled ≡ false
  step_off c s = go (step e c) refl
    where
      go : (o : Outcome) → step e c ≡ o → (next e o).enabled ≡ false
      go (refused n) f = off
      go (done e' os) f = call_off e' os c s (course e c e' os f)

run_off : (e : Box) → e.enabled ≡ false → {cs : List Call} → Each (λ c. switches_on c ≡ false) cs → (run e cs).enabled ≡ false
unfolding run
run_off e off nil = off
run_off e off (◌▸◌ {x = c} s h) = run_off (next e (step e c)) (step_off e off c s) h

-- a new engine is disabled, and stays so over any calls that do not switch it on
pub disabled_until_switched_on : (a : NodeId) (cs : List Call) → Each (λ c. switches_on c ≡ false) cs → (run (new a) cs).enabled ≡ false
disabled_until_switched_on a cs h = run_off (new a) (new_is_disabled a) h

module _ (e : Box) (h : NotSelf e) where
  abbrev Other : Peer → Type 0
  Other p = p.id ≢ e.node_id

  -- the one that an alive is taken for, held or new
  other_sender : (n : NodeId) (from : SocketAddrPlain) (now : HostTime) → n ≢ e.node_id → Other (unwrap_or (held_peer n e.peers) (new_peer n from now))
  unfolding new_peer
  other_sender n from now d = go (held_peer n e.peers) refl
    where
      go : (o : Option Peer) → held_peer n e.peers ≡ o → Other (unwrap_or o (new_peer n from now))
      go None f = d
      go (Some p) f = each_mem h (first_mem (has_key peer_key n.0) p e.peers f).0

  module _ (a : Arrival) (bytes : List ℕ) where
    message_others : (m : Option Message) → our_own e.node_id m ≡ false → Each Other (handle_message e a bytes m).box.peers
    unfolding handle_message unchanged handle_alive handle_alive_of handle_byebye handle_ping handle_pong handle_pong_of with_peers without after_alive after_pong measured moved
    message_others None t = h
    message_others (Some (Discovery (Alive node timeline start_stop session mep4))) t = each_upsert_any peer_key _ (other_sender node a.from a.now (λ f. eqb-false _ _ t (ap (λ (n : NodeId). n.0) f))) h
    message_others (Some (Discovery (ByeBye node))) t = each_keep _ h
    message_others (Some (Measurement (Ping time prev))) t = h
    message_others (Some (Measurement (Pong session b2 a2 b1))) t = go (first (owns a.from) e.peers)
      where
        go : (o : Option Peer) → Each Other (handle_pong_of e a (pong_msg session b2 a2 b1) o).box.peers
        go None = h
        go (Some p) = each_change _ _ (λ x u d. d) h

  heard_others : (c : Call) → runs_upkeep e c ≡ true → Each Other (heard e c)
  heard_others (packet iface from bytes now buf_size) t = message_others (arrived iface from now) bytes (parse bytes) (not_true _ (both e.enabled (not (our_own e.node_id (parse bytes))) t).1)
  heard_others (tick now buf_size) t = h
  heard_others (commit s now buf_size) t = h
  heard_others (switch b now buf_size) t = h
  heard_others (interface_added iface addr) t = h
  heard_others (interface_removed iface) t = h
  heard_others (io_error iface error) t = h

  module _ (c : Call) (e' : Box) (os : List Output) (accepted : step e c ≡ done e' os) where
    others_after : Each Other e'.peers
    unfolding after_ping
    others_after = subst (Each Other) (sym (accepted_peers e c e' os accepted))
        (by_cond (Each Other) (runs_upkeep e c) (upkept (call_time c) (heard e c)) (cond (goes_off e c) [] e.peers)
        (λ t. each_keep _ (each_map (after_ping (call_time c)) (λ p d. d) (heard_others c t)))
        (λ t. by_cond (Each Other) (goes_off e c) [] e.peers (λ u. nil) (λ u. h)))

    -- under the same id
    not_self : e'.node_id ≡ e.node_id → NotSelf e'
    not_self f = subst (λ (n : NodeId). Each (λ p. p.id ≢ n) e'.peers) (sym f) others_after

    kept_node : {now : HostTime} (x : Box) {before : List Output} → x.node_id ≡ e.node_id → Kept now x before e' os → NotSelf e'
    kept_node {now} x f k = not_self (ap (λ (b : Box). b.node_id) k.box ∙ produce_node now x ∙ f)

    call_others : (d : Call) → Course e e' os d → NotSelf e'
    unfolding switched_on switch_off switched_off with_interfaces
    call_others d (packet_ignored a t i) = not_self (ap (λ (b : Box). b.node_id) i.box)
    call_others d (packet_taken {iface} {from} {bytes} {now} a l on own full k) = kept_node _ (messaged_alike e (arrived iface from now) bytes).node k
    call_others d (ticked a k) = kept_node e refl k
    call_others d (commit_same a t i) = not_self (ap (λ (b : Box). b.node_id) i.box)
    call_others d (commit_taken {s} {now} a t k) = kept_node _ (committed_node e s now) k
    call_others d (switch_same a t i) = not_self (ap (λ (b : Box). b.node_id) i.box)
    call_others d (went_on {now} a t k) = kept_node (switched_on e now) refl k
    call_others d (went_off a t f) = subst NotSelf (sym (done_box _ _ _ _ f)) nil
    call_others d (added f g) = not_self (ap (λ (b : Box). b.node_id) f)
    call_others d (removed f g) = not_self (ap (λ (b : Box). b.node_id) f)
    call_others d (failed f g) = not_self (ap (λ (b : Box). b.node_id) f)

others_step : (e : Box) → NotSelf e → (c : Call) → NotSelf (next e (step e c))
others_step e h c = go (step e c) refl
  where
    go : (o : Outcome) → step e c ≡ o → NotSelf (next e o)
    go (refused n) f = h
    go (done e' os) f = call_others e h c e' os f c (course e c e' os f)

others_run : (e : Box) → NotSelf e → (cs : List Call) → NotSelf (run e cs)
unfolding run
others_run e h [] = h
others_run e h (c ∷ cs) = others_run (next e (step e c)) (others_step e h c) cs

-- the number of peers does not count oneself: over any list of calls no neighbour held has our own id
pub never_oneself : (a : NodeId) (cs : List Call) → NotSelf (run (new a) cs)
unfolding new
never_oneself a cs = others_run (new a) nil cs

-- ---- a box that holds a neighbour

module _ (a : NodeId) (cs : List Call) (n : NodeId) (p : Peer) (h : held_peer n (run (new a) cs).peers ≡ Some p) where
  -- it is enabled,
  pub holds_on : (run (new a) cs).enabled ≡ true
  unfolding first
  holds_on = split (run (new a) cs).enabled (λ t. t) (λ t. none_some p (ap (held_peer n) (sym ((reached a cs).alone t)) ∙ h))

  -- and the neighbour is another
  pub holds_other : n ≢ (run (new a) cs).node_id
  holds_other e =
      let m = first_mem (has_key peer_key n.0) p (run (new a) cs).peers h in
      each_mem (never_oneself a cs) m.0 (ap (λ (k : ℕ). record { 0 = k }) (eqb-true _ _ m.1) ∙ e)
