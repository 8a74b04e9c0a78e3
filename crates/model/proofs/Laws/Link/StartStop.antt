-- A start or a stop that is committed on one box is held by another, once that has taken the commit's packet: over two whole lists of calls.
use Rattle.std.specs.Prelude.{ℕ, ◌^◌, ◌<◌, ◌≡◌, ◌≢◌, Bool, true, false, ◌||◌, not, ℤ, pos, Some}
use Rattle.std.proofs.Math.Path.{refl, ap}
use Rattle.std.proofs.Common.{sym, ◌∙◌, subst, SFits}
use mathlib.Core.List.{List, [], ◌∷◌, ◌++◌}
use Rattle.std.specs.Int.Signed.{le_z}
use Rattle.std.specs.Int.{w64}
use Rattle.signed.specs.Laws.WrapLaws.{wrap64_fits, wrap64_id, wrap64_wrap64}
use Rattle.time.specs.declared.HostTime.{HostTime}
use Rattle.time.specs.declared.MicroBeats.{MicroBeats}
use Rattle.timeline.specs.declared.StartStopState.{StartStopState}
use Rattle.timeline.specs.declared.SessionState.{SessionState}
use Rattle.timeline.specs.Same.{same_start_stop}
use Rattle.wire.specs.declared.NodeId.{NodeId}
use Rattle.wire.specs.declared.SocketAddrPlain.{SocketAddrPlain}
use Rattle.wire.specs.Same.{same_maybe_timeline, same_maybe_start_stop}
use Rattle.model.specs.Sums.{add64, sub64}
use Rattle.model.specs.Peers.{Peer, start_stops_in}
use Rattle.model.specs.Engine.{Box, new, timeline_to_ghost, start_stop_to_ghost, start_stop_to_host}
use Rattle.model.specs.Packet.{AliveMsg, session_changed, news, after_alive}
use Rattle.model.specs.Commit.{max_start_stop_time, later_than, taken}
use Rattle.model.specs.Calls.{Call, packet, committed, run}
use Rattle.model.specs.Laws.Calls.Messages.{alive_said}
use Rattle.lists.specs.Laws.Bools.{by_cond, not_true→false}
use Rattle.model.specs.Laws.Tools.Tests.{same_maybe_start_stop_true}
use Rattle.model.specs.Laws.Tools.Parts.{start_stop_part}
use Rattle.model.proofs.Laws.Calls.Reach.{reached}
use Rattle.model.specs.Laws.Distance.Reads.{low_start_stop, Tells}
use Rattle.model.proofs.Laws.Distance.Sent.{commit_says}
use Rattle.model.specs.Laws.Distance.Wider.{TakesAlive}
use Rattle.model.proofs.Laws.Distance.Taken.{taken_part}
use Rattle.model.proofs.Laws.Distance.Rule.{run_then}
use Rattle.model.specs.Laws.Link.Sessions.{shared_start_stop}
use Rattle.model.proofs.Laws.Link.Sessions.{start_stop_back, committed_shared}
use Rattle.model.proofs.Laws.Link.Enabling.{holds_on, holds_other}
use Rattle.model.specs.Laws.Link.StartStop.{SendsStartStop, TakesStartStop}

-- ---- what a commit takes of a start-stop state: as asked, but for its time

later_keeps : (o known : ℤ) (x : StartStopState) → ((later_than o known x).is_playing ≡ x.is_playing) × ((later_than o known x).beat ≡ x.beat)
unfolding later_than
later_keeps o known x =
    by_cond (λ (y : StartStopState). (y.is_playing ≡ x.is_playing) × (y.beat ≡ x.beat)) (le_z (add64 x.time.0 o) known)
    (record { is_playing = x.is_playing; beat = x.beat; time = record { 0 = sub64 (add64 known (pos 1)) o } }) x (λ t. (refl, refl)) (λ t. (refl, refl))

taken_keeps : (e : Box) (s : SessionState) → ((taken e s).start_stop.is_playing ≡ s.start_stop.is_playing) × ((taken e s).start_stop.beat ≡ s.start_stop.beat)
unfolding taken
taken_keeps e s =
    by_cond (λ (y : StartStopState). (y.is_playing ≡ s.start_stop.is_playing) × (y.beat ≡ s.start_stop.beat)) (same_start_stop s.start_stop e.state.start_stop)
    s.start_stop (later_than e.session_offset (max_start_stop_time e) s.start_stop) (λ t. (refl, refl)) (λ t. later_keeps e.session_offset (max_start_stop_time e) s.start_stop)

-- ---- on its way

start_stop_inj : (x y : StartStopState) → Some x ≡ Some y → x ≡ y
start_stop_inj x y e = cc

-- one that was read comes back the same from host time
there_and_back : (o : ℤ) (x : StartStopState) → start_stop_to_ghost o (start_stop_to_host o (low_start_stop x)) ≡ low_start_stop x
unfolding low_start_stop
there_and_back o x = start_stop_back o (low_start_stop x) (wrap64_fits _)

-- in shared time only the beat can have more than 64 bits
low_exact : (o : ℤ) (x : StartStopState) → SFits w64 x.beat.0 → low_start_stop (start_stop_to_ghost o x) ≡ start_stop_to_ghost o x
unfolding low_start_stop start_stop_to_ghost
low_exact o x f = rw (wrap64_id x.beat.0 f, wrap64_wrap64)

-- an alive with another start-stop state is news
start_stop_news : (m : AliveMsg) (p : Peer) → p.start_stop_ghost ≢ m.start_stop → news m p ≡ true
unfolding news
start_stop_news m p unlike =
    go (not (same_maybe_timeline p.timeline_ghost m.timeline)) (not_true→false (same_maybe_start_stop p.start_stop_ghost m.start_stop) (λ t. unlike (same_maybe_start_stop_true _ _ t)))
  where
    go : (t : Bool) {u : Bool} → u ≡ false → t || not u || session_changed m p ≡ true
    go true e = refl
    go false e = ap (λ (u : Bool). not u || session_changed m p) e

-- ---- of two engines led on from new

module _ (a b : NodeId) (calls hears : List Call) (s : SessionState) (now now' : HostTime) (buf_size buf_size' i : ℕ) (from : SocketAddrPlain) (bytes : List ℕ) (sent : StartStopState) (fits : a.0 < 2 ^ 64) where
  -- what the receiver holds after its list and the call that takes the alive
  abbrev after : Box
  after = run (new b) (hears ++ (packet i from bytes now' buf_size' ∷ []))

  module _ (c : SendsStartStop (run (new a) calls) s now buf_size bytes sent) (t : TakesStartStop (run (new a) calls) sent (run (new b) hears) i from bytes now' buf_size') where
    abbrev sender : Box
    sender = run (new a) calls

    abbrev receiver : Box
    receiver = run (new b) hears

    abbrev alive : NodeId → AliveMsg
    alive n = record { node_id = n; timeline = c.line; start_stop = Some sent; session_id = Some sender.session_id; mep4 = c.mep4 }

    says : Tells sender.node_id (timeline_to_ghost sender.session_offset (taken sender s).timeline) (start_stop_to_ghost sender.session_offset (taken sender s).start_stop) (alive c.node)
    says = commit_says sender s now buf_size c.after c.outputs c.interface c.to bytes (alive c.node) ((reached a calls).node fits) c.accepted c.written c.reads

    sent_is : sent ≡ low_start_stop (shared_start_stop (committed sender s now))
    sent_is = start_stop_inj _ _ says.start_stop ∙ ap low_start_stop (sym (committed_shared sender s now))

    heard : TakesAlive receiver i from bytes now' buf_size' (alive sender.node_id)
    heard = record {
      after = t.after;
      outputs = t.outputs;
      accepted = t.accepted;
      reads = c.reads ∙ ap (λ (n : NodeId). alive_said (alive n)) says.of_node;
      our_session = ap Some (sym t.our_session);
      held = t.held;
      holds = t.holds;
      held_session = t.held_session;
      sampled = t.sampled;
      is_news = start_stop_news (alive sender.node_id) t.held t.unlike;
      elections = t.elections;
    }

    back : start_stop_to_ghost receiver.session_offset (start_stop_to_host receiver.session_offset sent) ≡ sent
    back = subst (λ (x : StartStopState). start_stop_to_ghost receiver.session_offset (start_stop_to_host receiver.session_offset x) ≡ x) (sym sent_is) (there_and_back receiver.session_offset _)

    held_after : (t.after.state.start_stop ≡ start_stop_to_host receiver.session_offset sent) × (t.after.session_offset ≡ receiver.session_offset)
    unfolding heard after_alive start_stops_in
    held_after =
        taken_part start_stop_part receiver i from bytes now' buf_size' (alive sender.node_id) sent (reached b hears).ascending_peers back
        (holds_on b hears sender.node_id t.held t.holds) (holds_other b hears sender.node_id t.held t.holds) heard refl t.others t.own

    arrives : shared_start_stop after ≡ sent
    arrives =
        ap shared_start_stop (run_then (new b) hears (packet i from bytes now' buf_size') t.after t.outputs t.accepted)
        ∙ ap (λ (o : ℤ). start_stop_to_ghost o t.after.state.start_stop) held_after.1
        ∙ ap (start_stop_to_ghost receiver.session_offset) held_after.0
        ∙ back

  -- STARTSTOPSTATE-1 of Link's test plan: a start or a stop on one participant reaches the others. In shared time the receiver holds what the sender took, by
  -- its low 64 bits.
  pub start_stop_reaches : SendsStartStop (run (new a) calls) s now buf_size bytes sent → TakesStartStop (run (new a) calls) sent (run (new b) hears) i from bytes now' buf_size'
      → shared_start_stop after ≡ low_start_stop (shared_start_stop (committed (run (new a) calls) s now))
  start_stop_reaches c t = arrives c t ∙ sent_is c t

  -- just what it took, where the asked beat is an i64
  pub start_stop_reaches_exactly : SendsStartStop (run (new a) calls) s now buf_size bytes sent → TakesStartStop (run (new a) calls) sent (run (new b) hears) i from bytes now' buf_size'
      → SFits w64 s.start_stop.beat.0 → shared_start_stop after ≡ shared_start_stop (committed (run (new a) calls) s now)
  start_stop_reaches_exactly c t f =
      let e : Box = run (new a) calls in
      let g : SFits w64 (taken e s).start_stop.beat.0 = subst (λ (x : MicroBeats). SFits w64 x.0) (sym (taken_keeps e s).1) f in
      start_stop_reaches c t ∙ subst (λ (x : StartStopState). low_start_stop x ≡ x) (sym (committed_shared e s now)) (low_exact e.session_offset (taken e s).start_stop g)

  -- it plays or has stopped as asked, whatever the sizes
  pub playing_reaches : SendsStartStop (run (new a) calls) s now buf_size bytes sent → TakesStartStop (run (new a) calls) sent (run (new b) hears) i from bytes now' buf_size'
      → after.state.start_stop.is_playing ≡ s.start_stop.is_playing
  unfolding low_start_stop start_stop_to_ghost
  playing_reaches c t =
      let e : Box = run (new a) calls in
      ap (λ (x : StartStopState). x.is_playing) (start_stop_reaches c t ∙ ap low_start_stop (committed_shared e s now)) ∙ (taken_keeps e s).0
