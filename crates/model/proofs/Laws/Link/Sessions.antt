-- What Link's documentation and test plan ask of an election: who joins changes no tempo and no beat, and the later start or stop stands.
use Rattle.std.proofs.Common.{arith, sym, ◌∙◌, subst, SFits}
use Rattle.std.specs.Prelude.{◌≡◌, ◌≢◌, ◌⊎◌, Bool, ◌&&◌, ℤ, pos, ◌+ℤ◌, ◌-ℤ◌, ◌≤ℤ◌, ◌<ℤ◌, Option, Some, None, unwrap_or}
use Rattle.std.proofs.Math.Path.{refl, ap}
use Rattle.std.proofs.Math.Logic.{inl, inr}
use Rattle.std.proofs.Math.Bool.{true, false, not}
use mathlib.Core.List.{List, [], Memᴰ}
use Rattle.std.specs.Int.Signed.{le_z, clash_ℤ}
use Rattle.std.specs.Int.{w64}
use Rattle.signed.specs.Wrap.{wrap64}
use Rattle.signed.specs.Laws.Diff.{by_diff, diff_lt, ring}
use Rattle.signed.specs.Laws.Order.{≤ℤ_<ℤ_trans}
use Rattle.signed.specs.Laws.Signs.{le_z-false}
use Rattle.signed.specs.Laws.WrapLaws.{wrap64_fits, wrap64_id, wrap64_wrap64, wrap64_sub-add, wrap64_add-sub}
use Rattle.time.specs.declared.HostTime.{HostTime}
use Rattle.timeline.specs.declared.Timeline.{Timeline}
use Rattle.timeline.specs.declared.StartStopState.{StartStopState}
use Rattle.timeline.specs.declared.SessionState.{SessionState}
use Rattle.timeline.specs.Same.{same_timeline}
use Rattle.wire.specs.declared.NodeId.{NodeId}
use Rattle.model.specs.Sums.{add64, sub64}
use Rattle.lists.specs.Lists.{empty}
use Rattle.model.specs.Peers.{Peer, new_peer, timelines_in, start_stops_in, Samples, no_samples, origin_of, moment_of}
use Rattle.model.specs.Engine.{Box, with_peers, with_state, with_next_broadcast, timeline_to_ghost, timeline_to_host, start_stop_to_ghost, start_stop_to_host}
use Rattle.model.specs.Election.{host_or, resolved, resolve_if}
use Rattle.model.specs.Packet.{Arrival, AliveMsg, session_changed, news, after_alive, handle_alive_of, handle_alive, held_peer}
use Rattle.model.specs.Commit.{max_beat_origin, move_to, above, max_start_stop_time, later_than, taken}
use Rattle.model.specs.Calls.{resolved_if_needed, committed}
use Rattle.lists.specs.Laws.Bools.{by_cond, some_inj, not_true→false, cond-true, cond-false}
use Rattle.lists.specs.Laws.Each.{Each, each, each_mem}
use Rattle.model.specs.Laws.Tools.Tests.{same_start_stop_true, same_maybe_node_true}
use Rattle.model.specs.Laws.Link.Best.{IsBest, best_or_above, best_member, from_is, not_below}
use Rattle.model.specs.Laws.Link.Elected.{Adopts, AdoptsAny, new_session, new_offset, lines, start_stops, our_line, our_start_stop, same_session, line_taken, line_taken_changed, start_stop_taken, start_stop_taken_changed}
use Rattle.model.specs.Laws.Distance.Lists.{Under, best_wins}
use Rattle.model.specs.Laws.Tools.Parts.{part_by, start_stop_part}
use Rattle.model.specs.Laws.Link.Sessions.{FromKnown, shared_start_stop, KnowsOf}

-- ---- the alive of one who joins

module _ (e : Box) (a : Arrival) (m : AliveMsg) where
  -- the samples that are left where the session is another
  cleared : (p : Peer) → p.session_id ≢ m.session_id → (after_alive a.from m a.now p).samples.offsets ≡ []
  unfolding after_alive session_changed
  cleared p d = ap (λ (s : Samples). s.offsets) (cond-true no_samples p.samples (ap not (not_true→false _ (λ t. d (same_maybe_node_true _ _ t)))))

  unsampled : (p : Peer) → (after_alive a.from m a.now p).samples.offsets ≡ [] → (handle_alive_of e a m p).needs_resolution ≡ false
  unfolding handle_alive_of
  unsampled p h = ap (λ (xs : List ℤ). news m p && not (empty xs)) h ∙ off (news m p)
    where
      off : (t : Bool) → t && false ≡ false
      off true = refl
      off false = refl

  fresh : (after_alive a.from m a.now (new_peer m.node_id a.from a.now)).samples.offsets ≡ []
  unfolding after_alive new_peer
  fresh = by_cond (λ (s : Samples). s.offsets ≡ []) (session_changed m (new_peer m.node_id a.from a.now)) no_samples no_samples (λ t. refl) (λ t. refl)

  -- TEMPO-2: an alive of a node that is not held, or is held under another session, calls for no election
  pub new_session_elects_nothing : ((p : Peer) → held_peer m.node_id e.peers ≡ Some p → p.session_id ≢ m.session_id) → (handle_alive e a m).needs_resolution ≡ false
  unfolding handle_alive
  new_session_elects_nothing d = go (held_peer m.node_id e.peers) d
    where
      go : (o : Option Peer) → ((p : Peer) → o ≡ Some p → p.session_id ≢ m.session_id) → (handle_alive_of e a m (unwrap_or o (new_peer m.node_id a.from a.now))).needs_resolution ≡ false
      go None d = unsampled _ fresh
      go (Some p) d = unsampled p (cleared p (d p refl))

  -- so that it leaves our line and our start-stop state
  pub new_session_keeps_state : ((p : Peer) → held_peer m.node_id e.peers ≡ Some p → p.session_id ≢ m.session_id)
      → (resolved_if_needed a.now (handle_alive e a m)).box.state ≡ e.state
  unfolding resolved_if_needed resolve_if handle_alive handle_alive_of with_peers
  new_session_keeps_state d = ap (λ (t : Bool). (resolve_if t a.now (handle_alive e a m).box).box.state) (new_session_elects_nothing d)

-- ---- the line

-- into shared time and back
line_back : (o : ℤ) (l : Timeline) → SFits w64 l.time_origin.0 → timeline_to_host o (timeline_to_ghost o l) ≡ l
unfolding timeline_to_host timeline_to_ghost
line_back o l f = let t = wrap64_add-sub l.time_origin.0 o ∙ wrap64_id _ f in
    λ i. record { tempo = l.tempo; beat_origin = l.beat_origin; time_origin = record { 0 = t i } }

module _ (now : HostTime) (e : Box) where
  -- TEMPO-2: an election in our session leaves our line, or takes a known one of a larger beat origin
  pub election_line : new_session now e ≡ e.session_id → SFits w64 e.state.timeline.time_origin.0
      → ((resolved now e).state.timeline ≡ e.state.timeline) ⊎ ((k : FromKnown now e) × (origin_of e.state.timeline <ℤ origin_of k.line))
  unfolding timeline_to_ghost
  election_line h f = go (line_taken now e h)
    where
      go : Adopts origin_of (timeline_to_host (new_offset now e)) (Some (our_line now e)) (lines now e) (resolved now e).state.timeline
          → ((resolved now e).state.timeline ≡ e.state.timeline) ⊎ ((k : FromKnown now e) × (origin_of e.state.timeline <ℤ origin_of k.line))
      go t = by (best_or_above origin_of t.is_best)
        where
          by : (t.one ≡ our_line now e) ⊎ (Memᴰ t.one (lines now e) × (origin_of (our_line now e) <ℤ origin_of t.one))
              → ((resolved now e).state.timeline ≡ e.state.timeline) ⊎ ((k : FromKnown now e) × (origin_of e.state.timeline <ℤ origin_of k.line))
          by (inl q) = inl (t.in_host_time ∙ ap (timeline_to_host (new_offset now e)) q ∙ line_back _ _ f)
          by (inr q) = inr (record { line = t.one; known = q.0; largest = t.is_best.over; in_host_time = t.in_host_time }, q.1)

  -- and one that changes the session takes a known one, or leaves ours where none is known
  pub election_line_changed : new_session now e ≢ e.session_id → ((lines now e ≡ []) × ((resolved now e).state.timeline ≡ e.state.timeline)) ⊎ FromKnown now e
  election_line_changed h = go (line_taken_changed now e h)
    where
      go : AdoptsAny origin_of (timeline_to_host (new_offset now e)) e.state.timeline (lines now e) (resolved now e).state.timeline
          → ((lines now e ≡ []) × ((resolved now e).state.timeline ≡ e.state.timeline)) ⊎ FromKnown now e
      go (inl q) = inl q
      go (inr t) = inr (record { line = t.one; known = best_member origin_of t.is_best; largest = t.is_best.over; in_host_time = t.in_host_time })

  -- BEATTIME-2: an election in our session, where no known line has a larger beat origin than ours, leaves our line, whatever offset it adopts
  pub joining_keeps_line : new_session now e ≡ e.session_id → SFits w64 e.state.timeline.time_origin.0
      → Each (λ l. origin_of l ≤ℤ origin_of e.state.timeline) (timelines_in e.session_id e.peers) → (resolved now e).state.timeline ≡ e.state.timeline
  joining_keeps_line h f below = go (election_line h f)
    where
      go : ((resolved now e).state.timeline ≡ e.state.timeline) ⊎ ((k : FromKnown now e) × (origin_of e.state.timeline <ℤ origin_of k.line)) → (resolved now e).state.timeline ≡ e.state.timeline
      go (inl q) = q
      go (inr (k, a)) = clash_ℤ a (each_mem below (subst (λ (s : NodeId). Memᴰ k.line (timelines_in s e.peers)) h k.known))

-- from shared time and back
pub start_stop_back : (o : ℤ) (s : StartStopState) → SFits w64 (moment_of s) → start_stop_to_ghost o (start_stop_to_host o s) ≡ s
unfolding start_stop_to_host start_stop_to_ghost
start_stop_back o s f = let t = wrap64_sub-add s.time.0 o ∙ wrap64_id _ f in λ i. record { is_playing = s.is_playing; beat = s.beat; time = record { 0 = t i } }

module _ (now : HostTime) (e : Box) where
  our_fits : SFits w64 (moment_of (our_start_stop now e))
  unfolding start_stop_to_ghost
  our_fits = wrap64_fits _

  module _ (fits : Each (λ s. SFits w64 (moment_of s)) (start_stops now e)) where
    -- STARTSTOPSTATE-1 and -2: after an election in our session our start-stop state, in shared time, is the latest of those known and of our own
    pub election_start_stop : new_session now e ≡ e.session_id → IsBest moment_of (Some (our_start_stop now e)) (start_stops now e) (shared_start_stop (resolved now e))
    election_start_stop h = go (start_stop_taken now e h)
      where
        one_fits : (s : StartStopState) → (Some (our_start_stop now e) ≡ Some s) ⊎ Memᴰ s (start_stops now e) → SFits w64 (moment_of s)
        one_fits s (inl q) = subst (λ (x : StartStopState). SFits w64 (moment_of x)) (some_inj _ _ q) our_fits
        one_fits s (inr m) = each_mem fits m

        go : Adopts moment_of (start_stop_to_host (new_offset now e)) (Some (our_start_stop now e)) (start_stops now e) (resolved now e).state.start_stop
            → IsBest moment_of (Some (our_start_stop now e)) (start_stops now e) (shared_start_stop (resolved now e))
        go t = subst (IsBest moment_of (Some (our_start_stop now e)) (start_stops now e))
            (sym (ap (start_stop_to_ghost (new_offset now e)) t.in_host_time ∙ start_stop_back (new_offset now e) t.one (one_fits t.one t.is_best.among))) t.is_best

    -- and where the session changes, of those known there, or as it was where none is
    pub election_start_stop_changed : new_session now e ≢ e.session_id
        → ((start_stops now e ≡ []) × ((resolved now e).state.start_stop ≡ e.state.start_stop)) ⊎ IsBest moment_of None (start_stops now e) (shared_start_stop (resolved now e))
    election_start_stop_changed h = go (start_stop_taken_changed now e h)
      where
        go : AdoptsAny moment_of (start_stop_to_host (new_offset now e)) e.state.start_stop (start_stops now e) (resolved now e).state.start_stop
            → ((start_stops now e ≡ []) × ((resolved now e).state.start_stop ≡ e.state.start_stop)) ⊎ IsBest moment_of None (start_stops now e) (shared_start_stop (resolved now e))
        go (inl q) = inl q
        go (inr t) = inr (subst (IsBest moment_of None (start_stops now e))
            (sym (ap (start_stop_to_ghost (new_offset now e)) t.in_host_time ∙ start_stop_back (new_offset now e) t.one (each_mem fits (best_member moment_of t.is_best)))) t.is_best)

-- ---- a commit of a start or a stop

next_up : (k : ℤ) → k <ℤ (k +ℤ pos 1)
next_up = by_diff _ λ p n. simp ring (diff_lt _ _ _ _ (omega arith))

-- the committed one in shared time, above the latest that was known
later_above : (o known : ℤ) (s : StartStopState) → SFits w64 (known +ℤ pos 1) → known <ℤ moment_of (start_stop_to_ghost o (later_than o known s))
unfolding later_than start_stop_to_ghost
later_above o known s f =
    let back : wrap64 (wrap64 (wrap64 (known +ℤ pos 1) -ℤ o) +ℤ o) ≡ known +ℤ pos 1 = wrap64_sub-add (wrap64 (known +ℤ pos 1)) o ∙ wrap64_wrap64 _ ∙ wrap64_id _ f in
    by_cond (λ (x : StartStopState). known <ℤ wrap64 (x.time.0 +ℤ o)) (le_z (add64 s.time.0 o) known)
    (record { is_playing = s.is_playing; beat = s.beat; time = record { 0 = sub64 (add64 known (pos 1)) o } }) s
    (λ t. subst (λ (z : ℤ). known <ℤ z) (sym back) (next_up known)) (λ t. le_z-false t)

known_upto : (e : Box) (s : StartStopState) → KnowsOf e s → moment_of s ≤ℤ max_start_stop_time e
unfolding max_start_stop_time
known_upto e s (inl q) = subst (λ (x : StartStopState). moment_of x ≤ℤ max_start_stop_time e) (sym q) (not_below moment_of _ _ ((from_is moment_of (shared_start_stop e) _).over_before (shared_start_stop e) refl))
known_upto e s (inr m) = each_mem (from_is moment_of (shared_start_stop e) _).over m

module _ (e : Box) (s : SessionState) (now : HostTime) where
  -- before upkeep a commit leaves the offset
  pub committed_shared : shared_start_stop (committed e s now) ≡ start_stop_to_ghost e.session_offset (taken e s).start_stop
  unfolding committed with_next_broadcast with_state
  committed_shared =
      by_cond (λ (x : Box). shared_start_stop x ≡ start_stop_to_ghost e.session_offset (taken e s).start_stop)
      e.enabled (with_next_broadcast now (with_state (taken e s) e)) (with_state (taken e s) e) (λ u. refl) (λ u. refl)

  -- a commit of another start-stop state
  committed_start_stop : s.start_stop ≢ e.state.start_stop
      → shared_start_stop (committed e s now) ≡ start_stop_to_ghost e.session_offset (later_than e.session_offset (max_start_stop_time e) s.start_stop)
  unfolding taken
  committed_start_stop d = committed_shared ∙ ap (start_stop_to_ghost e.session_offset) (cond-false _ _ (not_true→false _ (λ u. d (same_start_stop_true _ _ u))))

  -- STARTSTOPSTATE-2: a committed start or stop is later, in shared time, than every one that was known in session
  pub later_commit_stands : s.start_stop ≢ e.state.start_stop → SFits w64 (max_start_stop_time e +ℤ pos 1)
      → (x : StartStopState) → KnowsOf e x → moment_of x <ℤ moment_of (shared_start_stop (committed e s now))
  later_commit_stands d f x k =
      ≤ℤ_<ℤ_trans _ _ _ (known_upto e x k)
      (subst (λ (y : StartStopState). max_start_stop_time e <ℤ moment_of y) (sym (committed_start_stop d)) (later_above e.session_offset (max_start_stop_time e) s.start_stop f))

-- the latest of a session is taken
latest_taken : (now : HostTime) (e : Box) → new_session now e ≡ e.session_id → (L : StartStopState) → Under moment_of L (our_start_stop now e) → Each (Under moment_of L) (start_stops now e) → Memᴰ L (start_stops now e)
    → (resolved now e).state.start_stop ≡ start_stop_to_host (new_offset now e) L
unfolding start_stops_in
latest_taken now e h L u below m =
    part_by start_stop_part now e true (same_session now e h) ∙ ap (host_or (start_stop_to_host (new_offset now e)) e.state.start_stop) (best_wins moment_of L (our_start_stop now e) u below m)

-- STARTSTOPSTATE-1: it is shared: an election of another box in its session takes it, where that box has heard of it and else of none that the sender did not
-- know
pub later_commit_taken : (sender : Box) (s : SessionState) (now : HostTime) → s.start_stop ≢ sender.state.start_stop → SFits w64 (max_start_stop_time sender +ℤ pos 1)
    → (e : Box) (now' : HostTime) → new_session now' e ≡ e.session_id → let sent = shared_start_stop (committed sender s now) in
    Memᴰ sent (start_stops now' e) → Each (λ x. (x ≡ sent) ⊎ KnowsOf sender x) (start_stops now' e) → KnowsOf sender (our_start_stop now' e)
    → (resolved now' e).state.start_stop ≡ start_stop_to_host (new_offset now' e) sent
later_commit_taken sender s now d f e now' h m others own =
    latest_taken now' e h (shared_start_stop (committed sender s now)) (inr (later _ own)) (each (λ x k. under x k) others) m
  where
    later : (x : StartStopState) → KnowsOf sender x → moment_of x <ℤ moment_of (shared_start_stop (committed sender s now))
    later = later_commit_stands sender s now d f

    under : (x : StartStopState) → (x ≡ shared_start_stop (committed sender s now)) ⊎ KnowsOf sender x → Under moment_of (shared_start_stop (committed sender s now)) x
    under x (inl q) = inl q
    under x (inr k) = inr (later x k)

-- ---- a commit's tempo

-- any tempo is taken as it is, in any box
pub any_tempo_taken : (e : Box) (s : SessionState) → (taken e s).timeline.tempo ≡ s.timeline.tempo
unfolding taken above move_to
any_tempo_taken e s =
    by_cond (λ (l : Timeline). l.tempo ≡ s.timeline.tempo) (same_timeline s.timeline e.state.timeline) s.timeline (above (max_beat_origin e) s.timeline) (λ t. refl)
    (λ t. by_cond (λ (l : Timeline). l.tempo ≡ s.timeline.tempo) (le_z s.timeline.beat_origin.0 (max_beat_origin e)) (move_to (add64 (max_beat_origin e) (pos 1_000_000)) s.timeline) s.timeline (λ u. refl) (λ u. refl))
