-- The distance rule and the wider one, of boxes whose neighbours stand in order and whose sender's id fits 64 bits: all that calls lead to are such.
use Rattle.std.specs.Prelude.{ℕ, ◌^◌, ◌<◌, ◌≡◌, refl, ◌≢◌, true, List, [], ◌∷◌, ◌++◌, ℤ, pos, ◌-ℤ◌, Some}
use Rattle.std.proofs.Common.{sym, ◌∙◌, subst, arith, SFits}
use Rattle.std.proofs.Math.Path.{ap}
use Rattle.std.proofs.Math.IntN.{nat_abs}
use Rattle.std.specs.Float.{binary64}
use Rattle.std.specs.Float.Ieee.{of_int}
use Rattle.std.specs.Int.Signed.{le_z}
use Rattle.std.specs.Int.{w64}
use Rattle.signed.specs.Wrap.{wrap64}
use Rattle.signed.specs.Laws.WrapLaws.{wrap64_id}
use Rattle.time.specs.declared.HostTime.{HostTime}
use Rattle.time.specs.declared.TempoWire.{TempoWire}
use Rattle.time.specs.Convert.{from_tempo}
use Rattle.time.specs.Laws.Theorems.{from_tempo_20, from_tempo_999}
use Rattle.timeline.specs.declared.Timeline.{Timeline}
use Rattle.timeline.specs.declared.SessionState.{SessionState}
use Rattle.timeline.specs.Same.{same_timeline}
use Rattle.wire.specs.declared.NodeId.{NodeId}
use Rattle.wire.specs.declared.SocketAddrPlain.{SocketAddrPlain}
use Rattle.model.specs.Sums.{add64}
use Rattle.model.specs.Peers.{peer_key}
use Rattle.model.specs.Engine.{Box, Output, new, timeline_to_ghost, timeline_to_host}
use Rattle.model.specs.Packet.{AliveMsg}
use Rattle.model.specs.Commit.{max_beat_origin, move_to, above, taken}
use Rattle.model.specs.Calls.{Call, packet, done, next, step, run}
use Rattle.model.specs.Preview.{moved_by, given, preview}
use Rattle.model.specs.Laws.Calls.Messages.{alive_said}
use Rattle.model.proofs.Laws.Previews.{preview_given, commit_timely, given_parts}
use Rattle.lists.specs.Laws.Bools.{by_cond}
use Rattle.lists.specs.Laws.Each.{Ascending}
use Rattle.model.proofs.Laws.Calls.Reach.{reached, run_append}
use Rattle.model.proofs.Laws.Link.Enabling.{holds_on, holds_other}
use Rattle.model.specs.Laws.Distance.Statement.{Small, stands, Sends, Commits, Takes, Hears, Near, DistanceRule}
use Rattle.model.specs.Laws.Distance.Wider.{Writes, TakesAlive, Newest, Bounded, Exactly, WiderDistanceRule}
use Rattle.model.specs.Laws.Distance.Sizes.{size_between}
use Rattle.model.specs.Laws.Distance.Reads.{low_bits}
use Rattle.model.proofs.Laws.Distance.Sent.{commit_says, sent_line}
use Rattle.model.proofs.Laws.Distance.Taken.{line_news, taken_line}
use Rattle.model.specs.Laws.Distance.Exact.{there_and_back, carried, equal_near, near_above, exact_above, known_small}

-- ---- of any two boxes

-- a move leaves the tempo
above_tempo : (K : ℤ) (l : Timeline) → (above K l).tempo ≡ l.tempo
unfolding above move_to
above_tempo K l = by_cond (λ (x : Timeline). x.tempo ≡ l.tempo) (le_z l.beat_origin.0 K) (move_to (add64 K (pos 1_000_000)) l) l (λ u. refl) (λ u. refl)

taken_tempo : (e : Box) (s : SessionState) → (taken e s).timeline.tempo ≡ s.timeline.tempo
unfolding taken
taken_tempo e s =
    by_cond (λ (x : Timeline). x.tempo ≡ s.timeline.tempo) (same_timeline s.timeline e.state.timeline) s.timeline (above (max_beat_origin e) s.timeline)
    (λ t. refl) (λ t. above_tempo (max_beat_origin e) s.timeline)

module _ (S R : Box) (s : SessionState) (beat : ℤ) (z : Bounded S s R) where
  abbrev O : ℤ
  O = S.session_offset

  abbrev o : ℤ
  o = R.session_offset

  known : Small (max_beat_origin S)
  known = known_small S z.own_beat z.known_beats

  -- the line that was taken, and what another box comes to hold of it
  exact_taken : stands (timeline_to_host o (low_bits (timeline_to_ghost O (taken S s).timeline))) o beat ≡ stands (taken S s).timeline O beat
  unfolding taken
  exact_taken =
      by_cond (λ (l : Timeline). stands (timeline_to_host o (low_bits (timeline_to_ghost O l))) o beat ≡ stands l O beat)
      (same_timeline s.timeline S.state.timeline) s.timeline (above (max_beat_origin S) s.timeline)
      (λ t. carried s.timeline O o beat z.tempo (omega (arith, z.asked_beat)) (omega (arith, z.asked_time)) z.sender_offset z.receiver_offset)
      (λ t. exact_above (max_beat_origin S) s.timeline known z.asked_beat z.asked_time z.tempo O o beat z.sender_offset z.receiver_offset)

  -- the asked line, and the line that was taken for it
  near_taken : nat_abs (stands s.timeline O beat -ℤ stands (taken S s).timeline O beat) < 1_000_000
  unfolding taken
  near_taken =
      by_cond (λ (l : Timeline). nat_abs (stands s.timeline O beat -ℤ stands l O beat) < 1_000_000)
      (same_timeline s.timeline S.state.timeline) s.timeline (above (max_beat_origin S) s.timeline)
      (λ t. equal_near (stands s.timeline O beat) (stands s.timeline O beat) refl)
      (λ t. near_above (max_beat_origin S) s.timeline known z.asked_beat z.asked_time z.tempo O beat)

module _ (S R : Box) (s : SessionState) (now now' : HostTime) (buf_size buf_size' i : ℕ) (from : SocketAddrPlain) (bytes : List ℕ) (m : AliveMsg) (sent : Timeline)
    (fits : S.node_id.0 < 2 ^ 64) (asc : Ascending peer_key R.peers) (on : R.enabled ≡ true) (other : m.node_id ≢ R.node_id)
    (w : Writes S s now buf_size bytes) (t : TakesAlive R i from bytes now' buf_size' m) (n : Newest R m sent) where
  -- what the receiver holds: the line that the sender took, sent by its low 64 bits, in the receiver's host time
  pub held_line : (t.after.state.timeline ≡ timeline_to_host R.session_offset (low_bits (timeline_to_ghost S.session_offset (taken S s).timeline)))
      × (t.after.session_offset ≡ R.session_offset)
  held_line =
      let says : sent ≡ low_bits (timeline_to_ghost S.session_offset (taken S s).timeline) = sent_line S s now buf_size bytes m sent fits w t.reads n.tells in
      let back = subst (λ (l : Timeline). timeline_to_ghost R.session_offset (timeline_to_host R.session_offset l) ≡ l) (sym says) (there_and_back R.session_offset _) in
      let held = taken_line R i from bytes now' buf_size' m sent asc back on other t n in
      (held.0 ∙ ap (timeline_to_host R.session_offset) says, held.1)

  pub held_tempo : t.after.state.timeline.tempo.0 ≡ wrap64 s.timeline.tempo.0
  unfolding timeline_to_host timeline_to_ghost low_bits
  held_tempo = ap (λ (l : Timeline). l.tempo.0) held_line.0 ∙ ap (λ (x : TempoWire). wrap64 x.0) (taken_tempo S s)

-- ---- of two engines led on from new

-- the box after a list of calls and one accepted call more
pub run_then : (e : Box) (cs : List Call) (c : Call) (after : Box) (os : List Output) → step (run e cs) c ≡ done after os → run e (cs ++ (c ∷ [])) ≡ after
unfolding run
run_then e cs c after os h = run_append e cs (c ∷ []) ∙ ap (next (run e cs)) h

module _ (a b : NodeId) (calls hears : List Call) (s : SessionState) (now now' : HostTime) (buf_size buf_size' i : ℕ) (from : SocketAddrPlain) (bytes : List ℕ) (m : AliveMsg) (sent : Timeline)
    (fits : a.0 < 2 ^ 64) (w : Writes (run (new a) calls) s now buf_size bytes) (t : TakesAlive (run (new b) hears) i from bytes now' buf_size' m) (n : Newest (run (new b) hears) m sent) where
  abbrev sender : Box
  sender = run (new a) calls

  abbrev receiver : Box
  receiver = run (new b) hears

  -- what the receiver holds after its list and the call that takes the alive
  abbrev after : Box
  after = run (new b) (hears ++ (packet i from bytes now' buf_size' ∷ []))

  after_is : after ≡ t.after
  after_is = run_then (new b) hears (packet i from bytes now' buf_size') t.after t.outputs t.accepted

  -- a receiver that holds a neighbour is enabled, and the neighbour is another
  is_on : receiver.enabled ≡ true
  is_on = holds_on b hears m.node_id t.held t.holds

  is_other : m.node_id ≢ receiver.node_id
  is_other = holds_other b hears m.node_id t.held t.holds

  -- TEMPO-1 of Link's test plan: a tempo change on one participant reaches the others, whatever the sizes
  pub tempo_reaches : after.state.timeline.tempo.0 ≡ wrap64 s.timeline.tempo.0
  tempo_reaches =
      ap (λ (e : Box). e.state.timeline.tempo.0) after_is
      ∙ held_tempo sender receiver s now now' buf_size buf_size' i from bytes m sent ((reached a calls).node fits) (reached b hears).ascending_peers is_on is_other w t n

  -- the asked tempo itself, where it is an i64
  pub tempo_reaches_exactly : SFits w64 s.timeline.tempo.0 → after.state.timeline.tempo ≡ s.timeline.tempo
  tempo_reaches_exactly f = ap (λ (z : ℤ). record { 0 = z }) (tempo_reaches ∙ wrap64_id s.timeline.tempo.0 f)

  -- TEMPO-4: the ends of Link's range reach it too, 20 and 999 beats a minute, as 3,000,000 and 60,060 microseconds a beat
  pub slowest_and_fastest_reach : (s.timeline.tempo.0 ≡ from_tempo (of_int binary64 (pos 20)) → after.state.timeline.tempo.0 ≡ pos 3_000_000)
      × (s.timeline.tempo.0 ≡ from_tempo (of_int binary64 (pos 999)) → after.state.timeline.tempo.0 ≡ pos 60_060)
  slowest_and_fastest_reach = (λ q. reach 3_000_000 (omega arith) (q ∙ from_tempo_20), λ q. reach 60_060 (omega arith) (q ∙ from_tempo_999))
    where
      reach : (n : ℕ) → n < 2 ^ 63 → s.timeline.tempo.0 ≡ pos n → after.state.timeline.tempo.0 ≡ pos n
      reach n l q = tempo_reaches ∙ ap wrap64 q ∙ wrap64_id (pos n) (record { sfits = l })

  module _ (z : Bounded sender s receiver) where
    -- the line that the sender took stands where the receiver's does
    held_exactly : (beat : ℤ) → stands (taken sender s).timeline sender.session_offset beat ≡ stands after.state.timeline after.session_offset beat
    held_exactly beat =
        let held = held_line sender receiver s now now' buf_size buf_size' i from bytes m sent ((reached a calls).node fits) (reached b hears).ascending_peers is_on is_other w t n in
        rw (after_is, held.0, held.1) (sym (exact_taken sender receiver s beat z))

    -- The previewed line's number is the held line's at every micro-beat: it is the sent one in the sender's host time, and within the sizes nothing wraps.
    pub previewed_exactly : (p : SessionState) (moved : ℤ) → preview sender s now ≡ given p moved
        → (beat : ℤ) → stands p.timeline sender.session_offset beat ≡ stands after.state.timeline after.session_offset beat
    previewed_exactly p moved h beat =
        ap (λ (q : SessionState). stands q.timeline sender.session_offset beat) (given_parts sender s now p moved h).0 ∙ held_exactly beat

    exactly : Exactly sender s now after
    exactly = record {
      shown = taken sender s;
      moved = moved_by s (taken sender s);
      is_given = preview_given sender s now (commit_timely sender s now buf_size w.after w.outputs w.accepted);
      asked_near = λ beat. rw (sym (held_exactly beat)) (near_taken sender receiver s beat z);
      shown_exactly = held_exactly;
    }

-- the wider distance rule
pub wider_distance : WiderDistanceRule
wider_distance a b calls hears s now now' buf_size buf_size' i from bytes m sent fits w t n = exactly a b calls hears s now now' buf_size buf_size' i from bytes m sent fits w t n

-- a line that stands where another does is near it
pub exactly_near : {sender : Box} {s : SessionState} {now : HostTime} {receiver : Box} → Exactly sender s now receiver → Near sender s now receiver
exactly_near x = record {
  shown = x.shown;
  moved = x.moved;
  is_given = x.is_given;
  asked_near = x.asked_near;
  shown_near = λ beat. equal_near _ _ (x.shown_exactly beat);
}

-- ---- whoever meets the premises of the distance rule meets those of the wider one

module _ {S : Box} {s : SessionState} {now : HostTime} {buf_size : ℕ} {bytes : List ℕ} {sent : Timeline} where
  pub rule_writes : Sends S s now buf_size bytes sent → Writes S s now buf_size bytes
  rule_writes c = record { after = c.after; outputs = c.outputs; accepted = c.accepted; interface = c.interface; to = c.to; written = c.written }

  -- what the packet says, if it is of this node
  abbrev said_of : NodeId → Sends S s now buf_size bytes sent → AliveMsg
  said_of n c = record { node_id = n; timeline = Some sent; start_stop = c.start_stop; session_id = Some c.session; mep4 = c.mep4 }

  -- and it is of the sender
  abbrev pub rule_alive : Sends S s now buf_size bytes sent → AliveMsg
  rule_alive c = said_of S.node_id c

  node_is : S.node_id.0 < 2 ^ 64 → (c : Sends S s now buf_size bytes sent) → c.node ≡ S.node_id
  node_is fits c = (commit_says S s now buf_size c.after c.outputs c.interface c.to bytes (said_of c.node c) fits c.accepted c.written c.reads).of_node

  module _ {R : Box} {now' : HostTime} {buf_size' i : ℕ} {from : SocketAddrPlain} where
    pub rule_takes : S.node_id.0 < 2 ^ 64 → (c : Sends S s now buf_size bytes sent) → Takes S sent R i from bytes now' buf_size' → TakesAlive R i from bytes now' buf_size' (rule_alive c)
    rule_takes fits c t = record {
      after = t.after;
      outputs = t.outputs;
      accepted = t.accepted;
      reads = c.reads ∙ ap (λ (n : NodeId). alive_said (said_of n c)) (node_is fits c);
      our_session = ap Some (c.in_session ∙ sym t.our_session);
      held = t.held;
      holds = t.holds;
      held_session = t.held_session ∙ ap Some (sym c.in_session);
      sampled = t.sampled;
      is_news = line_news (rule_alive c) t.held t.unlike;
      elections = t.elections;
    }

    pub rule_newest : (c : Sends S s now buf_size bytes sent) → Takes S sent R i from bytes now' buf_size' → Newest R (rule_alive c) sent
    rule_newest c t = record { tells = refl; others = t.others; own = t.own }

    pub rule_bounded : Commits S s now buf_size bytes sent → Hears S sent R i from bytes now' buf_size' → Bounded S s R
    rule_bounded c h = record {
      tempo = size_between s.timeline.tempo.0 60_000_000 c.tempo.0 c.tempo.1;
      asked_beat = c.asked_beat;
      asked_time = c.asked_time;
      own_beat = c.own_beat;
      known_beats = c.known_beats;
      sender_offset = c.offset;
      receiver_offset = h.offset;
    }

-- the distance rule
pub distance : DistanceRule
distance a b calls hears s now now' buf_size buf_size' i from bytes sent fits c h =
    exactly_near
    (wider_distance a b calls hears s now now' buf_size buf_size' i from bytes (rule_alive c.sends) sent fits
    (rule_writes c.sends) (rule_takes ((reached a calls).node fits) c.sends h.takes) (rule_newest c.sends h.takes) (rule_bounded c h))

-- and under its premises the previewed line stands where the held one does
pub distance_exactly : (a b : NodeId) (calls hears : List Call) (s : SessionState) (now now' : HostTime) (buf_size buf_size' i : ℕ) (from : SocketAddrPlain) (bytes : List ℕ) (sent : Timeline)
    → a.0 < 2 ^ 64 → Commits (run (new a) calls) s now buf_size bytes sent → Hears (run (new a) calls) sent (run (new b) hears) i from bytes now' buf_size'
    → (p : SessionState) (moved : ℤ) → preview (run (new a) calls) s now ≡ given p moved → let held = run (new b) (hears ++ (packet i from bytes now' buf_size' ∷ [])) in
    (beat : ℤ) → stands p.timeline (run (new a) calls).session_offset beat ≡ stands held.state.timeline held.session_offset beat
distance_exactly a b calls hears s now now' buf_size buf_size' i from bytes sent fits c h =
    previewed_exactly a b calls hears s now now' buf_size buf_size' i from bytes (rule_alive c.sends) sent fits
    (rule_writes c.sends) (rule_takes ((reached a calls).node fits) c.sends h.takes) (rule_newest c.sends h.takes) (rule_bounded c h)
