-- What a clerk and a box's maker ask first, said of the code's engine: the count is the true one, also in the bytes that the host reads, a pong counts once,
-- and the distance rule.
use Rattle.std.specs.Prelude.{ℕ, ◌<◌, ◌^◌, ◌≡◌, refl, ℤ, nat_abs, ◌-ℤ◌, length, get_or}
use Rattle.std.proofs.Math.Path.{sym, ap}
use Rattle.std.proofs.Common.{subst, ◌∙◌}
use mathlib.Core.List.{List, [], ◌∷◌, ◌++◌, map, Memᴰ}
use Rattle.time.specs.declared.HostTime.{HostTime}
use Rattle.time.specs.declared.MicroBeats.{MicroBeats}
use Rattle.timeline.specs.declared.Timeline.{Timeline}
use Rattle.timeline.specs.declared.SessionState.{SessionState}
use Rattle.wire.specs.declared.NodeId.{NodeId}
use Rattle.wire.specs.declared.SocketAddrPlain.{SocketAddrPlain}
use Rattle.model.specs.Peers.{Peer, peer_key, peers_in}
use Rattle.model.specs.Engine.{Box, new}
use Rattle.model.specs.Packet.{AliveMsg}
use Rattle.model.specs.Calls.{Call, packet, Outcome, step, next, run, outcomes, outputs_of}
use Rattle.model.specs.Answer.{buffer_after}
use Rattle.model.specs.Preview.{preview}
use Rattle.lists.specs.Laws.Each.{Each, Ascending}
use Rattle.lists.specs.Laws.Distinct.{Distinct}
use Rattle.model.specs.Laws.Calls.Reach.{Reached}
use Rattle.model.proofs.Laws.Calls.Reach.{reached_new, reached, run_append}
use Rattle.model.specs.Laws.Clerk.PingTimes.{FromPong}
use Rattle.model.proofs.Laws.Clerk.Claims.{counted_once, true_count, ping_times_once, each_from_a_pong}
use Rattle.model.proofs.Laws.Previews.{given_inj, refused_given}
use Rattle.model.specs.Laws.Distance.Statement.{stands, Commits, Hears}
use Rattle.model.specs.Laws.Distance.Wider.{Writes, TakesAlive, Newest, Bounded, Exactly}
use Rattle.model.specs.Laws.Distance.Exact.{equal_near}
use Rattle.model.proofs.Laws.Distance.Rule.{wider_distance, rule_writes, rule_alive, rule_takes, rule_newest, rule_bounded}
use Rattle.engine_state.specs.declared.Engine.{Engine}
use Rattle.engine_state.specs.Held.{core_box, held}
use Rattle.call.specs.declared.Called.{Called}
use Rattle.call.specs.Called.{Returns}
use Rattle.call.specs.Laws.Within.{within_16, within_4}
use Rattle.call_query.specs.declared.preview.Preview as query
use Rattle.call_query.specs.declared.preview.Preview.TheVariants.{Refused, Given}
use Rattle.call_query.specs.Preview.{preview_of}
use Rattle.claims.specs.Read.{outputs_in, counted}
use Rattle.claims.specs.Host.{Led, answers, replies}
use Rattle.claims.specs.Laws.Led.{new_run}
use Rattle.claims.specs.Laws.ReadBack.{as_read, call_back}
use Rattle.claims.specs.Laws.Counted.{Done, zero_done, counted_led}
use Rattle.claims.specs.Laws.Replies.{as_reply, led_replies}

-- after any calls the count that the engine has is that of the neighbours that it holds under its session
pub engine_counts : (n : NodeId) (e : Engine) (cs : List Call) (last : Engine) → held e ≡ new n → Led e cs last
    → last.core.num_session_peers ≡ length (peers_in last.core.session_id (held last).peers)
unfolding core_box
engine_counts n e cs last made led = subst (λ (b : Box). b.num_session_peers ≡ length (peers_in b.session_id b.peers)) (sym (new_run n e cs last made led)) (true_count n cs)

-- the ids that are counted ascend strictly, so that none is counted twice
pub engine_counts_once : (n : NodeId) (e : Engine) (cs : List Call) (last : Engine) → held e ≡ new n → Led e cs last → Ascending peer_key (peers_in last.core.session_id (held last).peers)
unfolding core_box
engine_counts_once n e cs last made led = subst (λ (b : Box). Ascending peer_key (peers_in b.session_id b.peers)) (sym (new_run n e cs last made led)) (counted_once n cs)

-- "Is the count that the host has the true one?" Yes. A host begins with 0, and after each call that it lent a buffer, and whose number is 0, it reads in that
-- buffer whether a count was put out. After any calls on an engine that was made new it has the number of ids that the engine holds under its session.
pub host_count : (n : NodeId) (e : Engine) (cs : List Call) (last : Engine) → held e ≡ new n → (led : Led e cs last)
    → counted 0 (answers led) ≡ length (peers_in last.core.session_id (held last).peers)
unfolding core_box new
host_count n e cs last made led =
    ap (λ (k : ℕ). counted k (answers led)) (sym (ap (λ (b : Box). b.num_session_peers) made))
    ∙ counted_led n e cs last (subst (Reached n) (sym made) (reached_new n)) led
    ∙ engine_counts n e cs last made led

-- And not the count alone: in the buffer of a call whose number is 0 a host reads the outputs of the definition's step, in their order, and nothing else.
-- This holds on every engine.
pub host_reads : (e : Engine) (c : Call) (r : Called) → Returns e c r → r.number ≡ 0 → (before after : List ℕ) → after ≡ buffer_after (step (held e) c) before
    → outputs_in after ≡ map as_read (outputs_of (step (held e) c))
host_reads e c r says zero before after written =
    let d : Done (held e) c = zero_done e c r says zero in
    ap outputs_in written ∙ call_back (held e) c d.box d.outputs (within_16 e) (within_4 e) d.gives before ∙ ap (λ (o : Outcome). map as_read (outputs_of o)) (sym d.gives)

-- So it is over a list of calls on an engine that was made new: the number of each call and the outputs that the host reads of it, call by call, are the
-- definition's.
pub host_outcomes : (n : NodeId) (e : Engine) (cs : List Call) (last : Engine) → held e ≡ new n → (led : Led e cs last) → replies led ≡ map as_reply (outcomes (new n) cs)
host_outcomes n e cs last made led = led_replies e cs last led ∙ ap (λ (b : Box). map as_reply (outcomes b cs)) made

-- ---- pongs

module _ (n : NodeId) (e : Engine) (cs : List Call) (last : Engine) (made : held e ≡ new n) (led : Led e cs last) where
  -- after any calls no two ping times of a neighbour that the engine holds are the same, and there are as many as samples: each ping counts once
  pub engine_ping_times_once : Each (λ p. Distinct p.samples.ping_times × (length p.samples.ping_times ≡ length p.samples.offsets)) (held last).peers
  engine_ping_times_once =
      subst (λ (b : Box). Each (λ p. Distinct p.samples.ping_times × (length p.samples.ping_times ≡ length p.samples.offsets)) b.peers) (sym (new_run n e cs last made led)) (ping_times_once n cs)

  -- and its i-th sample is that of a pong among the calls, to which the i-th ping time belongs
  pub engine_each_from_a_pong : (p : Peer) → Memᴰ p (held last).peers → (x : ℤ) (t : HostTime) (i : ℕ) → i < length p.samples.offsets
      → FromPong cs (get_or p.samples.offsets i x) (get_or p.samples.ping_times i t)
  engine_each_from_a_pong p there = each_from_a_pong n cs p (subst (λ (b : Box). Memᴰ p b.peers) (new_run n e cs last made led) there)

-- ---- the distance rule

-- The code's preview q on the sender's engine is a state and a move. At every micro-beat the asked line stands less than one microsecond away from the line in
-- the receiver's engine, and so does the previewed one: it stands where that does. The sender's lines are at the sender's offset.
pub record NearEngines (sender : Engine) (s : SessionState) (q : query.Preview) (receiver : Engine) : Type 0 where
  pub shown : SessionState
  pub moved : MicroBeats
  pub is_given : q ≡ Given shown moved
  pub asked_near : (beat : ℤ) → nat_abs (stands s.timeline sender.core.session_offset.0 beat -ℤ stands receiver.core.state.timeline receiver.core.session_offset.0 beat) < 1_000_000
  pub shown_near : (beat : ℤ) → nat_abs (stands shown.timeline sender.core.session_offset.0 beat -ℤ stands receiver.core.state.timeline receiver.core.session_offset.0 beat) < 1_000_000
  pub shown_exactly : (beat : ℤ) → stands shown.timeline sender.core.session_offset.0 beat ≡ stands receiver.core.state.timeline receiver.core.session_offset.0 beat

near_given : (sender : Engine) (s : SessionState) (now : HostTime) (receiver : Engine) (p : SessionState) (moved : MicroBeats) → (x : Exactly (held sender) s now (held receiver)) → p ≡ x.shown
    → NearEngines sender s (Given p moved) receiver
unfolding core_box
near_given sender s now receiver p moved x same =
    let exactly : (beat : ℤ) → stands p.timeline sender.core.session_offset.0 beat ≡ stands receiver.core.state.timeline receiver.core.session_offset.0 beat =
    λ beat. ap (λ (y : SessionState). stands y.timeline sender.core.session_offset.0 beat) same ∙ x.shown_exactly beat in
    record {
      shown = p;
      moved = moved;
      is_given = refl;
      asked_near = x.asked_near;
      shown_near = λ beat. equal_near _ _ (exactly beat);
      shown_exactly = exactly;
    }

-- what is given of the boxes that are held is what the code's preview returned
near_engines : (sender : Engine) (s : SessionState) (now : HostTime) (q : query.Preview) (receiver : Engine) → preview_of q ≡ preview (held sender) s now
    → Exactly (held sender) s now (held receiver) → NearEngines sender s q receiver
near_engines sender s now (Refused n) receiver previews x = refused_given n x.shown x.moved (previews ∙ x.is_given)
near_engines sender s now (Given p moved) receiver previews x = near_given sender s now receiver p moved x (given_inj _ _ _ _ (previews ∙ x.is_given)).0

-- The rule of two engines: `sender` is led on up to the commit, and `receiver` up to the call that takes the packet and returns r
module _ (a b : NodeId) (first second sender receiver : Engine) (sends hears : List Call) (made_a : held first ≡ new a) (led_a : Led first sends sender) (made_b : held second ≡ new b)
    (led_b : Led second hears receiver) (s : SessionState) (now now' : HostTime) (buf_size buf_size' interface : ℕ) (from : SocketAddrPlain) (bytes : List ℕ) (sent : Timeline) (r : Called)
    (takes : Returns receiver (packet interface from bytes now' buf_size') r) where
  sender_is : held sender ≡ run (new a) sends
  sender_is = new_run a first sends sender made_a led_a

  receiver_is : held receiver ≡ run (new b) hears
  receiver_is = new_run b second hears receiver made_b led_b

  last_is : held r.engine ≡ run (new b) (hears ++ (packet interface from bytes now' buf_size' ∷ []))
  unfolding run
  last_is =
      takes.engine_is
      ∙ ap (λ (x : Box). next x (step x (packet interface from bytes now' buf_size'))) receiver_is
      ∙ sym (run_append (new b) hears (packet interface from bytes now' buf_size' ∷ []))

  wider_held : (m : AliveMsg) → a.0 < 2 ^ 64 → Writes (held sender) s now buf_size bytes → TakesAlive (held receiver) interface from bytes now' buf_size' m → Newest (held receiver) m sent
      → Bounded (held sender) s (held receiver) → Exactly (held sender) s now (held r.engine)
  wider_held m fits =
      let Rule : Box → Box → Box → Type 0
      = λ x y z. Writes x s now buf_size bytes → TakesAlive y interface from bytes now' buf_size' m → Newest y m sent → Bounded x s y → Exactly x s now z in
      subst (λ (x : Box). Rule x (held receiver) (held r.engine)) (sym sender_is)
      (subst (λ (y : Box). Rule (run (new a) sends) y (held r.engine)) (sym receiver_is)
      (subst (λ (z : Box). Rule (run (new a) sends) (run (new b) hears) z) (sym last_is)
      (wider_distance a b sends hears s now now' buf_size buf_size' interface from bytes m sent fits)))

  -- q is what the code's preview of s returned on the sender, as its contract says
  module _ (q : query.Preview) (previews : preview_of q ≡ preview (held sender) s now) where
    -- the wider rule
    pub engines_wider_distance : (m : AliveMsg) → a.0 < 2 ^ 64 → Writes (held sender) s now buf_size bytes → TakesAlive (held receiver) interface from bytes now' buf_size' m → Newest (held receiver) m sent
        → Bounded (held sender) s (held receiver) → NearEngines sender s q r.engine
    engines_wider_distance m fits w t n z = near_engines sender s now q r.engine previews (wider_held m fits w t n z)

    -- the distance rule
    pub engines_distance : a.0 < 2 ^ 64 → Commits (held sender) s now buf_size bytes sent → Hears (held sender) sent (held receiver) interface from bytes now' buf_size' → NearEngines sender s q r.engine
    engines_distance fits c h =
        let node : (held sender).node_id.0 < 2 ^ 64 = subst (λ (x : Box). x.node_id.0 < 2 ^ 64) (sym sender_is) ((reached a sends).node fits) in
        engines_wider_distance (rule_alive c.sends) fits (rule_writes c.sends) (rule_takes node c.sends h.takes) (rule_newest c.sends h.takes) (rule_bounded c h)
