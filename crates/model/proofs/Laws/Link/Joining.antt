-- BEATTIME-2 and TEMPO-2 of Link's test plan, of calls: who joins our session changes neither our beat nor our tempo.
use Rattle.std.specs.Prelude.{ℕ, ◌≡◌, refl, Bool, true, false, ◌&&◌, not, cond, List, [], ◌∷◌, ◌++◌, pos, take, ◌≤ℤ◌, Option}
use Rattle.std.proofs.Common.{arith, ap₂, ◌∙◌, subst, SFits}
use Rattle.std.proofs.Math.Path.{sym, ap}
use Rattle.std.specs.Int.Signed.{le_z_yes}
use Rattle.std.specs.Int.{w64}
use Rattle.time.specs.declared.HostTime.{HostTime}
use Rattle.timeline.specs.declared.Timeline.{Timeline}
use Rattle.timeline.specs.Session.{default_state, beat_at_time}
use Rattle.wire.specs.declared.NodeId.{NodeId}
use Rattle.wire.specs.declared.SocketAddrPlain.{SocketAddrPlain}
use Rattle.wire.specs.Layout.{byebye_bytes}
use Rattle.wire.specs.Parse.{parse}
use Rattle.model.specs.Peers.{timelines_in, origin_of}
use Rattle.model.specs.Engine.{Box, Produced, Output, new, with_peers, with_interfaces, with_next_broadcast, with_num_session_peers}
use Rattle.model.specs.Election.{resolved, resolve_if}
use Rattle.model.specs.Produce.{after_pings, after_broadcast, lapse, lapses, produce_outputs}
use Rattle.model.specs.Laws.Calls.Stages.{polled, settled, upkeep_box}
use Rattle.model.specs.Packet.{Arrival, Handled, handle_message}
use Rattle.model.specs.Calls.{IoErrorKind, Call, packet, tick, commit, interface_added, interface_removed, io_error, Outcome, refused, done, next, hears, resolved_if_needed, step, run}
use Rattle.model.specs.Laws.Calls.Messages.{arrived}
use Rattle.lists.specs.Laws.Bools.{split, cond-true}
use Rattle.lists.specs.Laws.Each.{Each, nil, ◌▸◌, head, each_left, each_right}
use Rattle.model.specs.Laws.Tools.Open.{everything}
use Rattle.model.specs.Laws.Tools.Scenes.{at, node, port, line, lined, led, on, ticks, announces, alive, in_session, with_line, bye, pong, pongs}
use Rattle.model.proofs.Laws.Calls.Steps.{message_peers, produce_on, produce_off}
use Rattle.model.specs.Laws.Calls.Course.{Course, packet_ignored, packet_taken, ticked, added, removed, failed}
use Rattle.model.proofs.Laws.Calls.Course.{course}
use Rattle.model.specs.Laws.Calls.Fits.{CallFits, commit_fits, switch_fits}
use Rattle.model.proofs.Laws.Calls.Fits.{state_fits}
use Rattle.model.proofs.Laws.Calls.Reach.{run_append}
use Rattle.model.specs.Laws.Distance.Statement.{upkeep_elections, packet_elections}
use Rattle.model.proofs.Laws.Distance.Held.{elections_on}
use Rattle.model.proofs.Laws.Link.Sessions.{joining_keeps_line}
use Rattle.model.specs.Laws.Link.Joining.{Quiet, heard_elections, Undisturbed, ended, after_packet, after_tick, after_added, after_removed, after_error}
use Rattle.wire.specs.declared.Message.{Message}

-- ---- the stages of a call

-- the line of a box, and that its time origin fits
abbrev line_of : Box → Timeline
line_of e = e.state.timeline

abbrev Fits : Timeline → Type 0
Fits l = SFits w64 l.time_origin.0

-- x has e's line
abbrev Lined : Box → Box → Type 0
Lined e x = line_of x ≡ line_of e

line_resolve : (t : Bool) (now : HostTime) (x : Box) → Fits (line_of x) → Each (Quiet now) (cond t (x ∷ []) []) → Lined x (resolve_if t now x).box
unfolding resolve_if
line_resolve true now x f h = joining_keeps_line now x (head h).session f (head h).below
line_resolve false now x f h = refl

line_produce : (now : HostTime) (x : Box) → Fits (line_of x) → Each (Quiet now) (upkeep_elections now x) → Lined x (produce_outputs now x).box
unfolding upkeep_box with_num_session_peers settled lapse polled after_pings after_broadcast with_peers with_next_broadcast
line_produce now x f h = split x.enabled
    (λ on. ap (λ (a : Produced). line_of a.box) (produce_on now x on) ∙ line_resolve (lapses now (polled now x)) now (lapse now (polled now x)) f (subst (Each (Quiet now)) (elections_on now x on) h))
    (λ off. ap (λ (a : Produced). line_of a.box) (produce_off now x off))

line_message : (e : Box) (a : Arrival) (bytes : List ℕ) (m : Option Message) → Lined e (handle_message e a bytes m).box
unfolding with_peers
line_message e a bytes m = ap line_of (message_peers e a bytes m)

-- a packet that is heard: the message, its election, upkeep
line_heard : (e : Box) (i : ℕ) (from : SocketAddrPlain) (bytes : List ℕ) (now : HostTime) → Fits (line_of e) → Each (Quiet now) (packet_elections e i from bytes now)
    → Lined e (produce_outputs now (resolved_if_needed now (handle_message e (arrived i from now) bytes (parse bytes))).box).box
unfolding resolved_if_needed packet_elections
line_heard e i from bytes now f ks =
    let h : Handled = handle_message e (arrived i from now) bytes (parse bytes) in
    let x : Box = (resolved_if_needed now h).box in
    let own = cond h.needs_resolution (h.box ∷ []) [] in
    let told : Lined e h.box = line_message e (arrived i from now) bytes (parse bytes) in
    let elected : Lined h.box x = line_resolve h.needs_resolution now h.box (subst Fits (sym told) f) (each_left own (upkeep_elections now x) ks) in
    line_produce now x (subst Fits (sym (elected ∙ told)) f) (each_right own (upkeep_elections now x) ks) ∙ elected ∙ told

-- ---- one call

module _ (e e' : Box) (os : List Output) where
  packet_keeps_line : (i : ℕ) (from : SocketAddrPlain) (bytes : List ℕ) (now : HostTime) (buf_size : ℕ) → step e (packet i from bytes now buf_size) ≡ done e' os
      → Fits (line_of e) → Each (Quiet now) (heard_elections e i from bytes now) → Lined e e'
  packet_keeps_line i from bytes now buf_size h f ks = go (course e (packet i from bytes now buf_size) e' os h)
    where
      go : Course e e' os (packet i from bytes now buf_size) → Lined e e'
      go (packet_ignored a t k) = ap line_of k.box
      go (packet_taken a l on own full k) =
          let t : hears e (parse bytes) ≡ true = ap₂ (λ (x y : Bool). x && not y) on own in
          ap line_of k.box ∙ line_heard e i from bytes now f (subst (Each (Quiet now)) (cond-true (packet_elections e i from bytes now) [] t) ks)

  tick_keeps_line : (now : HostTime) (buf_size : ℕ) → step e (tick now buf_size) ≡ done e' os → Fits (line_of e) → Each (Quiet now) (upkeep_elections now e) → Lined e e'
  tick_keeps_line now buf_size h f ks = go (course e (tick now buf_size) e' os h)
    where
      go : Course e e' os (tick now buf_size) → Lined e e'
      go (ticked a k) = ap line_of k.box ∙ line_produce now e f ks

  -- the interfaces hold no line
  added_keeps_line : (i : ℕ) (addr : SocketAddrPlain) → step e (interface_added i addr) ≡ done e' os → Lined e e'
  unfolding with_interfaces
  added_keeps_line i addr h = go (course e (interface_added i addr) e' os h)
    where
      go : Course e e' os (interface_added i addr) → Lined e e'
      go (added k n) = ap line_of k

  removed_keeps_line : (i : ℕ) → step e (interface_removed i) ≡ done e' os → Lined e e'
  unfolding with_interfaces
  removed_keeps_line i h = go (course e (interface_removed i) e' os h)
    where
      go : Course e e' os (interface_removed i) → Lined e e'
      go (removed k n) = ap line_of k

  error_keeps_line : (i : ℕ) (error : IoErrorKind) → step e (io_error i error) ≡ done e' os → Lined e e'
  unfolding with_interfaces
  error_keeps_line i error h = go (course e (io_error i error) e' os h)
    where
      go : Course e e' os (io_error i error) → Lined e e'
      go (failed k n) = ap line_of k

-- ---- a list of calls

-- a call that is turned down leaves the box
line_next : (e : Box) (o : Outcome) → ((e' : Box) (os : List Output) → o ≡ done e' os → Lined e e') → Lined e (next e o)
line_next e (refused n) f = refl
line_next e (done e' os) f = f e' os refl

-- a call that keeps the line, then others that do
then_others : (e : Box) (c : Call) (cs : List Call) → ((e' : Box) (os : List Output) → step e c ≡ done e' os → Lined e e')
    → (Fits (line_of (next e (step e c))) → Lined (next e (step e c)) (run (next e (step e c)) cs)) → Fits (line_of e) → Lined e (run e (c ∷ cs))
unfolding run
then_others e c cs one others f = let p : Lined e (next e (step e c)) = line_next e (step e c) one in others (subst Fits (sym p) f) ∙ p

-- of any box whose line's time origin fits
pub undisturbed_keeps_line : {e : Box} {cs : List Call} → Undisturbed e cs → SFits w64 e.state.timeline.time_origin.0 → (run e cs).state.timeline ≡ e.state.timeline
unfolding run
undisturbed_keeps_line ended f = refl
undisturbed_keeps_line (after_packet {e} {i} {from} {bytes} {now} {buf_size} {cs} ks u) f =
    then_others e (packet i from bytes now buf_size) cs (λ e' os h. packet_keeps_line e e' os i from bytes now buf_size h f ks) (undisturbed_keeps_line u) f
undisturbed_keeps_line (after_tick {e} {now} {buf_size} {cs} ks u) f = then_others e (tick now buf_size) cs (λ e' os h. tick_keeps_line e e' os now buf_size h f ks) (undisturbed_keeps_line u) f
undisturbed_keeps_line (after_added {e} {i} {addr} {cs} u) f = then_others e (interface_added i addr) cs (λ e' os h. added_keeps_line e e' os i addr h) (undisturbed_keeps_line u) f
undisturbed_keeps_line (after_removed {e} {i} {cs} u) f = then_others e (interface_removed i) cs (λ e' os h. removed_keeps_line e e' os i h) (undisturbed_keeps_line u) f
undisturbed_keeps_line (after_error {e} {i} {error} {cs} u) f = then_others e (io_error i error) cs (λ e' os h. error_keeps_line e e' os i error h) (undisturbed_keeps_line u) f

-- ---- from a new engine on

module _ (a : NodeId) (cs : List Call) (fits : Each CallFits cs) where
  -- an accepted call, as a packet of any bytes or a tick, leaves our line
  pub call_keeps_line : (c : Call) (e' : Box) (os : List Output) → step (run (new a) cs) c ≡ done e' os → Undisturbed (run (new a) cs) (c ∷ []) → e'.state.timeline ≡ (run (new a) cs).state.timeline
  unfolding run
  call_keeps_line c e' os h u = sym (ap (λ (o : Outcome). line_of (next (run (new a) cs) o)) h) ∙ undisturbed_keeps_line u (state_fits a cs fits).timeline.time_origin

  module _ (ds : List Call) (u : Undisturbed (run (new a) cs) ds) where
    -- and so does a list of calls,
    pub joining_keeps_line_over_calls : (run (new a) (cs ++ ds)).state.timeline ≡ (run (new a) cs).state.timeline
    joining_keeps_line_over_calls = ap line_of (run_append (new a) cs ds) ∙ undisturbed_keeps_line u (state_fits a cs fits).timeline.time_origin

    -- with the beat at every time
    pub joining_keeps_beat_over_calls : (time : HostTime) → beat_at_time (run (new a) (cs ++ ds)).state time ≡ beat_at_time (run (new a) cs).state time
    unfolding beat_at_time
    joining_keeps_beat_over_calls time =
        ap (λ (l : Timeline). beat_at_time (record { timeline = l; start_stop = (run (new a) cs).state.start_stop }) time) joining_keeps_line_over_calls

-- ---- calls that meet the premises

-- 150 beats a minute
abbrev ours : Timeline
ours = line (pos 400_000) (pos 5) (pos 3)

-- node 1 has committed it
abbrev before : List Call
before = on ∷ commit (lined ours) (at (pos 0)) 4096 ∷ []

before_fits : Each CallFits before
unfolding default_state
before_fits =
    let zero : SFits w64 (pos 0) = record { sfits = omega arith } in
    switch_fits {now = at (pos 0)} {buf_size = 4096} zero (omega arith)
    ▸ commit_fits {s = lined ours} {now = at (pos 0)} {buf_size = 4096} (record { tempo = record { sfits = omega arith }; beat_origin = record { sfits = omega arith }; time_origin = record { sfits = omega arith } })
    (record { beat = zero; time = zero }) zero (omega arith)
    ▸ nil

-- Node 2 has a session of its own and there a line of a larger beat origin. It is measured, loses, comes into our session with our line, and is measured
-- there. Node 3 comes and goes.
abbrev theirs : Timeline
theirs = line (pos 1_000_000) (pos 9) (pos 0)

abbrev joining : List Call
joining =
    alive 2 (in_session 2 ++ with_line theirs)
    ∷ pongs 2 2 (pos 0) (pos 0)
    ∷ pongs 2 2 (pos 701) (pos 2)
    ∷ alive 2 (in_session 1 ++ with_line ours)
    ∷ pongs 2 1 (pos 0) (pos 0)
    ∷ alive 3 []
    ∷ bye 3
    ∷ ticks 250_000
    ∷ []

-- the box as the call at a place of that list begins
abbrev box_at : ℕ → Box
box_at k = led (before ++ take k joining)

-- the elections of a call at time 0 of these bytes, from node n
abbrev QuietAt : ℕ → ℕ → List ℕ → Type 0
QuietAt k n bytes = Each (Quiet (at (pos 0))) (heard_elections (box_at k) 0 (port n) bytes (at (pos 0)))

-- an election that stays in session n: closed boxes are compared with n, and not with each other, which would take too long
stays_in : (n : ℕ) {x : Box} → (resolved (at (pos 0)) x).session_id ≡ node n → x.session_id ≡ node n → Each (λ l. origin_of l ≤ℤ origin_of x.state.timeline) (timelines_in x.session_id x.peers)
    → Quiet (at (pos 0)) x
stays_in n p q below = record { session = p ∙ sym q; below = below }

announced : QuietAt 0 2 (announces 2 (in_session 2 ++ with_line theirs))
unfolding everything packet_elections upkeep_elections
announced = nil

-- the first sample calls for an election, in which session 2 loses
first_sample : QuietAt 1 2 (pong 2 (pos 0) (pos 0))
unfolding everything packet_elections upkeep_elections
first_sample = stays_in 1 refl refl nil ▸ nil

second_sample : QuietAt 2 2 (pong 2 (pos 701) (pos 2))
unfolding everything packet_elections upkeep_elections
second_sample = nil

-- the samples of session 2 are gone
joined : QuietAt 3 2 (announces 2 (in_session 1 ++ with_line ours))
unfolding everything packet_elections upkeep_elections
joined = nil

sample_in_session : QuietAt 4 2 (pong 1 (pos 0) (pos 0))
unfolding everything packet_elections upkeep_elections
sample_in_session = stays_in 1 refl refl (le_z_yes tt ▸ nil) ▸ nil

other_announced : QuietAt 5 3 (announces 3 [])
unfolding everything packet_elections upkeep_elections
other_announced = nil

other_gone : QuietAt 6 3 (byebye_bytes (node 3))
unfolding everything packet_elections upkeep_elections
other_gone = stays_in 1 refl refl (le_z_yes tt ▸ nil) ▸ nil

quiet_upkeep : Each (Quiet (at (pos 250_000))) (upkeep_elections (at (pos 250_000)) (box_at 7))
unfolding everything upkeep_elections
quiet_upkeep = nil

undisturbed : Undisturbed (led before) joining
unfolding run
undisturbed =
    after_packet announced
    (after_packet first_sample
    (after_packet second_sample
    (after_packet joined
    (after_packet sample_in_session
    (after_packet other_announced
    (after_packet other_gone
    (after_tick quiet_upkeep
    ended)))))))

-- Three elections are held, and our line stays.
pub joining_keeps_line_over_calls_met : (led (before ++ joining)).state.timeline ≡ (led before).state.timeline
joining_keeps_line_over_calls_met = joining_keeps_line_over_calls (node 1) before before_fits joining undisturbed

-- It is the committed one.
pub joined_with : (led before).state.timeline ≡ ours
unfolding everything
joined_with = refl

-- ---- and where the offset changes

-- we have come into session 0 and have its line
abbrev guest : List Call
guest = on ∷ alive 2 (in_session 0 ++ with_line theirs) ∷ pongs 2 0 (pos 0) (pos 0) ∷ []

-- node 3 joins too, and its first sample differs by 501
abbrev second_guest : List Call
second_guest = alive 3 (in_session 0 ++ with_line theirs) ∷ pongs 3 0 (pos 501) (pos 0) ∷ []

guest_announced : Each (Quiet (at (pos 0))) (heard_elections (led guest) 0 (port 3) (announces 3 (in_session 0 ++ with_line theirs)) (at (pos 0)))
unfolding everything packet_elections upkeep_elections
guest_announced = nil

guest_sampled : Each (Quiet (at (pos 0))) (heard_elections (led (guest ++ take 1 second_guest)) 0 (port 3) (pong 0 (pos 501) (pos 0)) (at (pos 0)))
unfolding everything packet_elections upkeep_elections
guest_sampled = stays_in 0 refl refl (le_z_yes tt ▸ le_z_yes tt ▸ nil) ▸ nil

guest_fits : SFits w64 (led guest).state.timeline.time_origin.0
unfolding everything
guest_fits = record { sfits = omega arith }

-- Our line stays,
pub undisturbed_keeps_line_met : (run (led guest) second_guest).state.timeline ≡ (led guest).state.timeline
unfolding run
undisturbed_keeps_line_met = undisturbed_keeps_line (after_packet guest_announced (after_packet guest_sampled ended)) guest_fits

-- which is the session's, and the offset is readopted.
pub second_guest_readopts : ((led guest).state.timeline ≡ theirs) × ((led guest).session_offset ≡ pos 0) × ((run (led guest) second_guest).session_offset ≡ pos 501)
unfolding everything
second_guest_readopts = (refl, refl, refl)
