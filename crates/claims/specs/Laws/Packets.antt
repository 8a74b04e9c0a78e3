-- The distance rule, of a packet that a host reads in the buffer which the code's commit wrote; and that there is one to read for every interface.
use Rattle.std.specs.Prelude.{ℕ, ◌<◌, ◌^◌, ◌≡◌, refl, ◌≢◌, true, false, length, drop}
use Rattle.std.proofs.Common.{arith, sym, ap, subst, ◌∙◌}
use mathlib.Core.List.{List, [], ◌∷◌, map, Memᴰ}
use Rattle.big_endian.specs.Bytes.{bytes}
use Rattle.time.specs.declared.HostTime.{HostTime}
use Rattle.timeline.specs.declared.Timeline.{Timeline}
use Rattle.timeline.specs.declared.SessionState.{SessionState}
use Rattle.timeline.specs.Same.{same_state}
use Rattle.wire.specs.declared.NodeId.{NodeId}
use Rattle.wire.specs.declared.SocketAddrPlain.{SocketAddrPlain}
use Rattle.wire.specs.Layout.{addr_bytes}
use Rattle.wire.specs.Parse.{parse}
use Rattle.model.specs.Peers.{Interface}
use Rattle.model.specs.Engine.{Box, Output, send, state_changed, num_peers_changed, set_timer, new, multicast}
use Rattle.model.specs.Packet.{AliveMsg}
use Rattle.model.specs.Calls.{Call, packet, commit, Outcome, step, outcome_number, outputs_of}
use Rattle.model.specs.Answer.{content, buffer_after}
use Rattle.model.specs.Preview.{preview}
use Rattle.model.specs.Laws.Calls.Messages.{alive_said}
use Rattle.lists.specs.Laws.Each.{Each}
use Rattle.model.specs.Laws.Calls.Fits.{CallFits}
use Rattle.model.proofs.Laws.Clerk.Ids.{mem_map}
use Rattle.model.proofs.Laws.Link.Announces.{commit_announces}
use Rattle.model.specs.Laws.Distance.Wider.{Writes, TakesAlive, Newest, Bounded}
use Rattle.model.specs.Laws.Distance.EveryInterface.{alive_on, alive_sent}
use Rattle.model.proofs.Laws.Distance.EveryInterface.{other_state, alive_read}
use Rattle.engine_state.specs.declared.Engine.{Engine}
use Rattle.engine_state.specs.Held.{core_box, held}
use Rattle.call.specs.declared.Called.{Called}
use Rattle.call.specs.Called.{Returns}
use Rattle.call_query.specs.declared.preview.Preview as query
use Rattle.call_query.specs.Preview.{preview_of}
use Rattle.claims.specs.Read.{Read, outputs_in}
use Rattle.claims.specs.Host.{Led}
use Rattle.claims.specs.Laws.Led.{new_run}
use Rattle.claims.specs.Laws.ReadBack.{as_read}
use Rattle.claims.specs.Laws.Counted.{Done, zero_done}
use Rattle.claims.specs.Laws.Claims.{host_reads, NearEngines, engines_wider_distance}

-- what follows the interface's number, the address and the port in an output of kind 1
abbrev pub packet_in : Read → List ℕ
packet_in o = drop 10 o.content

-- A host committed s on the engine e and lent a buffer. The call's number was 0, and in the bytes that it left there the host reads an output of kind 1 with
-- this packet.
pub record HostSends (e : Engine) (s : SessionState) (now : HostTime) (buf_size : ℕ) (bytes : List ℕ) : Type 0 where
  pub returned : Called
  pub says : Returns e (commit s now buf_size) returned
  pub zero : returned.number ≡ 0
  pub before : List ℕ
  pub after : List ℕ
  pub lent : length before ≡ buf_size
  pub wrote : after ≡ buffer_after (step (held e) (commit s now buf_size)) before
  pub output : Read
  pub there : Memᴰ output (outputs_in after)
  pub is_send : output.kind ≡ 1
  pub packet_is : packet_in output ≡ bytes

-- ---- an output of kind 1 that is read was put out as a packet

packet_back : (i : ℕ) (to : SocketAddrPlain) (ps : List ℕ) → packet_in (as_read (send i to ps)) ≡ ps
unfolding content addr_bytes bytes
packet_back i to ps = refl

-- among these outputs there is this packet
record Put (os : List Output) (ps : List ℕ) : Type 0 where
  interface : ℕ
  to : SocketAddrPlain
  there : Memᴰ (send interface to ps) os

wrong_kind : {k : ℕ} (o : Read) (x : Output) → o ≡ as_read x → o.kind ≡ 1 → (as_read x).kind ≡ k → 1 < k → ⊥
wrong_kind {k} o x e h f l = let g : o.kind ≡ (as_read x).kind = ap (λ (r : Read). r.kind) e in omega arith

put_read : (os : List Output) (o : Read) → Memᴰ o (map as_read os) → o.kind ≡ 1 → Put os (packet_in o)
put_read [] o m h = elim m [ ]
put_read (send i to ps ∷ os) o (Memᴰ.head e) h =
    record { interface = i; to = to; there = Memᴰ.head (ap (λ (bs : List ℕ). send i to bs) (ap packet_in e ∙ packet_back i to ps)) }
put_read (state_changed s ∷ os) o (Memᴰ.head e) h = absurd (wrong_kind o (state_changed s) e h refl (omega arith))
put_read (num_peers_changed n ∷ os) o (Memᴰ.head e) h = absurd (wrong_kind o (num_peers_changed n) e h refl (omega arith))
put_read (set_timer t ∷ os) o (Memᴰ.head e) h = absurd (wrong_kind o (set_timer t) e h refl (omega arith))
put_read (x ∷ os) o (Memᴰ.tail m) h = let p : Put os (packet_in o) = put_read os o m h in record { interface = p.interface; to = p.to; there = Memᴰ.tail p.there }

-- ---- what a host reads and what the definition writes are the same packets

module _ (e : Engine) (s : SessionState) (now : HostTime) (buf_size : ℕ) where
  pub host_writes : {ps : List ℕ} → HostSends e s now buf_size ps → Writes (held e) s now buf_size ps
  host_writes {ps} p =
      let d : Done (held e) (commit s now buf_size) = zero_done e (commit s now buf_size) p.returned p.says p.zero in
      let back : outputs_in p.after ≡ map as_read d.outputs
      = host_reads e (commit s now buf_size) p.returned p.says p.zero p.before p.after p.wrote ∙ ap (λ (x : Outcome). map as_read (outputs_of x)) d.gives in
      let q : Put d.outputs (packet_in p.output) = put_read d.outputs p.output (subst (Memᴰ p.output) back p.there) p.is_send in
      record {
        after = d.box;
        outputs = d.outputs;
        accepted = d.gives;
        interface = q.interface;
        to = q.to;
        written = subst (λ (bs : List ℕ). Memᴰ (send q.interface q.to bs) d.outputs) p.packet_is q.there;
      }

  module _ (r : Called) (says : Returns e (commit s now buf_size) r) (before after : List ℕ) (lent : length before ≡ buf_size) (wrote : after ≡ buffer_after (step (held e) (commit s now buf_size)) before) where
    pub host_sends : {ps : List ℕ} → Writes (held e) s now buf_size ps → HostSends e s now buf_size ps
    host_sends {ps} w =
        let zero : r.number ≡ 0 = says.number_is ∙ ap outcome_number w.accepted in
        let back : outputs_in after ≡ map as_read w.outputs
        = host_reads e (commit s now buf_size) r says zero before after wrote ∙ ap (λ (x : Outcome). map as_read (outputs_of x)) w.accepted in
        let o : Output = send w.interface w.to ps in
        record {
          returned = r;
          says = says;
          zero = zero;
          before = before;
          after = after;
          lent = lent;
          wrote = wrote;
          output = as_read o;
          there = subst (Memᴰ (as_read o)) (sym back) (mem_map as_read o w.written);
          is_send = refl;
          packet_is = packet_back w.interface w.to ps;
        }

    -- a commit of another state on an enabled engine, with the number 0: for every interface held there is the engine's alive to read
    pub host_sends_everywhere : r.number ≡ 0 → e.core.enabled ≡ true → same_state e.core.state s ≡ false → (i : Interface) → Memᴰ i (held e).interfaces → HostSends e s now buf_size (alive_on (held e) s now i)
    unfolding core_box
    host_sends_everywhere zero on other i m =
        let d : Done (held e) (commit s now buf_size) = zero_done e (commit s now buf_size) r says zero in
        host_sends (record {
          after = d.box;
          outputs = d.outputs;
          accepted = d.gives;
          interface = i.id;
          to = multicast;
          written = commit_announces (held e) d.box d.outputs now buf_size s on other d.gives i m;
        })

-- ---- of an engine that was made new and led on by calls whose arguments fit their types

-- A commit that changes the line of an enabled engine, with the number 0: for every interface held there is a packet to read, and it reads as an alive of this
-- engine, which names its session and has the line that it took.
pub host_commit_sends : (a : NodeId) (first sender : Engine) (calls : List Call) → held first ≡ new a → Led first calls sender → a.0 < 2 ^ 64 → Each CallFits calls
    → (s : SessionState) (now : HostTime) (buf_size : ℕ) (r : Called) → Returns sender (commit s now buf_size) r → r.number ≡ 0
    → (before after : List ℕ) → length before ≡ buf_size → after ≡ buffer_after (step (held sender) (commit s now buf_size)) before
    → sender.core.enabled ≡ true → s.timeline ≢ sender.core.state.timeline → (i : Interface) → Memᴰ i (held sender).interfaces
    → HostSends sender s now buf_size (alive_on (held sender) s now i) × (parse (alive_on (held sender) s now i) ≡ alive_said (alive_sent (held sender) s i))
unfolding core_box
host_commit_sends a first sender calls made led fits calls_fit s now buf_size r says zero before after lent wrote on changes i m =
    let ReadSo : Box → Type 0 = λ e. Memᴰ i e.interfaces → parse (alive_on e s now i) ≡ alive_said (alive_sent e s i) in (
      host_sends_everywhere sender s now buf_size r says before after lent wrote zero on (other_state (held sender) s changes) i m,
      subst ReadSo (sym (new_run a first calls sender made led)) (alive_read a calls fits calls_fit s now i) m,
    )

-- ---- the rule

-- Two engines that were made new, each led on by its own calls. A host previews s on the sender and gets q; it commits s there and reads a packet in the bytes
-- that the commit left in its buffer; the receiver takes that packet's bytes, and returns r. The other premises are the wider rule's.
pub hosts_distance : (a b : NodeId) (first second sender receiver : Engine) (sends hears : List Call) → held first ≡ new a → Led first sends sender → held second ≡ new b → Led second hears receiver
    → (s : SessionState) (now now' : HostTime) (buf_size buf_size' interface : ℕ) (from : SocketAddrPlain) (bytes : List ℕ) (m : AliveMsg) (sent : Timeline) (r : Called) (q : query.Preview) → a.0 < 2 ^ 64
    → preview_of q ≡ preview (held sender) s now
    → HostSends sender s now buf_size bytes
    → Returns receiver (packet interface from bytes now' buf_size') r
    → TakesAlive (held receiver) interface from bytes now' buf_size' m
    → Newest (held receiver) m sent
    → Bounded (held sender) s (held receiver)
    → NearEngines sender s q r.engine
hosts_distance a b first second sender receiver sends hears made_a led_a made_b led_b s now now' buf_size buf_size' interface from bytes m sent r q fits previews p takes t n z =
    engines_wider_distance a b first second sender receiver sends hears made_a led_a made_b led_b s now now' buf_size buf_size' interface from bytes sent r takes q previews m fits
    (host_writes sender s now buf_size p) t n z
