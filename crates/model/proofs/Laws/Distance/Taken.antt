-- An accepted packet call, on an alive with news from a neighbour that is held in the same session, with a sample.
use Rattle.std.specs.Prelude.{ℕ, ◌≡◌, refl, ◌≢◌, Bool, true, false, ◌&&◌, List, [], ◌∷◌, ℤ, ◌<ℤ◌, Option, Some, unwrap_or}
use Rattle.std.proofs.Common.{sym, ap₂, ◌∙◌, subst, inl, inr, eqb-true}
use Rattle.std.proofs.Math.Path.{ap}
use Rattle.std.proofs.Math.Bool.{not}
use Rattle.time.specs.declared.HostTime.{HostTime}
use Rattle.timeline.specs.declared.Timeline.{Timeline}
use Rattle.wire.specs.declared.NodeId.{NodeId}
use Rattle.wire.specs.declared.SocketAddrPlain.{SocketAddrPlain}
use Rattle.wire.specs.Parse.{parse}
use Rattle.wire.specs.Same.{same_node, same_maybe_node, same_maybe_timeline}
use Rattle.lists.specs.Lists.{empty, upsert, without}
use Rattle.model.specs.Peers.{Peer, peer_key, new_peer, timeline_list, timelines_in}
use Rattle.model.specs.Engine.{Box, Output, with_peers, timeline_to_ghost, timeline_to_host}
use Rattle.model.specs.Election.{resolve_to, resolved, resolve_if}
use Rattle.model.specs.Produce.{produce_outputs}
use Rattle.model.specs.Packet.{Handled, AliveMsg, session_changed, news, after_alive, handle_alive_of, held_peer, handle_alive, handle_message}
use Rattle.model.specs.Calls.{packet, done, step, resolved_if_needed, our_own, hears}
use Rattle.model.specs.Laws.Calls.Messages.{arrived, alive_said}
use Rattle.lists.specs.Laws.Bools.{clash, not_true→false}
use Rattle.lists.specs.Laws.Each.{Each, head, tail, each, first_mem, Ascending, each_upsert, mem_upsert}
use Rattle.model.specs.Laws.Tools.Tests.{same_node_true, same_maybe_timeline_true, same_maybe_node_refl, is_node_yes}
use Rattle.model.specs.Laws.Tools.Parts.{Part, told_in, known_in, line_part}
use Rattle.model.specs.Laws.Calls.Course.{Course, packet_ignored, packet_taken}
use Rattle.model.proofs.Laws.Calls.Course.{course}
use Rattle.model.specs.Laws.Distance.Statement.{Keeps, upkeep_elections, packet_elections}
use Rattle.model.specs.Laws.Distance.Wider.{TakesAlive, Newest}
use Rattle.model.specs.Laws.Distance.Lists.{each_without, each_told, each_told_is, mem_known}
use Rattle.model.proofs.Laws.Distance.Held.{Below, resolved_wins, upkeep_stays}
use Rattle.wire.specs.declared.Message.{Message}

-- ---- the call's box

other_node : (a b : NodeId) → a ≢ b → same_node a b ≡ false
other_node a b d = not_true→false _ (λ t. d (same_node_true a b t))

packet_after : (e : Box) (i : ℕ) (from : SocketAddrPlain) (bytes : List ℕ) (now : HostTime) (buf_size : ℕ) (after : Box) (os : List Output) (m : AliveMsg)
    → step e (packet i from bytes now buf_size) ≡ done after os → parse bytes ≡ alive_said m → e.enabled ≡ true → m.node_id ≢ e.node_id
    → after ≡ (produce_outputs now (resolved_if_needed now (handle_alive e (arrived i from now) m)).box).box
unfolding handle_message
packet_after e i from bytes now buf_size after os m h r on other = go (course e (packet i from bytes now buf_size) after os h)
  where
    heard_here : hears e (parse bytes) ≡ true
    heard_here = ap₂ (λ (b : Bool) (x : Option Message). b && not (our_own e.node_id x)) on r ∙ ap not (other_node m.node_id e.node_id other)

    go : Course e after os (packet i from bytes now buf_size) → after ≡ (produce_outputs now (resolved_if_needed now (handle_alive e (arrived i from now) m)).box).box
    go (packet_ignored a t k) = clash (sym heard_here ∙ t)
    go (packet_taken a l t own full k) = k.box ∙ ap (λ (x : Option Message). (produce_outputs now (resolved_if_needed now (handle_message e (arrived i from now) bytes x)).box).box) r

-- ---- the alive

nonempty : (xs : List ℤ) → xs ≢ [] → empty xs ≡ false
nonempty [] h = absurd (h refl)
nonempty (x ∷ xs) h = refl

module _ (e : Box) (i : ℕ) (from : SocketAddrPlain) (m : AliveMsg) (now : HostTime) (p : Peer) (found : held_peer m.node_id e.peers ≡ Some p)
    (same : p.session_id ≡ m.session_id) (is_news : news m p ≡ true) (sampled : p.samples.offsets ≢ []) where
  -- the box after the alive
  abbrev heard : Box
  heard = with_peers (upsert peer_key (after_alive from m now p) e.peers) e

  -- what it does
  abbrev handled : Handled
  handled = handle_alive e (arrived i from now) m

  alive_held : handled ≡ handle_alive_of e (arrived i from now) m p
  unfolding handle_alive
  alive_held = ap (λ (o : Option Peer). handle_alive_of e (arrived i from now) m (unwrap_or o (new_peer m.node_id from now))) found

  same_session : session_changed m p ≡ false
  unfolding session_changed
  same_session = ap (λ (o : Option NodeId). not (same_maybe_node o m.session_id)) same ∙ ap not (same_maybe_node_refl m.session_id)

  elects : handled.needs_resolution ≡ true
  unfolding handle_alive_of after_alive
  elects = ap (λ (h : Handled). h.needs_resolution) alive_held ∙ rw (is_news, same_session, nonempty p.samples.offsets sampled)

  alive_box : handled.box ≡ heard
  unfolding handle_alive_of
  alive_box = ap (λ (h : Handled). h.box) alive_held

  -- an election follows
  resolved_box : (resolved_if_needed now handled).box ≡ resolved now heard
  unfolding resolved_if_needed resolve_if
  resolved_box = ap (λ (t : Bool). (resolve_if t now handled.box).box) elects ∙ ap (resolved now) alive_box

  the_elections : (bytes : List ℕ) → parse bytes ≡ alive_said m → packet_elections e i from bytes now ≡ heard ∷ upkeep_elections now (resolved now heard)
  unfolding packet_elections handle_message
  the_elections bytes r = rw (r, resolved_box, elects, alive_box)

-- ---- what the receiver holds after the call

-- a part that m tells, with a value above those of all others: it is what the receiver holds, in its host time, at its old offset
pub taken_part : {A : Type 0} (P : Part A) (e : Box) (i : ℕ) (from : SocketAddrPlain) (bytes : List ℕ) (now : HostTime) (buf_size : ℕ) (m : AliveMsg) (L : A)
    → Ascending peer_key e.peers → P.to_ghost e.session_offset (P.to_host e.session_offset L) ≡ L → e.enabled ≡ true → m.node_id ≢ e.node_id
    → (t : TakesAlive e i from bytes now buf_size m) → P.told (after_alive from m now t.held) ≡ L ∷ []
    → Each (λ x. P.value x <ℤ P.value L) (known_in P.told e.session_id (without peer_key m.node_id.0 e.peers))
    → P.value (P.to_ghost e.session_offset (P.of e.state)) <ℤ P.value L
    → (P.of t.after.state ≡ P.to_host e.session_offset L) × (t.after.session_offset ≡ e.session_offset)
unfolding with_peers after_alive resolved resolve_to
taken_part {A} P e i from bytes now buf_size m L asc back on other t tells others own =
    let o : ℤ = e.session_offset in
    let p : Peer = t.held in
    let q : Peer = after_alive from m now p in
    let b : Box = with_peers (upsert peer_key q e.peers) e in
    let id : p.id.0 ≡ m.node_id.0 = eqb-true _ _ (first_mem _ p e.peers t.holds).1 in
    let a₁ : t.after ≡ (produce_outputs now (resolved now b)).box
    = packet_after e i from bytes now buf_size t.after t.outputs m t.accepted t.reads on other
    ∙ ap (λ (x : Box). (produce_outputs now x).box) (resolved_box e i from m now p t.holds t.held_session t.is_news t.sampled) in
    let ks : Each (Keeps now) (b ∷ upkeep_elections now (resolved now b))
    = subst (Each (Keeps now)) (the_elections e i from m now p t.holds t.held_session t.is_news t.sampled bytes t.reads) t.elections in
    let k : Keeps now b = head ks in
    let apart : Each (λ y. peer_key y ≢ m.node_id.0 → Each (λ x. P.value x <ℤ P.value L) (told_in P.told e.session_id y)) e.peers
    = each_without peer_key m.node_id.0 e.peers (each_told P.told e.session_id _ others) in
    let below : Each (Below P e.session_id L) b.peers
    = each_upsert peer_key q asc (each_told_is P.told e.session_id q L tells (inl refl)) (each (λ y f d. each (λ x u. inr u) (f (λ g. d (g ∙ sym id)))) apart) in
    let known = mem_known P.told e.session_id q L (is_node_yes _ _ t.our_session) tells b.peers (mem_upsert peer_key q e.peers) in
    let won : P.of (resolved now b).state ≡ P.to_host o L = resolved_wins P now b k L below known (inr own) in
    let up = upkeep_stays P now (resolved now b) L on (tail ks)
    (subst (λ (s : NodeId). Each (Below P s L) b.peers) (sym k.session) below)
    (subst (λ (x : ℤ). P.to_ghost x (P.of (resolved now b).state) ≡ L) (sym k.offset) (ap (P.to_ghost o) won ∙ back))
    (won ∙ ap (λ (x : ℤ). P.to_host x L) (sym k.offset)) in
    (ap (λ (x : Box). P.of x.state) a₁ ∙ up.0 ∙ ap (λ (x : ℤ). P.to_host x L) k.offset, ap (λ (x : Box). x.session_offset) a₁ ∙ up.1 ∙ k.offset)

-- ---- of the line

-- an alive with another line is news
pub line_news : (m : AliveMsg) (p : Peer) → p.timeline_ghost ≢ m.timeline → news m p ≡ true
unfolding news
line_news m p unlike = rw (not_true→false (same_maybe_timeline p.timeline_ghost m.timeline) (λ t. unlike (same_maybe_timeline_true _ _ t)))

pub taken_line : (e : Box) (i : ℕ) (from : SocketAddrPlain) (bytes : List ℕ) (now : HostTime) (buf_size : ℕ) (m : AliveMsg) (sent : Timeline)
    → Ascending peer_key e.peers → timeline_to_ghost e.session_offset (timeline_to_host e.session_offset sent) ≡ sent → e.enabled ≡ true → m.node_id ≢ e.node_id
    → (t : TakesAlive e i from bytes now buf_size m) → Newest e m sent
    → (t.after.state.timeline ≡ timeline_to_host e.session_offset sent) × (t.after.session_offset ≡ e.session_offset)
unfolding after_alive timeline_to_ghost timelines_in
taken_line e i from bytes now buf_size m sent asc back on other t n =
    taken_part line_part e i from bytes now buf_size m sent asc back on other t (ap timeline_list n.tells) n.others n.own
