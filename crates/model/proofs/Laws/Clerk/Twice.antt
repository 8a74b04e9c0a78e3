-- Two announcements of one node.
use Rattle.std.specs.Prelude.{ℕ, ◌≡◌, refl, ◌⊎◌, true, false, ◌&&◌, not, Option}
use Rattle.std.proofs.Common.{sym, ap₂, ◌∙◌, inl, inr, eq-eqb}
use Rattle.std.proofs.Math.Path.{ap, subst}
use mathlib.Core.List.{List, map, Memᴰ}
use Rattle.time.specs.declared.HostTime.{HostTime}
use Rattle.wire.specs.declared.NodeId.{NodeId}
use Rattle.wire.specs.declared.SocketAddrPlain.{SocketAddrPlain}
use Rattle.wire.specs.Parse.{parse}
use Rattle.wire.specs.Same.{same_node}
use Rattle.lists.specs.Lists.{found, has_key}
use Rattle.model.specs.Peers.{Peer, peer_key}
use Rattle.model.specs.Engine.{Box, Output}
use Rattle.model.specs.Produce.{after_ping, recent}
use Rattle.model.specs.Packet.{AliveMsg, after_alive, handle_message, held_peer}
use Rattle.model.specs.Calls.{packet, done, step, hears}
use Rattle.model.specs.Laws.Calls.Messages.{arrived, alive_said}
use Rattle.lists.specs.Laws.Bools.{clash}
use Rattle.lists.specs.Laws.Each.{Each, each_kept, each_upsert_any}
use Rattle.model.proofs.Laws.Calls.Steps.{produce_node}
use Rattle.model.specs.Laws.Calls.Course.{Course, packet_ignored, packet_taken, messaged}
use Rattle.model.proofs.Laws.Calls.Course.{course}
use Rattle.model.specs.Laws.Clerk.Neighbours.{upkept}
use Rattle.model.proofs.Laws.Clerk.Neighbours.{produce_enabled, produce_peers, messaged_peers, messaged_alike}
use Rattle.model.specs.Laws.Clerk.Ids.{ids}
use Rattle.model.proofs.Laws.Clerk.Ids.{announced, announced_key, heard_alive, heard_held, heard_there, found_mem, mem_keep, mem_map, upkept_adds_none, upkept_all}
use Rattle.model.proofs.Laws.Clerk.Times.{recent_now}
use Rattle.model.specs.Laws.Clerk.Twice.{Taken}
use Rattle.wire.specs.declared.Message.{Message}

pub packet_course : (e : Box) (iface : ℕ) (from : SocketAddrPlain) (bytes : List ℕ) (now : HostTime) (buf_size : ℕ) (e' : Box) (os : List Output)
    → step e (packet iface from bytes now buf_size) ≡ done e' os → ((hears e (parse bytes) ≡ false) × (e' ≡ e)) ⊎ Taken e iface from bytes now buf_size e'
packet_course e iface from bytes now buf_size e' os h = go (course e (packet iface from bytes now buf_size) e' os h)
  where
    go : Course e e' os (packet iface from bytes now buf_size) → ((hears e (parse bytes) ≡ false) × (e' ≡ e)) ⊎ Taken e iface from bytes now buf_size e'
    go (packet_ignored a t i) = inl (t, i.box)
    go (packet_taken a l on own full k) =
        let x : Box = messaged e (arrived iface from now) bytes in
        let like = messaged_alike e (arrived iface from now) bytes in
        inr (record {
          admitted = a;
          short = l;
          hears = ap₂ ◌&&◌ on (ap not own);
          peers = ap (λ (b : Box). b.peers) k.box ∙ produce_peers now x (like.enabled ∙ on) ∙ ap (upkept now) (messaged_peers e (arrived iface from now) bytes);
          enabled = ap (λ (b : Box). b.enabled) k.box ∙ produce_enabled now x ∙ like.enabled;
          node = ap (λ (b : Box). b.node_id) k.box ∙ produce_node now x ∙ like.node;
        })

-- ---- an alive

module _ (bytes : List ℕ) (m : AliveMsg) (says : parse bytes ≡ alive_said m) where
  -- the sender of one that is taken is held then
  held_then : (e : Box) (iface : ℕ) (from : SocketAddrPlain) (now : HostTime) (buf_size : ℕ) (e' : Box) → Taken e iface from bytes now buf_size e' → found (held_peer m.node_id e'.peers) ≡ true
  unfolding after_ping after_alive
  held_then e iface from now buf_size e' t =
      let x = arrived iface from now in
      let p : Peer = announced e x bytes m says in
      let there : Memᴰ (after_ping now p) (upkept now (handle_message e x bytes (parse bytes)).box.peers)
      = mem_keep (recent now) (after_ping now p) (mem_map (after_ping now) p (heard_there e x bytes m says)) (recent_now t.admitted (after_ping now p) refl) in
      found_mem (has_key peer_key m.node_id.0) (after_ping now p) (subst (Memᴰ (after_ping now p)) (sym t.peers) there) (eq-eqb _ _ (announced_key e x bytes m says))

  -- an alive from a node that is held adds no id
  pub held_adds_none : (e : Box) (iface : ℕ) (from : SocketAddrPlain) (now : HostTime) (buf_size : ℕ) (e' : Box) (os : List Output) → found (held_peer m.node_id e.peers) ≡ true
      → step e (packet iface from bytes now buf_size) ≡ done e' os → (k : ℕ) → Memᴰ k (ids e'.peers) → Memᴰ k (ids e.peers)
  held_adds_none e iface from now buf_size e' os held h k = go (packet_course e iface from bytes now buf_size e' os h)
    where
      go : ((hears e (parse bytes) ≡ false) × (e' ≡ e)) ⊎ Taken e iface from bytes now buf_size e' → Memᴰ k (ids e'.peers) → Memᴰ k (ids e.peers)
      go (inl i) mem = subst (λ (b : Box). Memᴰ k (ids b.peers)) i.1 mem
      go (inr t) mem = subst (Memᴰ k) (heard_held e (arrived iface from now) bytes m says held) (upkept_adds_none now (handle_message e (arrived iface from now) bytes (parse bytes)).box.peers k (subst (λ (ps : List Peer). Memᴰ k (ids ps)) t.peers mem))

-- ---- two alives of one node

module _ (bytes bytes' : List ℕ) (m m' : AliveMsg) (says : parse bytes ≡ alive_said m) (says' : parse bytes' ≡ alive_said m') (same : m'.node_id ≡ m.node_id) where
  -- both are heard, or none is
  heard_alike : (e : Box) → hears e (parse bytes') ≡ hears e (parse bytes)
  heard_alike e =
      ap (λ (x : Option Message). hears e x) says' ∙ ap (λ (n : NodeId). e.enabled && not (same_node n e.node_id)) same
      ∙ sym (ap (λ (x : Option Message). hears e x) says)

  module _ (e : Box) (iface iface' : ℕ) (from from' : SocketAddrPlain) (now : HostTime) (buf_size : ℕ) (e₁ : Box) (os₁ : List Output) (once : step e (packet iface from bytes now buf_size) ≡ done e₁ os₁) where
    -- where the first was taken the sender of the second is held
    sender_held : Taken e iface from bytes now buf_size e₁ → found (held_peer m'.node_id e₁.peers) ≡ true
    sender_held t = subst (λ (n : NodeId). found (held_peer n e₁.peers) ≡ true) (sym same) (held_then bytes m says e iface from now buf_size e₁ t)

    -- where it was not, the second is not heard
    unheard_too : (hears e (parse bytes) ≡ false) × (e₁ ≡ e) → hears e₁ (parse bytes') ≡ false
    unheard_too i = subst (λ (b : Box). hears b (parse bytes') ≡ false) (sym i.1) (heard_alike e ∙ i.0)

    -- the second, taken at any accepted time, adds no id
    pub again_adds_none : (now' : HostTime) (buf_size' : ℕ) (e₂ : Box) (os₂ : List Output) → step e₁ (packet iface' from' bytes' now' buf_size') ≡ done e₂ os₂
        → (k : ℕ) → Memᴰ k (ids e₂.peers) → Memᴰ k (ids e₁.peers)
    again_adds_none now' buf_size' e₂ os₂ h k = go (packet_course e iface from bytes now buf_size e₁ os₁ once) (packet_course e₁ iface' from' bytes' now' buf_size' e₂ os₂ h)
      where
        go : ((hears e (parse bytes) ≡ false) × (e₁ ≡ e)) ⊎ Taken e iface from bytes now buf_size e₁ → ((hears e₁ (parse bytes') ≡ false) × (e₂ ≡ e₁)) ⊎ Taken e₁ iface' from' bytes' now' buf_size' e₂
            → Memᴰ k (ids e₂.peers) → Memᴰ k (ids e₁.peers)
        go (inr s) c = held_adds_none bytes' m' says' e₁ iface' from' now' buf_size' e₂ os₂ (sender_held s) h k
        go (inl i) (inl j) = λ mem. subst (λ (b : Box). Memᴰ k (ids b.peers)) j.1 mem
        go (inl i) (inr t) = clash (sym t.hears ∙ unheard_too i)

    -- taken at the same time it leaves the same ids
    pub again_same_ids : (buf_size' : ℕ) (e₂ : Box) (os₂ : List Output) → step e₁ (packet iface' from' bytes' now buf_size') ≡ done e₂ os₂ → ids e₂.peers ≡ ids e₁.peers
    unfolding after_alive
    again_same_ids buf_size' e₂ os₂ h = go (packet_course e iface from bytes now buf_size e₁ os₁ once) (packet_course e₁ iface' from' bytes' now buf_size' e₂ os₂ h)
      where
        go : ((hears e (parse bytes) ≡ false) × (e₁ ≡ e)) ⊎ Taken e iface from bytes now buf_size e₁ → ((hears e₁ (parse bytes') ≡ false) × (e₂ ≡ e₁)) ⊎ Taken e₁ iface' from' bytes' now buf_size' e₂
            → ids e₂.peers ≡ ids e₁.peers
        go a (inl i) = ap (λ (b : Box). ids b.peers) i.1
        go (inl i) (inr t) = clash (sym t.hears ∙ unheard_too i)
        go (inr s) (inr t) =
            let x = arrived iface' from' now in
            let lately : Each (λ p. recent now p ≡ true) e₁.peers = subst (Each (λ p. recent now p ≡ true)) (sym s.peers) (each_kept (recent now) (map (after_ping now) (handle_message e (arrived iface from now) bytes (parse bytes)).box.peers) (λ p r. r)) in
            let p : Peer = announced e₁ x bytes' m' says' in
            let all : Each (λ p. recent now p ≡ true) (handle_message e₁ x bytes' (parse bytes')).box.peers
            = subst (Each (λ p. recent now p ≡ true)) (sym (heard_alive e₁ x bytes' m' says')) (each_upsert_any peer_key p (recent_now t.admitted p refl) lately) in
            ap ids t.peers ∙ upkept_all now (handle_message e₁ x bytes' (parse bytes')).box.peers all ∙ heard_held e₁ x bytes' m' says' (sender_held s)
