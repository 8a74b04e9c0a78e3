-- What Link says of its number of peers: another box is one peer, by however many interfaces it is heard.
use Prim.Native.Nat.{ℕ, ◌<◌}
use Rattle.std.proofs.Common.{arith, sym, ◌∙◌}
use Rattle.std.specs.Prelude.{◌≡◌, refl, Bool, true, false, cond, ltb, eqb, length, Option, Some, None}
use Rattle.std.proofs.Math.Path.{ap, ap₂, subst}
use mathlib.Core.List.{List, [], ◌∷◌, ◌++◌, map, Memᴰ}
use Rattle.std.proofs.lemmas.List.{length-map}
use Rattle.time.specs.declared.HostTime.{HostTime}
use Rattle.wire.specs.declared.NodeId.{NodeId}
use Rattle.wire.specs.declared.SocketAddrPlain.{SocketAddrPlain}
use Rattle.wire.specs.declared.DiscoveryMsg.TheVariants.{Alive, ByeBye}
use Rattle.wire.specs.declared.MeasurementMsg.TheVariants.{Ping, Pong}
use Rattle.wire.specs.declared.Message.TheVariants.{Discovery, Measurement}
use Rattle.wire.specs.Parse.{parse}
use Rattle.lists.specs.Lists.{first}
use Rattle.model.specs.Peers.{Peer, peer_key, in_session, peers_in}
use Rattle.model.specs.Engine.{Box, Output, new}
use Rattle.model.specs.Election.{resolve_if}
use Rattle.model.specs.Produce.{produce_outputs}
use Rattle.model.specs.Packet.{AliveMsg, Handled, unchanged, handle_alive_of, handle_alive, handle_byebye, handle_ping, handle_pong_of, handle_pong, handle_message, owns}
use Rattle.model.specs.Calls.{Call, packet, Outcome, refused, done, timely, admit, then_produce, resolved_if_needed, take_message, hears, read_refusal, handle_read, handle_packet, step, next, run, outcome_number}
use Rattle.model.specs.Laws.Calls.Messages.{arrived, alive_said, pong_msg}
use Rattle.lists.specs.Laws.Each.{Each, ◌▸◌, each, each₂, each_of_mem, each_keep, each_kept, each_map, Ascending, none_left, more}
use Rattle.model.specs.Laws.Tools.Tests.{is_node_true, is_node_yes}
use Rattle.model.proofs.Laws.Calls.Reach.{run_append}
use Rattle.model.specs.Laws.Clerk.Ids.{ids}
use Rattle.model.proofs.Laws.Clerk.Ids.{mem_keep, mem_map}
use Rattle.model.specs.Laws.Clerk.Count.{told}
use Rattle.model.proofs.Laws.Clerk.Claims.{announced_twice, counted_once, told_count}
use Rattle.model.proofs.Laws.Link.Enabling.{never_oneself}
use Rattle.model.specs.Laws.Link.Interfaces.{HeldInSession, CountsOthers, InSession, oneself, another, Distinct, no_more, and_another, CountsAllButOne}
use Rattle.wire.specs.declared.Message.{Message}

-- ---- the interface by which a packet comes

module _ (e : Box) (i j : ℕ) (from : SocketAddrPlain) (bytes : List ℕ) (now : HostTime) where
  abbrev heard_on : ℕ → Option Message → Handled
  heard_on k m = handle_message e (arrived k from now) bytes m

  -- it is where an answer goes, and nothing else
  abbrev Same : Option Message → Type 0
  Same m = ((heard_on i m).box ≡ (heard_on j m).box) × ((heard_on i m).needs_resolution ≡ (heard_on j m).needs_resolution)

  same_message : (m : Option Message) → Same m
  unfolding handle_message unchanged handle_alive handle_alive_of handle_byebye handle_ping handle_pong handle_pong_of
  same_message None = (refl, refl)
  same_message (Some (Discovery (Alive node timeline start_stop session mep4))) = (refl, refl)
  same_message (Some (Discovery (ByeBye node))) = (refl, refl)
  same_message (Some (Measurement (Ping time prev))) = (refl, refl)
  same_message (Some (Measurement (Pong session b2 a2 b1))) = go (first (owns from) e.peers)
    where
      by : ℕ → Option Peer → Handled
      by k o = handle_pong_of e (arrived k from now) (pong_msg session b2 a2 b1) o

      go : (o : Option Peer) → ((by i o).box ≡ (by j o).box) × ((by i o).needs_resolution ≡ (by j o).needs_resolution)
      go None = (refl, refl)
      go (Some p) = (refl, refl)

  -- two outcomes with one number and one box
  record Alike (o o' : Outcome) : Type 0 where
    answer : outcome_number o ≡ outcome_number o'
    box : next e o ≡ next e o'

  taken_alike : (m : Option Message) → Alike (take_message e (arrived i from now) bytes m) (take_message e (arrived j from now) bytes m)
  unfolding take_message then_produce resolved_if_needed
  taken_alike m = record {
    answer = refl;
    box = ap₂ (λ (t : Bool) (x : Box). (produce_outputs now (resolve_if t now x).box).box) (same_message m).1 (same_message m).0;
  }

  -- a test that does not hang on the interface, with one of its branches alike
  then_alike : (t : Bool) (y : Outcome) {x x' : Outcome} → Alike x x' → Alike (cond t x y) (cond t x' y)
  then_alike true y a = a
  then_alike false y a = record { answer = refl; box = refl }

  else_alike : (t : Bool) (y : Outcome) {x x' : Outcome} → Alike x x' → Alike (cond t y x) (cond t y x')
  else_alike true y a = record { answer = refl; box = refl }
  else_alike false y a = a

  packet_alike : (buf_size : ℕ) → Alike (step e (packet i from bytes now buf_size)) (step e (packet j from bytes now buf_size))
  unfolding step admit handle_packet handle_read
  packet_alike buf_size =
      then_alike (timely now) (refused 1) (else_alike (ltb buf_size 4096) (refused 2) (else_alike (ltb 512 (length bytes)) (refused 3)
      (then_alike (hears e (parse bytes)) (done e []) (then_alike (eqb (read_refusal e from (parse bytes)) 0) (refused (read_refusal e from (parse bytes))) (taken_alike (parse bytes))))))

  -- a packet's number and the box after it do not hang on the interface
  pub any_interface : (buf_size : ℕ)
      → (outcome_number (step e (packet i from bytes now buf_size)) ≡ outcome_number (step e (packet j from bytes now buf_size))) × (next e (step e (packet i from bytes now buf_size)) ≡ next e (step e (packet j from bytes now buf_size)))
  any_interface buf_size = ((packet_alike buf_size).answer, (packet_alike buf_size).box)

ids_ascend : {ps : List Peer} → Ascending peer_key ps → Ascending (λ (n : NodeId). n.0) (map (λ p. p.id) ps)
ids_ascend none_left = none_left
ids_ascend (more a as') = more (each_map (λ (p : Peer). p.id) (λ p l. l) a) (ids_ascend as')

module _ (e : Box) where
  counted_held : Each (λ p. HeldInSession e p.id) (peers_in e.session_id e.peers)
  unfolding peers_in
  counted_held =
      each₂ (λ p m t. record { one = p; held = m; id = refl; session = is_node_true _ _ t })
      (each_keep (in_session e.session_id) (each_of_mem e.peers (λ p m. m))) (each_kept (in_session e.session_id) e.peers (λ p t. t))

  held_counted : (n : NodeId) → HeldInSession e n → Memᴰ n (map (λ p. p.id) (peers_in e.session_id e.peers))
  unfolding peers_in
  held_counted n h =
      subst (λ (x : NodeId). Memᴰ x (map (λ p. p.id) (peers_in e.session_id e.peers))) h.id
      (mem_map (λ (p : Peer). p.id) h.one (mem_keep (in_session e.session_id) h.one h.held (is_node_yes _ _ h.session)))

-- over any list of calls the count told is that of the others in session, each counted once
pub others_counted_once : (a : NodeId) (cs : List Call) → CountsOthers (run (new a) cs) (told 0 (new a) cs)
unfolding peers_in
others_counted_once a cs =
    let e : Box = run (new a) cs in
    record {
      others = map (λ p. p.id) (peers_in e.session_id e.peers);
      number = told_count a cs ∙ sym (length-map (peers_in e.session_id e.peers) (λ p. p.id));
      each_once = ids_ascend (counted_once a cs);
      each_held = each_map (λ (p : Peer). p.id) (λ p h. h) (counted_held e);
      all_held = held_counted e;
      not_oneself = each_map (λ (p : Peer). p.id) (λ p d. d) (each_keep (in_session e.session_id) (never_oneself a cs));
    }

ascending_distinct : {ns : List NodeId} → Ascending (λ (n : NodeId). n.0) ns → Distinct ns
ascending_distinct none_left = no_more
ascending_distinct (more {x = n} a as') = and_another (each (λ m (l : n.0 < m.0) h. let k : m.0 ≡ n.0 = ap (λ (i : NodeId). i.0) h in omega arith) a) (ascending_distinct as')

-- over any list of calls that leaves the box on, there is one more in its session than the count told: the box itself
pub boxes_in_session : (a : NodeId) (cs : List Call) → (run (new a) cs).enabled ≡ true → CountsAllButOne (run (new a) cs) (told 0 (new a) cs)
boxes_in_session a cs on =
    let e : Box = run (new a) cs in
    let c : CountsOthers e (told 0 (new a) cs) = others_counted_once a cs in
    record {
      boxes = e.node_id ∷ c.others;
      number = omega (arith, c.number);
      each_once = and_another c.not_oneself (ascending_distinct c.each_once);
      each_in = oneself on refl ▸ each (λ n h. another h) c.each_held;
      all_in = found_there e c.others c.all_held;
    }
  where
    found_there : (e : Box) (others : List NodeId) → ((n : NodeId) → HeldInSession e n → Memᴰ n others) → (n : NodeId) → InSession e n → Memᴰ n (e.node_id ∷ others)
    found_there e others all n (oneself on is) = Memᴰ.head is
    found_there e others all n (another h) = Memᴰ.tail (all n h)

-- ---- one box on two interfaces

module _ (a : NodeId) (cs : List Call) (bytes bytes' : List ℕ) (m m' : AliveMsg) (says : parse bytes ≡ alive_said m) (says' : parse bytes' ≡ alive_said m') (same : m'.node_id ≡ m.node_id)
    (iface iface' : ℕ) (from from' : SocketAddrPlain) (now now' : HostTime) (buf_size buf_size' : ℕ) (e₁ e₂ : Box) (os₁ os₂ : List Output)
    (once : step (run (new a) cs) (packet iface from bytes now buf_size) ≡ done e₁ os₁) (again : step e₁ (packet iface' from' bytes' now' buf_size') ≡ done e₂ os₂) where
  abbrev both : List Call
  both = packet iface from bytes now buf_size ∷ packet iface' from' bytes' now' buf_size' ∷ []

  led_there : run (new a) (cs ++ both) ≡ e₂
  unfolding run
  led_there = run_append (new a) cs both ∙ ap (λ (o : Outcome). run (next (run (new a) cs) o) (packet iface' from' bytes' now' buf_size' ∷ [])) once ∙ ap (next e₁) again

  was_held : (n : NodeId) → HeldInSession e₂ n → Memᴰ n.0 (ids e₁.peers)
  was_held n h =
      announced_twice a cs bytes bytes' m m' says says' same iface iface' from from' now buf_size e₁ os₁ once now' buf_size' e₂ os₂ again n.0
      (subst (λ (x : NodeId). Memᴰ x.0 (ids e₂.peers)) h.id (mem_map peer_key h.one h.held))

  -- After any calls a node announces itself on one interface and then on another, from any addresses, with any contents: the count told counts each other box
  -- once, and none that the first announcement did not leave held.
  pub counted_once_over_interfaces : (c : CountsOthers e₂ (told 0 (new a) (cs ++ both))) × Each (λ n. Memᴰ n.0 (ids e₁.peers)) c.others
  counted_once_over_interfaces =
      let c : CountsOthers e₂ (told 0 (new a) (cs ++ both)) = subst (λ (e : Box). CountsOthers e (told 0 (new a) (cs ++ both))) led_there (others_counted_once a (cs ++ both)) in
      (c, each was_held c.each_held)
