-- How often a neighbour is asked, in packets: the tally of `Silent` counts those that `Pings` finds among the outputs.
use Rattle.std.specs.Prelude.{ℕ, suc, ◌<◌, ◌≤◌, ◌≡◌, refl, Bool, true, false, cond, length, Option, Some, None}
use Rattle.std.proofs.Common.{arith, sym, ap, ◌∙◌, subst, length-append, eqb-true, ne_eqb}
use mathlib.Core.List.{List, [], ◌∷◌, map, Memᴰ}
use Rattle.std.proofs.lemmas.List.{length-map}
use Rattle.time.specs.declared.HostTime.{HostTime}
use Rattle.wire.specs.declared.NodeId.{NodeId}
use Rattle.wire.specs.declared.SocketAddrPlain.{SocketAddrPlain}
use Rattle.wire.specs.declared.DiscoveryMsg.TheVariants.{Alive, ByeBye}
use Rattle.wire.specs.declared.MeasurementMsg.TheVariants.{Ping, Pong}
use Rattle.wire.specs.declared.Message.TheVariants.{Discovery, Measurement}
use Rattle.wire.specs.Parse.{parse}
use Rattle.wire.specs.Same.{same_addr}
use Rattle.lists.specs.Lists.{first, keep, has_key, without}
use Rattle.model.specs.Peers.{Peer, Interface, peer_key}
use Rattle.model.specs.Engine.{Box, new, with_peers}
use Rattle.model.specs.Produce.{asks}
use Rattle.model.specs.Packet.{Arrival, handle_alive_of, handle_alive, handle_byebye, handle_ping, moved, measured, after_pong, handle_pong_of, handle_pong, unchanged, handle_message, owns}
use Rattle.model.specs.Calls.{Call, packet, tick, commit, switch, interface_added, interface_removed, io_error, Outcome, refused, done, next, step, run, outputs_of}
use Rattle.model.specs.Laws.Calls.Messages.{arrived, pong_msg}
use Rattle.lists.specs.Laws.Bools.{split, cond-true, cond-false}
use Rattle.lists.specs.Laws.Each.{Each, each, each_keep, Ascending, none_left, more, ascending_change, ascending_keep, ascending_upsert}
use Rattle.lists.specs.Laws.ListLaws.{keep_none, keep_alike}
use Rattle.model.specs.Laws.Calls.Reach.{Reached}
use Rattle.model.proofs.Laws.Calls.Reach.{reached, reached_step}
use Rattle.model.specs.Laws.Clerk.Neighbours.{runs_upkeep, call_time, heard}
use Rattle.model.specs.Laws.Clerk.Silent.{asks_held, asked_by, asked, asked_over, Unreset}
use Rattle.model.proofs.Laws.Clerk.Silent.{five_asks}
use Rattle.model.specs.Laws.Clerk.Pings.{ask, asked_in, asked_ones, asks_at}
use Rattle.model.proofs.Laws.Clerk.Pings.{asks_sent_at}
use Rattle.model.specs.Laws.Clerk.Asked.{asked_as, asks_to}
use Rattle.wire.specs.declared.Message.{Message}

-- ---- the neighbours as upkeep begins are ordered by id

message_ascends : (e : Box) (a : Arrival) (bytes : List ℕ) (m : Option Message) → Ascending peer_key e.peers
    → Ascending peer_key (handle_message e a bytes m).box.peers
unfolding handle_message unchanged handle_alive handle_alive_of handle_byebye handle_ping handle_pong handle_pong_of with_peers without after_pong measured moved
message_ascends e a bytes None asc = asc
message_ascends e a bytes (Some (Discovery (Alive node timeline start_stop session mep4))) asc = ascending_upsert peer_key _ asc
message_ascends e a bytes (Some (Discovery (ByeBye node))) asc = ascending_keep peer_key _ asc
message_ascends e a bytes (Some (Measurement (Ping time prev))) asc = asc
message_ascends e a bytes (Some (Measurement (Pong session b2 a2 b1))) asc = go (first (owns a.from) e.peers)
  where
    go : (o : Option Peer) → Ascending peer_key (handle_pong_of e a (pong_msg session b2 a2 b1) o).box.peers
    go None = asc
    go (Some p) = ascending_change peer_key _ (after_pong (pong_msg session b2 a2 b1) a.now) (λ q t. refl) asc

heard_ascends : (e : Box) (c : Call) → Ascending peer_key e.peers → Ascending peer_key (heard e c)
heard_ascends e (packet iface from bytes now buf_size) asc = message_ascends e (arrived iface from now) bytes (parse bytes) asc
heard_ascends e (tick now buf_size) asc = asc
heard_ascends e (commit s now buf_size) asc = asc
heard_ascends e (switch b now buf_size) asc = asc
heard_ascends e (interface_added iface addr) asc = asc
heard_ascends e (interface_removed iface) asc = asc
heard_ascends e (io_error iface error) asc = asc

-- ---- one call

-- of ordered neighbours that are asked, at most one has this id
tally : (now : HostTime) (k : ℕ) {ps : List Peer} → Ascending peer_key ps → length (keep (has_key peer_key k) (keep (asks now) ps)) ≡ asks_held now (first (has_key peer_key k) ps)
unfolding keep first
tally now k none_left = refl
tally now k (more {x = p} {xs = ps} above asc) = split (has_key peer_key k p)
    (λ t. of_itself t (asks now p) ∙ sym (ap (asks_held now) (cond-true (Some p) (first (has_key peer_key k) ps) t)))
    (λ t. of_another t (asks now p) ∙ tally now k asc ∙ sym (ap (asks_held now) (cond-false (Some p) (first (has_key peer_key k) ps) t)))
  where
    -- none behind it has its id
    none_behind : peer_key p ≡ k → keep (has_key peer_key k) (keep (asks now) ps) ≡ []
    none_behind is = keep_none (has_key peer_key k) (each_keep (asks now) (each (λ q (l : peer_key p < peer_key q). ne_eqb (peer_key q) k (λ (f : peer_key q ≡ k). omega arith)) above))

    of_itself : has_key peer_key k p ≡ true → (t : Bool) → length (keep (has_key peer_key k) (cond t (p ∷ keep (asks now) ps) (keep (asks now) ps))) ≡ cond t 1 0
    of_itself h true = ap length (cond-true _ _ h) ∙ ap (λ (qs : List Peer). suc (length qs)) (none_behind (eqb-true _ _ h))
    of_itself h false = ap length (none_behind (eqb-true _ _ h))

    of_another : has_key peer_key k p ≡ false → (t : Bool)
        → length (keep (has_key peer_key k) (cond t (p ∷ keep (asks now) ps) (keep (asks now) ps))) ≡ length (keep (has_key peer_key k) (keep (asks now) ps))
    of_another h true = ap length (cond-false _ _ h)
    of_another h false = refl

-- is there as often as the tally counts
pub tally_counts : (n : NodeId) (e : Box) → Ascending peer_key e.peers → (c : Call) → length (asked_as n e c) ≡ asked n e c
unfolding keep
tally_counts n e asc c = go (step e c)
  where
    by_upkeep : (t : Bool) → length (keep (has_key peer_key n.0) (cond t (keep (asks (call_time c)) (heard e c)) [])) ≡ cond t (asks_held (call_time c) (first (has_key peer_key n.0) (heard e c))) 0
    by_upkeep true = tally (call_time c) n.0 (heard_ascends e c asc)
    by_upkeep false = refl

    go : (o : Outcome) → length (keep (has_key peer_key n.0) (asked_in e c o)) ≡ asked_by n e c o
    go (refused k) = refl
    go (done e' os) = by_upkeep (runs_upkeep e c)

-- and where an address is n's alone among those asked, so many are sent to it on each interface
pub asked_in_packets : (a : NodeId) (cs : List Call) (c : Call) (i : Interface) → Memᴰ i (run (new a) cs).interfaces → (n : NodeId) (addr : SocketAddrPlain)
    → Each (λ p. same_addr p.addr addr ≡ has_key peer_key n.0 p) (asked_ones (run (new a) cs) c)
    → length (keep (asks_at i.id addr) (outputs_of (step (run (new a) cs) c))) ≡ asked n (run (new a) cs) c
asked_in_packets a cs c i m n addr own =
    let e : Box = run (new a) cs in
    ap length (asks_sent_at e (reached a cs).ascending_interfaces c i m addr) ∙ length-map (keep (λ p. same_addr p.addr addr) (asked_ones e c)) (λ p. ask (call_time c) p i)
    ∙ ap length (keep_alike (λ p. same_addr p.addr addr) (has_key peer_key n.0) own) ∙ tally_counts n e (reached a cs).ascending_peers c

sent_as_counted : (a n : NodeId) (i : Interface) (e : Box) → Reached a e → (cs : List Call) → length (asks_to n i e cs) ≡ asked_over n e cs
unfolding asks_to asked_over
sent_as_counted a n i e r [] = refl
sent_as_counted a n i e r (c ∷ cs) =
    omega (
      arith,
      length-append (map (λ p. ask (call_time c) p i) (asked_as n e c)) (asks_to n i (next e (step e c)) cs),
      length-map (asked_as n e c) (λ p. ask (call_time c) p i),
      tally_counts n e r.ascending_peers c,
      sent_as_counted a n i (next e (step e c)) (reached_step a e r c) cs,
    )

-- a neighbour that nothing resets is sent at most five on each interface
pub five_asks_sent : (a : NodeId) (cs : List Call) (n : NodeId) (i : Interface) (ds : List Call) → Unreset n (run (new a) cs) ds → length (asks_to n i (run (new a) cs) ds) ≤ 5
five_asks_sent a cs n i ds un = subst (λ (k : ℕ). k ≤ 5) (sym (sent_as_counted a n i (run (new a) cs) (reached a cs) ds)) (five_asks a cs n ds un)
