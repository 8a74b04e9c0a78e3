-- Where the neighbours after a call come from, and when each was last seen.
use Rattle.std.specs.Prelude.{ℕ, ◌≡◌, refl, ◌⊎◌, true, Option, Some, None}
use Rattle.std.proofs.Common.{sym, subst, inl, eq-eqb}
use Rattle.std.proofs.Math.Logic.{inr}
use mathlib.Core.List.{List, []}
use Rattle.wire.specs.declared.DiscoveryMsg.TheVariants.{Alive, ByeBye}
use Rattle.wire.specs.declared.MeasurementMsg.TheVariants.{Ping, Pong}
use Rattle.wire.specs.declared.Message.TheVariants.{Discovery, Measurement}
use Rattle.wire.specs.Parse.{parse}
use Rattle.lists.specs.Lists.{first, without}
use Rattle.model.specs.Peers.{Peer, peer_key}
use Rattle.model.specs.Engine.{Box, Output, with_peers}
use Rattle.model.specs.Produce.{after_ping, recent}
use Rattle.model.specs.Packet.{Arrival, after_alive, handle_alive_of, handle_alive, handle_byebye, handle_ping, PongMsg, moved, measured, after_pong, handle_pong_of, handle_pong, unchanged, handle_message, owns}
use Rattle.model.specs.Calls.{Call, packet, tick, commit, switch, interface_added, interface_removed, io_error, done, step}
use Rattle.model.specs.Laws.Calls.Messages.{arrived, pong_msg}
use Rattle.lists.specs.Laws.Bools.{by_cond}
use Rattle.lists.specs.Laws.Each.{Each, nil, each, each_of_mem, each_keep, each_map, each_change, each_upsert_any}
use Rattle.model.proofs.Laws.Calls.Kept.{sender_key}
use Rattle.model.specs.Laws.Clerk.Neighbours.{runs_upkeep, goes_off, call_time, heard}
use Rattle.model.proofs.Laws.Clerk.Neighbours.{accepted_peers}
use Rattle.model.specs.Laws.Clerk.Staying.{says_alive}
use Rattle.model.specs.Laws.Clerk.Seen.{HeldAs, SeenBy}
use Rattle.wire.specs.declared.Message.{Message}

all_held : (ps : List Peer) → Each (λ q. HeldAs ps q.id q.last_seen) ps
all_held ps = each_of_mem ps (λ q m. record { peer = q; there = m; id = refl; seen = refl })

module _ (e : Box) (a : Arrival) (bytes : List ℕ) where
  pong_seen : (m : PongMsg) (o : Option Peer) → Each (λ q. HeldAs e.peers q.id q.last_seen) (handle_pong_of e a m o).box.peers
  unfolding handle_pong_of unchanged with_peers after_pong measured moved
  pong_seen m None = all_held e.peers
  pong_seen m (Some x) = each_change (owns a.from) (after_pong m a.now) (λ y t k. k) (all_held e.peers)

  message_seen : (m : Option Message) → Each (λ q. ((says_alive q.id m ≡ true) × (q.last_seen ≡ a.now)) ⊎ HeldAs e.peers q.id q.last_seen) (handle_message e a bytes m).box.peers
  unfolding handle_message unchanged handle_alive handle_alive_of handle_byebye handle_ping handle_pong with_peers without after_alive
  message_seen None = each (λ q k. inr k) (all_held e.peers)
  message_seen (Some (Discovery (Alive node timeline start_stop session mep4))) =
      each_upsert_any peer_key _ (inl (eq-eqb _ _ (sender_key node a.from a.now e.peers), refl)) (each (λ q k. inr k) (all_held e.peers))
  message_seen (Some (Discovery (ByeBye node))) = each_keep _ (each (λ q k. inr k) (all_held e.peers))
  message_seen (Some (Measurement (Ping time prev))) = each (λ q k. inr k) (all_held e.peers)
  message_seen (Some (Measurement (Pong session b2 a2 b1))) = each (λ q k. inr k) (pong_seen (pong_msg session b2 a2 b1) (first (owns a.from) e.peers))

heard_seen : (e : Box) (c : Call) → Each (λ q. SeenBy e c q.id q.last_seen) (heard e c)
heard_seen e (packet iface from bytes now buf_size) = message_seen e (arrived iface from now) bytes (parse bytes)
heard_seen e (tick now buf_size) = each (λ q k. inr k) (all_held e.peers)
heard_seen e (commit s now buf_size) = each (λ q k. inr k) (all_held e.peers)
heard_seen e (switch t now buf_size) = each (λ q k. inr k) (all_held e.peers)
heard_seen e (interface_added iface addr) = each (λ q k. inr k) (all_held e.peers)
heard_seen e (interface_removed iface) = each (λ q k. inr k) (all_held e.peers)
heard_seen e (io_error iface error) = each (λ q k. inr k) (all_held e.peers)

pub each_seen : (e : Box) (c : Call) (e' : Box) (os : List Output) → step e c ≡ done e' os → Each (λ q. SeenBy e c q.id q.last_seen) e'.peers
unfolding after_ping
each_seen e c e' os h = subst (Each (λ q. SeenBy e c q.id q.last_seen)) (sym (accepted_peers e c e' os h))
    (by_cond (Each (λ q. SeenBy e c q.id q.last_seen)) (runs_upkeep e c) _ _
    (λ r. each_keep (recent (call_time c)) (each_map (after_ping (call_time c)) (λ p k. k) (heard_seen e c)))
    (λ r. by_cond (Each (λ q. SeenBy e c q.id q.last_seen)) (goes_off e c) [] e.peers (λ t. nil) (λ t. each (λ q k. inr k) (all_held e.peers))))
