-- How a call ends, by cases, and what its stages leave as it is: every law over all calls goes through here.
use Rattle.std.specs.Prelude.{ℕ, ◌≤◌, ◌≡◌, Bool, ◌&&◌, cond, eqb, ltb, ℤ, pos, negsuc, length, Option, Some, None}
use Rattle.std.proofs.Common.{arith, sym, ap, ◌∙◌, SFits, eqb-true, ltb-false, leb-true}
use Rattle.std.proofs.Math.Path.{refl, subst}
use Rattle.std.proofs.Math.Bool.{true, false, not, beq}
use mathlib.Core.List.{List, [], ◌∷◌, ◌++◌}
use Rattle.std.proofs.Math.Dec.{leb}
use Rattle.std.specs.Int.Signed.{le_z}
use Rattle.std.specs.Int.{w64}
use Rattle.signed.specs.Laws.Tests.{both}
use Rattle.time.specs.declared.HostTime.{HostTime}
use Rattle.timeline.specs.declared.SessionState.{SessionState}
use Rattle.timeline.specs.Same.{same_state}
use Rattle.wire.specs.declared.DiscoveryMsg.TheVariants.{Alive, ByeBye}
use Rattle.wire.specs.declared.MeasurementMsg.TheVariants.{Ping, Pong}
use Rattle.wire.specs.declared.Message.TheVariants.{Discovery, Measurement}
use Rattle.wire.specs.Parse.{parse}
use Rattle.lists.specs.Lists.{found, first, has_key, upsert}
use Rattle.model.specs.Peers.{Peer, Interface, interface_key}
use Rattle.model.specs.Engine.{Box, Produced, Output, state_changed, with_state, with_interfaces, with_peers, with_num_session_peers, with_next_broadcast}
use Rattle.model.specs.Election.{resolve_to, resolved, resolve_if}
use Rattle.model.specs.Produce.{after_broadcast, after_pings, lapse, upkeep, produce_outputs}
use Rattle.model.specs.Laws.Calls.Messages.{pong_msg}
use Rattle.model.specs.Laws.Calls.Stages.{polled, settled, upkeep_box, upkeep_outputs, upkeep_is}
use Rattle.model.specs.Packet.{Arrival, unchanged, handle_alive_of, handle_alive, handle_byebye, handle_ping, handle_pong_of, handle_pong, handle_message, owns}
use Rattle.model.specs.Commit.{taken}
use Rattle.model.specs.Calls.{Outcome, refused, done, admit, then_produce, take_message, read_refusal, unless_refused, handle_read, handle_packet, committed, commit_app_state, switch_on, switch_off, set_enabled, add_interface, hears}
use Rattle.lists.specs.Laws.Bools.{split, by_cond, clash, cond-true, cond-false}
use Rattle.wire.specs.declared.Message.{Message}

-- ---- a call by cases

-- a time from 0 to 10^15 is one of 64 bits
admitted_fits : (t : ℤ) → le_z (pos 0) t && le_z t (pos 1_000_000_000_000_000) ≡ true → SFits w64 t
admitted_fits (pos n) e = let l : n ≤ 1_000_000_000_000_000 = leb-true n 1_000_000_000_000_000 (both (le_z (pos 0) (pos n)) (le_z (pos n) (pos 1_000_000_000_000_000)) e).1 in record { sfits = omega arith }
admitted_fits (negsuc n) e = clash (sym e)

-- what holds of every refusal, and of each way a call can be done
module _ (P : Outcome → Type 0) (TurnedDown : (n : ℕ) → P (refused n)) where
  pub by_admit : (now : HostTime) (buf_size : ℕ) (o : Outcome) → (SFits w64 now.0 → P o) → P (admit now buf_size o)
  unfolding admit
  by_admit now buf_size o h =
      by_cond P (le_z (pos 0) now.0 && le_z now.0 (pos 1_000_000_000_000_000)) (cond (ltb buf_size 4096) (refused 2) o) (refused 1)
      (λ t. by_cond P (ltb buf_size 4096) (refused 2) o (λ u. TurnedDown 2) (λ u. h (admitted_fits now.0 t))) (λ t. TurnedDown 1)

  module _ (e : Box) (idle : P (done e [])) where
    pub by_packet : (a : Arrival) (bytes : List ℕ)
        → (length bytes ≤ 512 → e.enabled ≡ true → read_refusal e a.from (parse bytes) ≡ 0 → P (take_message e a bytes (parse bytes)))
        → P (handle_packet e a bytes)
    unfolding handle_packet handle_read
    by_packet a bytes h =
        by_cond P (ltb 512 (length bytes)) (refused 3) (handle_read e a bytes (parse bytes)) (λ t. TurnedDown 3)
        (λ t. by_cond P (hears e (parse bytes)) (unless_refused (read_refusal e a.from (parse bytes)) (take_message e a bytes (parse bytes))) (done e [])
        (λ u. by_cond P (eqb (read_refusal e a.from (parse bytes)) 0) (take_message e a bytes (parse bytes)) (refused (read_refusal e a.from (parse bytes)))
        (λ f. h (ltb-false _ _ t) (both _ _ u).0 (eqb-true _ _ f)) (λ f. TurnedDown _)) (λ u. idle))

    pub by_commit : (s : SessionState) (now : HostTime) → P (then_produce (state_changed (taken e s) ∷ []) now (committed e s now)) → P (commit_app_state e s now)
    unfolding commit_app_state
    by_commit s now h = by_cond P (same_state e.state s) (done e []) (then_produce (state_changed (taken e s) ∷ []) now (committed e s now)) (λ t. idle) (λ t. h)

    pub by_switch : (enabled : Bool) (now : HostTime) → (e.enabled ≡ false → P (switch_on e now)) → (e.enabled ≡ true → P (switch_off e)) → P (set_enabled e enabled now)
    unfolding set_enabled
    by_switch enabled now f g =
        by_cond P (beq e.enabled enabled) (done e []) (cond enabled (switch_on e now) (switch_off e)) (λ t. idle) (λ t. go enabled t)
      where
        other : (a b : Bool) → beq a b ≡ false → a ≡ not b
        other true true t = clash t
        other true false t = refl
        other false true t = refl
        other false false t = clash t

        go : (b : Bool) → beq e.enabled b ≡ false → P (cond b (switch_on e now) (switch_off e))
        go true t = f (other e.enabled true t)
        go false t = g (other e.enabled false t)

  pub by_add : (e : Box) (i : Interface)
      → (not (found (first (has_key interface_key i.id) e.interfaces)) && leb 4 (length e.interfaces) ≡ false → P (done (with_interfaces (upsert interface_key i e.interfaces) e) []))
      → P (add_interface e i.id i.addr)
  unfolding add_interface
  by_add e i h =
      by_cond P (not (found (first (has_key interface_key i.id) e.interfaces)) && leb 4 (length e.interfaces)) (refused 6)
      (done (with_interfaces (upsert interface_key i e.interfaces) e) []) (λ t. TurnedDown 6) h

  -- upkeep of an enabled box and of a disabled one
  pub by_produce : (os : List Output) (now : HostTime) (e : Box)
      → (e.enabled ≡ true → P (done (upkeep_box now e) (os ++ upkeep_outputs now e))) → (e.enabled ≡ false → P (done e (os ++ []))) → P (then_produce os now e)
  unfolding then_produce produce_outputs
  by_produce os now e f g =
      by_cond (λ (x : Produced). P (done x.box (os ++ x.outputs))) e.enabled (upkeep now e) (record { box = e; outputs = [] })
      (λ on. subst (λ (x : Produced). P (done x.box (os ++ x.outputs))) (sym (upkeep_is now e)) (f on)) g

-- ---- what a stage leaves as it is

-- a message changes the neighbours only
pub message_peers : (e : Box) (a : Arrival) (bytes : List ℕ) (m : Option Message)
    → (handle_message e a bytes m).box ≡ with_peers (handle_message e a bytes m).box.peers e
unfolding handle_message unchanged handle_alive handle_alive_of handle_byebye handle_ping handle_pong handle_pong_of with_peers
message_peers e a bytes None = refl
message_peers e a bytes (Some (Discovery (Alive node timeline start_stop session mep4))) = refl
message_peers e a bytes (Some (Discovery (ByeBye node))) = refl
message_peers e a bytes (Some (Measurement (Ping time prev))) = refl
message_peers e a bytes (Some (Measurement (Pong session b2 a2 b1))) = go (first (owns a.from) e.peers)
  where
    go : (o : Option Peer) → (handle_pong_of e a (pong_msg session b2 a2 b1) o).box ≡ with_peers (handle_pong_of e a (pong_msg session b2 a2 b1) o).box.peers e
    go None = refl
    go (Some p) = refl

-- an election changes neither list
pub resolve_if_peers : (t : Bool) (now : HostTime) (e : Box) → (resolve_if t now e).box.peers ≡ e.peers
unfolding resolve_if resolved resolve_to
resolve_if_peers true now e = refl
resolve_if_peers false now e = refl

pub resolve_if_interfaces : (t : Bool) (now : HostTime) (e : Box) → (resolve_if t now e).box.interfaces ≡ e.interfaces
unfolding resolve_if resolved resolve_to
resolve_if_interfaces true now e = refl
resolve_if_interfaces false now e = refl

pub resolve_if_enabled : (t : Bool) (now : HostTime) (e : Box) → (resolve_if t now e).box.enabled ≡ e.enabled
unfolding resolve_if resolved resolve_to
resolve_if_enabled true now e = refl
resolve_if_enabled false now e = refl

pub resolve_if_node : (t : Bool) (now : HostTime) (e : Box) → (resolve_if t now e).box.node_id ≡ e.node_id
unfolding resolve_if resolved resolve_to
resolve_if_node true now e = refl
resolve_if_node false now e = refl

pub resolve_if_count : (t : Bool) (now : HostTime) (e : Box) → (resolve_if t now e).box.num_session_peers ≡ e.num_session_peers
unfolding resolve_if resolved resolve_to
resolve_if_count true now e = refl
resolve_if_count false now e = refl

pub message_count : (e : Box) (a : Arrival) (bytes : List ℕ) (m : Option Message) → (handle_message e a bytes m).box.num_session_peers ≡ e.num_session_peers
unfolding with_peers
message_count e a bytes m = ap (λ (x : Box). x.num_session_peers) (message_peers e a bytes m)

pub message_interfaces : (e : Box) (a : Arrival) (bytes : List ℕ) (m : Option Message) → (handle_message e a bytes m).box.interfaces ≡ e.interfaces
unfolding with_peers
message_interfaces e a bytes m = ap (λ (x : Box). x.interfaces) (message_peers e a bytes m)

pub message_enabled : (e : Box) (a : Arrival) (bytes : List ℕ) (m : Option Message) → (handle_message e a bytes m).box.enabled ≡ e.enabled
unfolding with_peers
message_enabled e a bytes m = ap (λ (x : Box). x.enabled) (message_peers e a bytes m)

pub message_node : (e : Box) (a : Arrival) (bytes : List ℕ) (m : Option Message) → (handle_message e a bytes m).box.node_id ≡ e.node_id
unfolding with_peers
message_node e a bytes m = ap (λ (x : Box). x.node_id) (message_peers e a bytes m)

pub produce_on : (now : HostTime) (e : Box) → e.enabled ≡ true → produce_outputs now e ≡ record { box = upkeep_box now e; outputs = upkeep_outputs now e }
unfolding produce_outputs
produce_on now e on = cond-true _ _ on ∙ upkeep_is now e

pub produce_off : (now : HostTime) (e : Box) → e.enabled ≡ false → produce_outputs now e ≡ record { box = e; outputs = [] }
unfolding produce_outputs
produce_off now e off = cond-false _ _ off

-- upkeep changes neither the interfaces nor the switch nor the node
pub settled_interfaces : (now : HostTime) (e : Box) → (settled now e).box.interfaces ≡ e.interfaces
unfolding settled lapse polled after_pings after_broadcast with_peers with_next_broadcast
settled_interfaces now e = resolve_if_interfaces _ now _

pub settled_enabled : (now : HostTime) (e : Box) → (settled now e).box.enabled ≡ e.enabled
unfolding settled lapse polled after_pings after_broadcast with_peers with_next_broadcast
settled_enabled now e = resolve_if_enabled _ now _

pub settled_count : (now : HostTime) (e : Box) → (settled now e).box.num_session_peers ≡ e.num_session_peers
unfolding settled lapse polled after_pings after_broadcast with_peers with_next_broadcast
settled_count now e = resolve_if_count _ now _

pub settled_node : (now : HostTime) (e : Box) → (settled now e).box.node_id ≡ e.node_id
unfolding settled lapse polled after_pings after_broadcast with_peers with_next_broadcast
settled_node now e = resolve_if_node _ now _

pub settled_peers : (now : HostTime) (e : Box) → (settled now e).box.peers ≡ (lapse now (polled now e)).peers
unfolding settled
settled_peers now e = resolve_if_peers _ now _

pub produce_interfaces : (now : HostTime) (e : Box) → (produce_outputs now e).box.interfaces ≡ e.interfaces
unfolding upkeep_box with_num_session_peers
produce_interfaces now e = split e.enabled (λ on. ap (λ (x : Produced). x.box.interfaces) (produce_on now e on) ∙ settled_interfaces now e) (λ off. ap (λ (x : Produced). x.box.interfaces) (produce_off now e off))

-- a commit changes the state and the next broadcast
pub committed_interfaces : (e : Box) (s : SessionState) (now : HostTime) → (committed e s now).interfaces ≡ e.interfaces
unfolding committed with_state with_next_broadcast
committed_interfaces e s now = by_cond (λ (x : Box). x.interfaces ≡ e.interfaces) e.enabled (with_next_broadcast now (with_state (taken e s) e)) (with_state (taken e s) e) (λ on. refl) (λ off. refl)

pub produce_node : (now : HostTime) (e : Box) → (produce_outputs now e).box.node_id ≡ e.node_id
unfolding upkeep_box with_num_session_peers
produce_node now e = split e.enabled (λ on. ap (λ (x : Produced). x.box.node_id) (produce_on now e on) ∙ settled_node now e) (λ off. ap (λ (x : Produced). x.box.node_id) (produce_off now e off))

pub committed_node : (e : Box) (s : SessionState) (now : HostTime) → (committed e s now).node_id ≡ e.node_id
unfolding committed with_state with_next_broadcast
committed_node e s now = by_cond (λ (x : Box). x.node_id ≡ e.node_id) e.enabled (with_next_broadcast now (with_state (taken e s) e)) (with_state (taken e s) e) (λ on. refl) (λ off. refl)

pub committed_count : (e : Box) (s : SessionState) (now : HostTime) → (committed e s now).num_session_peers ≡ e.num_session_peers
unfolding committed with_state with_next_broadcast
committed_count e s now = by_cond (λ (x : Box). x.num_session_peers ≡ e.num_session_peers) e.enabled (with_next_broadcast now (with_state (taken e s) e)) (with_state (taken e s) e) (λ on. refl) (λ off. refl)
