-- From what is said of a neighbour's row to what is said of the box.
use Rattle.std.specs.Prelude.{ℕ, ◌<◌, ◌≤◌, ◌≡◌, refl, Bool, true, ◌&&◌, ◌||◌, not, List, ℤ, length, drop, Option, Some, None, unwrap_or, Ok, Err}
use Rattle.std.proofs.Common.{arith, subst, ◌∙◌}
use Rattle.std.proofs.Math.Path.{sym, ap}
use Rattle.std.proofs.Math.Bool.{false, cond}
use Rattle.std.proofs.Math.Dec.{leb}
use borrow.Author.Tests.{eqb-true, le-leb, lt-leb}
use Rattle.time.specs.declared.HostTime.{HostTime}
use Rattle.wire.specs.declared.SocketAddrPlain.{SocketAddrPlain}
use Rattle.lists.specs.Lists as lists
use Rattle.lists.specs.Lists.{found, first, insert, has_key, upsert}
use Rattle.model.specs.Peers.{Peer, peer_key, new_peer}
use Rattle.model.specs.Engine.{Box, Output, with_peers}
use Rattle.model.specs.Packet as packet
use Rattle.model.specs.Calls.{sampled_before}
use Rattle.lists.specs.Inner.Places.{place_of}
use Rattle.lists.specs.Laws.Found.{missing, put_new}
use Rattle.interface_map.specs.declared.Interfaces.{Interfaces}
use Rattle.peer_table.specs.Rows.{peer_at, peers_of}
use Rattle.peer_table.specs.Inner.Changed.{Changed}
use Rattle.peer_table.specs.Laws.Peers.{length_peers}
use Rattle.peer_walks.specs.Laws.Placed.{found_first, found_changed, found_put}
use Rattle.engine_state.specs.declared.OwnState.{OwnState}
use Rattle.answer.specs.Inner.Planned.{reply_outputs}
use Rattle.messages.specs.declared.Arrival.{Arrival}
use Rattle.messages.specs.declared.Heard.{Heard}
use Rattle.messages.specs.declared.Refusal.{Refusal}
use Rattle.messages.specs.declared.Refusal.TheVariants.{PeersFull, PongDoubled}
use Rattle.messages.specs.Inner.Heard.{arrival_of, box_of, heard, number_of, Tells, Takes, Does, HearsAlive, HearsPong}
use Rattle.messages.specs.Laws.Owner.{holds}

abbrev handling : Box → List Output → Bool → packet.Handled
handling e os needs = record { box = e; outputs = os; needs_resolution = needs }

-- where the neighbours are those of h, all is as in h
pub told : (r : Heard) (count : ℕ) (w : List ℕ) (l : List ℤ) (e : Box) (h : packet.Handled) → Tells r count h → with_peers (peers_of count w l) e ≡ h.box → Takes r w l e (λ _. h)
unfolding heard
told r count w l e h t same = record {
  agrees = λ bytes.
      ap (λ b. handling b (reply_outputs (drop 9 bytes) r.reply) r.needs_resolution) (ap (λ (n : ℕ). with_peers (peers_of n w l) e) t.counts ∙ same)
      ∙ ap (λ os. handling h.box os r.needs_resolution) (t.packet (drop 9 bytes))
      ∙ ap (λ n. handling h.box h.outputs n) t.decision;
}

-- where all is as it was
pub nothing_told : (count : ℕ) (w : List ℕ) (l : List ℤ) (own : OwnState) (is : Interfaces) → let e = box_of own is (peers_of count w l) in Takes (record { count = count; reply = None; needs_resolution = false }) w l e (λ _. packet.unchanged e)
unfolding heard box_of with_peers reply_outputs packet.unchanged
nothing_told count w l own is = record { agrees = λ bytes. refl }

-- a message that is taken
pub taking : (r : Heard) (refusal : ℕ) (w w' : List ℕ) (l l' : List ℤ) (e : Box) (h : List ℕ → packet.Handled) → refusal ≡ 0 → Takes r w' l' e h → Does (Ok r) refusal w w' l l' e h
taking r refusal w w' l l' e h zero t = record { number = sym zero; stays = tt; takes = t }

-- a message that is turned down
turning : (r : Refusal) (refusal : ℕ) (w : List ℕ) (l : List ℤ) (e : Box) (h : List ℕ → packet.Handled) → number_of r ≡ refusal → Does (Err r) refusal w w l l e h
turning r refusal w l e h number = record { number = number; stays = (refl, refl); takes = tt }

-- a neighbour keeps its key
same_key : (from : SocketAddrPlain) (m : packet.AliveMsg) (now : HostTime) (p : Peer) → peer_key (packet.after_alive from m now p) ≡ peer_key p
unfolding packet.after_alive
same_key from m now p = refl

-- ---- an alive

module _ (own : OwnState) (is : Interfaces) (count : ℕ) (w : List ℕ) (l : List ℤ) (a : Arrival) (m : packet.AliveMsg) where
  abbrev ps : List Peer
  ps = peers_of count w l

  abbrev e : Box
  e = box_of own is ps

  abbrev is_sender : Peer → Bool
  is_sender = has_key peer_key m.node_id.0

  abbrev after : Peer → Peer
  after p = packet.after_alive a.from m a.now p

  abbrev answer_of : Peer → packet.Handled
  answer_of p = packet.handle_alive_of e (arrival_of a) m p

  -- from the neighbour that is held, or else from a new one
  abbrev answer_to : Option Peer → packet.Handled
  answer_to o = answer_of (unwrap_or o (new_peer m.node_id a.from a.now))

  abbrev refusal_to : Option Peer → ℕ
  refusal_to o = cond (not (found o) && leb 16 (length ps)) 5 0

  -- from the neighbour at i
  pub alive_held : (r : Heard) (w' : List ℕ) (l' : List ℤ) (i : ℕ) → place_of is_sender ps ≡ Some i → Changed w w' l l' i (after (peer_at w l i)) → Tells r count (answer_of (peer_at w l i)) → HearsAlive (Ok r) own is count w w' l l' a m
  unfolding packet.handle_alive packet.handle_alive_of box_of
  alive_held r w' l' i there c t =
      let p = peer_at w l i in
      let held : first is_sender ps ≡ Some p = found_first is_sender count w l i there in
      let key : peer_key (after p) ≡ m.node_id.0 = same_key a.from m a.now p ∙ eqb-true (peer_key p) m.node_id.0 (holds is_sender ps p held) in
      let put : peers_of count w' l' ≡ upsert peer_key (after p) ps = found_put count w w' l l' i (after p) (ap (λ (k : ℕ). place_of (has_key peer_key k) ps) key ∙ there) c in
      taking r (refusal_to (first is_sender ps)) w w' l l' e (λ _. answer_to (first is_sender ps)) (ap refusal_to held)
      (subst (λ h. Takes r w' l' e (λ _. h)) (sym (ap answer_to held)) (told r count w' l' e (answer_of p) t (ap (λ qs. with_peers qs e) put)))

  module _ (nowhere : place_of is_sender ps ≡ None) where
    none_held : first is_sender ps ≡ None
    none_held = (missing is_sender ps nowhere).is

    -- from a new one, for which there is room
    pub alive_new : (r : Heard) (w' : List ℕ) (l' : List ℤ) (n : ℕ) → count < 16 → peers_of n w' l' ≡ insert peer_key (after (new_peer m.node_id a.from a.now)) ps → Tells r n (answer_of (new_peer m.node_id a.from a.now)) → HearsAlive (Ok r) own is count w w' l l' a m
    unfolding packet.handle_alive packet.handle_alive_of box_of new_peer
    alive_new r w' l' n room grown t =
        let p = new_peer m.node_id a.from a.now in
        let free : leb 16 (length ps) ≡ false = lt-leb 16 (length ps) (omega (arith, room, length_peers count w l)) in
        let put : upsert peer_key (after p) ps ≡ insert peer_key (after p) ps = put_new peer_key (after p) ps (ap (λ (k : ℕ). place_of (has_key peer_key k) ps) (same_key a.from m a.now p) ∙ nowhere) in
        taking r (refusal_to (first is_sender ps)) w w' l l' e (λ _. answer_to (first is_sender ps)) (ap refusal_to none_held ∙ ap (λ (b : Bool). cond b 5 0) free)
        (subst (λ h. Takes r w' l' e (λ _. h)) (sym (ap answer_to none_held)) (told r n w' l' e (answer_of p) t (ap (λ qs. with_peers qs e) (grown ∙ sym put))))

    -- from a new one, for which there is none
    pub alive_refused : 16 ≤ count → HearsAlive (Err PeersFull) own is count w w l l a m
    alive_refused full =
        let b : leb 16 (length ps) ≡ true = le-leb 16 (length ps) (omega (arith, full, length_peers count w l)) in
        turning PeersFull (refusal_to (first is_sender ps)) w l e (λ _. packet.handle_alive e (arrival_of a) m) (sym (ap refusal_to none_held ∙ ap (λ (t : Bool). cond t 5 0) b))

-- ---- a pong

-- where measuring does not go on, it ended if there was any; where it does, only the first sample counts
pub by_last : (was one still : Bool) → still ≡ false → was ≡ was && (one || not still)
by_last true true still e = refl
by_last true false still e = sym (ap not e)
by_last false one still e = refl

pub by_first : (was one more : Bool) → was && more ≡ true → one ≡ was && (one || not (was && more))
by_first true true more e = refl
by_first true false more e = sym (ap not e)
by_first false true more e = sym e
by_first false false more e = refl

module _ (own : OwnState) (is : Interfaces) (count : ℕ) (w : List ℕ) (l : List ℤ) (a : Arrival) (m : packet.PongMsg) where
  abbrev box : Box
  box = box_of own is (peers_of count w l)

  abbrev owner : Option Peer
  owner = first (packet.owns a.from) (peers_of count w l)

  abbrev answer_pong_to : Option Peer → packet.Handled
  answer_pong_to o = packet.handle_pong_of box (arrival_of a) m o

  abbrev counted : Peer → Bool
  counted = sampled_before m.session_id m.ping_host_time

  abbrev refusal_pong_to : Option Peer → ℕ
  refusal_pong_to o = cond (lists.holds counted o) 11 0

  -- from the neighbour at i
  module _ (i : ℕ) (there : place_of (packet.owns a.from) (peers_of count w l) ≡ Some i) where
    held : owner ≡ Some (peer_at w l i)
    held = found_first (packet.owns a.from) count w l i there

    -- in answer to a ping time that did not count yet
    pub pong_held : (r : Heard) (w' : List ℕ) (l' : List ℤ) → counted (peer_at w l i) ≡ false → Changed w w' l l' i (packet.after_pong m a.now (peer_at w l i)) → Tells r count (answer_pong_to (Some (peer_at w l i))) → HearsPong (Ok r) own is count w w' l l' a m
    unfolding packet.handle_pong packet.handle_pong_of box_of
    pong_held r w' l' new c t =
        let changed = found_changed (packet.owns a.from) count w l i there w' l' (packet.after_pong m a.now) c in
        taking r (refusal_pong_to owner) w w' l l' box (λ _. answer_pong_to owner) (ap refusal_pong_to held ∙ ap (λ (b : Bool). cond b 11 0) new)
        (subst (λ h. Takes r w' l' box (λ _. h)) (sym (ap answer_pong_to held)) (told r count w' l' box (answer_pong_to (Some (peer_at w l i))) t (ap (λ qs. with_peers qs box) changed)))

    -- in answer to one that did
    pub pong_refused : counted (peer_at w l i) ≡ true → HearsPong (Err PongDoubled) own is count w w l l a m
    pong_refused before =
        turning PongDoubled (refusal_pong_to owner) w l box (λ _. packet.handle_pong box (arrival_of a) m) (sym (ap refusal_pong_to held ∙ ap (λ (b : Bool). cond b 11 0) before))

  -- from nobody that is held
  pub pong_unheld : (r : Heard) → place_of (packet.owns a.from) (peers_of count w l) ≡ None → Takes r w l box (λ _. packet.unchanged box) → HearsPong (Ok r) own is count w w l l a m
  unfolding packet.handle_pong packet.handle_pong_of box_of
  pong_unheld r nowhere t =
      let unheld : owner ≡ None = (missing (packet.owns a.from) (peers_of count w l) nowhere).is in
      taking r (refusal_pong_to owner) w w l l box (λ _. answer_pong_to owner) (ap refusal_pong_to unheld) (subst (λ h. Takes r w l box (λ _. h)) (sym (ap answer_pong_to unheld)) t)
