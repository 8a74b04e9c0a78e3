-- What a message makes of a box whose neighbours are rows of two tables.
use Rattle.std.specs.Prelude.{ℕ, false, cond, ◌≡◌, List, ℤ, pos, drop, Option, Result, Ok, Err, IfOk, OnErr}
use Rattle.wire.specs.declared.NodeId.{NodeId}
use Rattle.model.specs.Peers.{Peer}
use Rattle.model.specs.Engine.{Box, with_peers}
use Rattle.model.specs.Packet as packet
use Rattle.model.specs.Calls.{no_room_for, sampled_before, read_refusal}
use Rattle.lists.specs.Lists.{holds, first}
use Rattle.interface_map.specs.declared.Interfaces.{Interfaces}
use Rattle.interface_map.specs.Held.{interfaces_of}
use Rattle.peer_table.specs.Rows.{peers_of}
use Rattle.engine_state.specs.declared.OwnState.{OwnState}
use Rattle.answer.specs.Inner.Planned.{reply_outputs}
use Rattle.messages.specs.declared.Arrival.{Arrival}
use Rattle.messages.specs.declared.Heard.{Heard}
use Rattle.messages.specs.declared.Refusal.{Refusal}
use Rattle.messages.specs.declared.Refusal.TheVariants.{PeersFull, PongDoubled}
use Rattle.wire.specs.declared.Message.{Message}

-- where a packet came in, from whom and when
abbrev pub arrival_of : Arrival → packet.Arrival
arrival_of a = record { iface = a.iface.0; from = a.from; now = a.now }

-- a box that says this of itself and has these interfaces and neighbours: messages look at no more
unfoldable pub box_of : OwnState → Interfaces → List Peer → Box
box_of o is ps = record {
  node_id = o.node_id;
  enabled = false;
  session_id = o.session_id;
  session_offset = o.session_offset.0;
  state = o.state;
  interfaces = interfaces_of is;
  peers = ps;
  num_session_peers = 0;
  next_broadcast = record { 0 = pos 0 };
}

-- the box with these neighbours, the packet that is put out, where a pong echoes what follows byte 8 of the bytes, and whether an election follows
unfoldable pub heard : Heard → List Peer → List ℕ → Box → packet.Handled
heard r ps bytes e = record {
  box = with_peers ps e;
  outputs = reply_outputs (drop 9 bytes) r.reply;
  needs_resolution = r.needs_resolution;
}

-- the number of a refusal
abbrev pub number_of : Refusal → ℕ
number_of PeersFull = 5
number_of PongDoubled = 11

-- the number under which a message was turned down, 0 where it was taken
abbrev pub refusal_of : Result Heard Refusal → ℕ
refusal_of (Ok h) = 0
refusal_of (Err e) = number_of e

-- ---- of the neighbour that a message is from

-- so many neighbours then: the packet and the decision are those of h
pub record Tells (r : Heard) (count : ℕ) (h : packet.Handled) : Type 0 where
  pub counts : r.count ≡ count
  pub packet : (echo : List ℕ) → reply_outputs echo r.reply ≡ h.outputs
  pub decision : r.needs_resolution ≡ h.needs_resolution

-- ---- of the box

-- with these tables then the box is as h says, whatever the packet's bytes
pub record Takes (r : Heard) (w : List ℕ) (l : List ℤ) (e : Box) (h : List ℕ → packet.Handled) : Type 0 where
  pub agrees : (bytes : List ℕ) → heard r (peers_of r.count w l) bytes e ≡ h bytes

-- Turned down under this number, with the tables as they were; or taken where it is 0.
pub record Does (r : Result Heard Refusal) (refusal : ℕ) (w w' : List ℕ) (l l' : List ℤ) (e : Box) (h : List ℕ → packet.Handled) : Type 0 where
  pub number : refusal_of r ≡ refusal
  pub stays : OnErr r ((w' ≡ w) × (l' ≡ l))
  pub takes : IfOk r (λ t. Takes t w' l' e h)

-- the box before the message
abbrev before : OwnState → Interfaces → ℕ → List ℕ → List ℤ → Box
before own is count w l = box_of own is (peers_of count w l)

-- what may be turned down
module _ (r : Result Heard Refusal) (own : OwnState) (is : Interfaces) (count : ℕ) (w w' : List ℕ) (l l' : List ℤ) where
  abbrev pub Hears : Arrival → Option Message → Type 0
  Hears a m =
      let e = before own is count w l in
      Does r (read_refusal e a.from m) w w' l l' e (λ bytes. packet.handle_message e (arrival_of a) bytes m)

  abbrev pub HearsAlive : Arrival → packet.AliveMsg → Type 0
  HearsAlive a m =
      let e = before own is count w l in
      Does r (cond (no_room_for (peers_of count w l) m.node_id) 5 0) w w' l l' e (λ _. packet.handle_alive e (arrival_of a) m)

  abbrev pub HearsPong : Arrival → packet.PongMsg → Type 0
  HearsPong a m =
      let e = before own is count w l in
      Does r (cond (holds (sampled_before m.session_id m.ping_host_time) (first (packet.owns a.from) (peers_of count w l))) 11 0) w w' l l' e
      (λ _. packet.handle_pong e (arrival_of a) m)

-- what is always taken
module _ (r : Heard) (own : OwnState) (is : Interfaces) (count : ℕ) where
  abbrev pub HearsByeBye : (w w' : List ℕ) (l l' : List ℤ) → NodeId → Type 0
  HearsByeBye w w' l l' node = let e = before own is count w l in Takes r w' l' e (λ _. packet.handle_byebye e node)

  abbrev pub HearsPing : List ℕ → List ℤ → Arrival → Type 0
  HearsPing w l a = let e = before own is count w l in Takes r w l e (λ bytes. packet.handle_ping e (arrival_of a) bytes)
