-- A message looks at parts of a box only, so what the code says of boxes made of these parts holds of the box that an engine means.
use Rattle.std.specs.Prelude.{ℕ, ◌≡◌, List, Option, Some, None}
use Rattle.std.proofs.Math.Path.{refl}
use Rattle.wire.specs.declared.SocketAddrPlain.{SocketAddrPlain}
use Rattle.wire.specs.declared.DiscoveryMsg.TheVariants.{Alive, ByeBye}
use Rattle.wire.specs.declared.MeasurementMsg.TheVariants.{Ping, Pong}
use Rattle.wire.specs.declared.Message.TheVariants.{Discovery, Measurement}
use Rattle.lists.specs.Lists.{first}
use Rattle.model.specs.Peers.{Peer}
use Rattle.model.specs.Engine.{Box, with_peers, our_alive}
use Rattle.model.specs.Packet.{Arrival, Handled, unchanged, response, handle_alive_of, handle_alive, handle_byebye, handle_ping, PongMsg, owns, handle_pong_of, handle_pong, handle_message}
use Rattle.model.specs.Calls.{read_refusal}
use Rattle.model.specs.Laws.Calls.Messages.{pong_msg}
use Rattle.engine_state.specs.declared.core_state.Core.{Core}
use Rattle.engine_state.specs.Held.{core_box, own_in}
use Rattle.messages.specs.Inner.Heard.{box_of}
use Rattle.wire.specs.declared.Message.{Message}

-- what a message does, on another box that has the same neighbours
abbrev pub onto : Handled → Box → Handled
onto h e = record { box = with_peers h.box.peers e; outputs = h.outputs; needs_resolution = h.needs_resolution }

module _ (e : Core) (ps : List Peer) where
  -- the parts that a message looks at
  abbrev pub parts : Box
  parts = box_of (own_in e) e.interfaces ps

  module _ (a : Arrival) where
    of_pong : (m : PongMsg) (o : Option Peer) → onto (handle_pong_of parts a m o) (core_box e ps) ≡ handle_pong_of (core_box e ps) a m o
    unfolding box_of core_box with_peers handle_pong_of unchanged
    of_pong m None = refl
    of_pong m (Some p) = refl

    pub message_parts : (bytes : List ℕ) (m : Option Message) → onto (handle_message parts a bytes m) (core_box e ps) ≡ handle_message (core_box e ps) a bytes m
    unfolding box_of core_box with_peers our_alive unchanged response handle_alive_of handle_alive handle_byebye handle_ping handle_pong handle_message
    message_parts bytes None = refl
    message_parts bytes (Some (Discovery (Alive node timeline start_stop session mep4))) = refl
    message_parts bytes (Some (Discovery (ByeBye node))) = refl
    message_parts bytes (Some (Measurement (Ping time prev))) = refl
    message_parts bytes (Some (Measurement (Pong session b2 a2 b1))) = of_pong (pong_msg session b2 a2 b1) (first (owns a.from) ps)

  pub refusal_parts : (from : SocketAddrPlain) (m : Option Message) → read_refusal parts from m ≡ read_refusal (core_box e ps) from m
  unfolding box_of core_box
  refusal_parts from m = refl
