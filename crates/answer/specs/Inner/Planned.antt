-- The outputs of the definition that a plan stands for, and the buffer after they were written.
use Rattle.std.specs.Prelude.{ℕ, Bool, true, false, ◌&&◌, leb, length, drop, Option, Some, None}
use mathlib.Core.List.{List, [], ◌∷◌, ◌++◌, map, flat_map}
use Rattle.time.specs.declared.HostTime.{HostTime}
use Rattle.wire.specs.declared.SocketAddrPlain.{SocketAddrPlain}
use Rattle.wire.specs.Layout.{byebye_bytes, ping_bytes, pong_bytes}
use Rattle.model.specs.Peers.{Interface}
use Rattle.model.specs.Engine.{Output, send, state_changed, num_peers_changed, set_timer, multicast, our_alive}
use Rattle.model.specs.Answer.{answer}
use Rattle.engine_state.specs.Inner.OwnBox.{own_box}
use Rattle.answer.specs.declared.Reply.{Reply}
use Rattle.answer.specs.declared.Reply.TheVariants as reply
use Rattle.answer.specs.declared.Multicast.{Multicast}
use Rattle.answer.specs.declared.Multicast.TheVariants as packets
use Rattle.answer.specs.declared.Plan.{Plan}
use Rattle.answer.specs.declared.CallPlan.{CallPlan}
use Rattle.timeline.specs.declared.SessionState.{SessionState}

-- ---- the parts of a plan

unfoldable pub reply_outputs : List ℕ → Option Reply → List Output
reply_outputs echo (Some (reply.Response iface to own mep4)) = send iface.0 to (our_alive (own_box own []) mep4 true) ∷ []
reply_outputs echo (Some (reply.Pong iface to session ghost_time)) = send iface.0 to (pong_bytes session ghost_time echo) ∷ []
reply_outputs echo (Some (reply.Ping iface to time prev)) = send iface.0 to (ping_bytes time (Some prev)) ∷ []
reply_outputs echo None = []

unfoldable pub state_outputs : Option SessionState → List Output
state_outputs (Some s) = state_changed s ∷ []
state_outputs None = []

unfoldable pub multicast_outputs : List Interface → Option Multicast → List Output
multicast_outputs is (Some (packets.Alive own)) = map (λ i. send i.id multicast (our_alive (own_box own []) (Some i.addr) false)) is
multicast_outputs is (Some (packets.ByeBye node)) = map (λ i. send i.id multicast (byebye_bytes node)) is
multicast_outputs is None = []

-- a ping on every interface to each address
unfoldable pub ping_outputs : HostTime → List Interface → List SocketAddrPlain → List Output
ping_outputs now is addrs = flat_map (λ a. map (λ i. send i.id a (ping_bytes now None)) is) addrs

unfoldable pub timer_output : Option HostTime → List Output
timer_output (Some t) = set_timer t ∷ []
timer_output None = []

unfoldable pub count_output : Option ℕ → List Output
count_output (Some n) = num_peers_changed n ∷ []
count_output None = []

-- ---- the whole, with the addresses that are asked

unfoldable pub plan_of : Plan → List SocketAddrPlain → List Interface → List Output
plan_of p to is =
    multicast_outputs is p.multicast
    ++ (ping_outputs p.now is to ++ (state_outputs p.report ++ (timer_output p.timer ++ count_output p.count)))

-- on these interfaces, and with what a pong echoes
unfoldable pub call_of : CallPlan → List SocketAddrPlain → List Interface → List ℕ → List Output
call_of o to is echo = reply_outputs echo o.reply ++ (state_outputs o.report ++ plan_of o.plan to is)

-- ---- the buffer

-- the echo is no longer than a pong takes, and the answer no longer than the buffer
unfoldable pub fits : List ℕ → List Output → List ℕ → Bool
fits echo os old = leb (length echo) 503 && leb (length (answer os)) (length old)

-- the answer in front and the old bytes after it
unfoldable pub answered : List Output → List ℕ → List ℕ
answered os old = answer os ++ drop (length (answer os)) old
