-- What the row says is what was read of it.
use Rattle.std.specs.Prelude.{Option, ◌≡◌, Bool, true, false, ◌&&◌, not}
use Rattle.std.proofs.Common.{sym, ap, ◌∙◌}
use Rattle.time.specs.declared.HostTime.{HostTime}
use Rattle.time.specs.Same.{same_time}
use Rattle.lists.specs.Lists.{found, first}
use Rattle.model.specs.Peers.{Peer}
use Rattle.model.specs.Packet.{moves}
use Rattle.model.specs.Calls.{sampled_before}
use Rattle.wire.specs.declared.NodeId.{NodeId}
use Rattle.messages.proofs.measurement.sampled_before.Goals as goal

-- may is the test that was made, on the neighbour p that was read of the row q
of_row : (session : Option NodeId) (time : HostTime) (p q : Peer) (may b : Bool) → p ≡ q → may ≡ p.measuring && not (moves session p) → may ≡ b
    → sampled_before session time q ≡ b && found (first (same_time time) q.samples.ping_times)
of_row session time p q may b e m t =
    let has = found (first (same_time time) q.samples.ping_times) in
    ap (λ (r : Peer). r.measuring && not (moves session r) && has) (sym e) ∙ ap (λ (x : Bool). x && has) (sym m ∙ t)

pub returns-then-may_be_doubled : goal.returns-then-may_be_doubled
returns-then-may_be_doubled c =
    c.has_ping_time.ensures ∙ sym (of_row c.args.said.session_id c.args.said.ping_host_time _ _ _ true c.peer_at.ensures (c.may_be_doubled.ensures _) c.if-may_be_doubled.true)

pub returns-else-may_be_doubled : goal.returns-else-may_be_doubled
returns-else-may_be_doubled c =
    c.if-may_be_doubled.false
    ∙ sym (of_row c.args.said.session_id c.args.said.ping_host_time _ _ _ false c.peer_at.ensures (c.may_be_doubled.ensures _) c.if-may_be_doubled.false)
