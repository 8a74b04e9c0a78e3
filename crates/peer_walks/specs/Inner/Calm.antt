-- Whether upkeep leaves the neighbours as they are, and what a walk over them finds.
use Rattle.std.specs.Prelude.{◌+◌, Bool, true, ◌&&◌, not, cond, List, [], ◌∷◌}
use Rattle.time.specs.declared.HostTime.{HostTime}
use Rattle.wire.specs.declared.NodeId.{NodeId}
use Rattle.model.specs.Sums.{earlier}
use Rattle.model.specs.Peers.{Peer, in_session}
use Rattle.model.specs.Produce.{ping_due, recent}
use Rattle.peer_walks.specs.declared.Overview.{Overview}

-- no ping is due, and none is gone
unfoldable pub calm : HostTime → List Peer → Bool
calm now [] = true
calm now (p ∷ ps) = (not (ping_due now p) && recent now p) && calm now ps

-- ---- a survey

-- with one more neighbour: whether it rests, whether it is measured, its next ping, when it was last seen, whether it is in the session
abbrev pub with_one : Overview → Bool → Bool → HostTime → HostTime → Bool → Overview
with_one s rests measuring ping seen counts = record {
  is_calm = s.is_calm && rests;
  ping = cond measuring (earlier s.ping ping) s.ping;
  seen = earlier s.seen seen;
  count = cond counts (s.count + 1) s.count;
}

abbrev pub with_peer : HostTime → NodeId → Overview → Peer → Overview
with_peer now session s p = with_one s (not (ping_due now p) && recent now p) p.measuring p.next_ping_time p.last_seen (in_session session p)

unfoldable pub survey_of : HostTime → NodeId → Overview → List Peer → Overview
survey_of now session s [] = s
survey_of now session s (p ∷ ps) = survey_of now session (with_peer now session s p) ps
