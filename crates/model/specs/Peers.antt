-- Neighbours and interfaces, and what is worked out from a neighbour's samples (PeerState of engine.rs).
use Rattle.std.specs.Prelude.{ℕ, ◌/◌, Bool, true, cond, ℤ, pos, length, get_or, take, Option, Some, None}
use mathlib.Core.List.{List, [], ◌∷◌, ◌++◌, flat_map}
use Rattle.std.specs.Int.Signed.{le_z}
use Rattle.time.specs.declared.HostTime.{HostTime}
use Rattle.timeline.specs.declared.Timeline.{Timeline}
use Rattle.timeline.specs.declared.StartStopState.{StartStopState}
use Rattle.wire.specs.declared.NodeId.{NodeId}
use Rattle.wire.specs.declared.SocketAddrPlain.{SocketAddrPlain}
use Rattle.wire.specs.Same.{is_node}
use Rattle.model.specs.Sums.{add64, sub64, half}
use Rattle.lists.specs.Lists.{keep}

-- what is kept of a neighbour's pongs, in the order in which they were taken: the samples, and the time of the ping that each answers
pub record Samples : Type 0 where
  pub offsets : List ℤ
  pub ping_times : List HostTime

-- a neighbour under its id: an entry of the map `peers`
pub record Peer : Type 0 where
  pub id : NodeId
  pub session_id : Option NodeId
  pub timeline_ghost : Option Timeline
  pub start_stop_ghost : Option StartStopState
  pub last_seen : HostTime
  pub addr : SocketAddrPlain
  pub samples : Samples
  pub next_ping_time : HostTime
  pub ping_timeouts : ℕ
  pub measuring : Bool

-- an entry of the map `interfaces`
pub record Interface : Type 0 where
  pub id : ℕ
  pub addr : SocketAddrPlain

-- the keys of both maps
abbrev pub peer_key : Peer → ℕ
peer_key p = p.id.0

abbrev pub interface_key : Interface → ℕ
interface_key i = i.id

-- none taken yet, or all cleared
abbrev pub no_samples : Samples
no_samples = record { offsets = []; ping_times = [] }

-- With one more, which answers the ping of a time. No calls lead to a neighbour that is measured and has 20: there a 21st is not kept, where the Rust would
-- keep it.
unfoldable pub sampled : HostTime → ℤ → Samples → Samples
sampled ping_time offset s = record {
  offsets = take 20 (s.offsets ++ (offset ∷ []));
  ping_times = take 20 (s.ping_times ++ (ping_time ∷ []));
}

-- PeerState::new
unfoldable pub new_peer : NodeId → SocketAddrPlain → HostTime → Peer
new_peer id addr now = record {
  id = id;
  session_id = None;
  timeline_ghost = None;
  start_stop_ghost = None;
  last_seen = now;
  addr = addr;
  samples = no_samples;
  next_ping_time = now;
  ping_timeouts = 0;
  measuring = true;
}

-- ---- what is known in a session

abbrev pub in_session : NodeId → Peer → Bool
in_session s p = is_node s p.session_id

-- the neighbours held under session s
unfoldable pub peers_in : NodeId → List Peer → List Peer
peers_in s ps = keep (in_session s) ps

abbrev pub timeline_list : Option Timeline → List Timeline
timeline_list None = []
timeline_list (Some t) = t ∷ []

abbrev pub start_stop_list : Option StartStopState → List StartStopState
start_stop_list None = []
start_stop_list (Some s) = s ∷ []

-- the lines and the start-stop states that are known for session s, in shared time
unfoldable pub timelines_in : NodeId → List Peer → List Timeline
timelines_in s ps = flat_map (λ p. timeline_list p.timeline_ghost) (peers_in s ps)

unfoldable pub start_stops_in : NodeId → List Peer → List StartStopState
start_stops_in s ps = flat_map (λ p. start_stop_list p.start_stop_ghost) (peers_in s ps)

-- by which they are compared
abbrev pub origin_of : Timeline → ℤ
origin_of l = l.beat_origin.0

abbrev pub moment_of : StartStopState → ℤ
moment_of s = s.time.0

-- ---- the median

unfoldable pub insert_sorted : ℤ → List ℤ → List ℤ
insert_sorted a [] = a ∷ []
insert_sorted a (b ∷ bs) = cond (le_z a b) (a ∷ (b ∷ bs)) (b ∷ insert_sorted a bs)

unfoldable pub sorted : List ℤ → List ℤ
sorted [] = []
sorted (a ∷ as') = insert_sorted a (sorted as')

-- place length / 2 of the sorted samples, 0 for none
unfoldable pub median_offset : List ℤ → ℤ
median_offset offsets = get_or (sorted offsets) (length offsets / 2) (pos 0)

-- ---- a sample

-- `a2` is our ping's time, `a3` is now, `b2` the neighbour's shared time, and the first argument the shared time before that, if there is one
unfoldable pub sample : Option HostTime → HostTime → HostTime → HostTime → ℤ
sample None b2 a2 a3 = sub64 b2.0 (half (add64 a3.0 a2.0))
sample (Some b1) b2 a2 a3 =
    let off1 = sub64 b2.0 (half (add64 a3.0 a2.0)) in
    let off2 = sub64 (half (add64 b2.0 b1.0)) a2.0 in
    half (add64 off1 off2)
