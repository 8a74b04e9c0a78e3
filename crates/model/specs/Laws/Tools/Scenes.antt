-- What closed cases are written with: node 1 from its first call on, and others that it hears from ports of their own number, at time 0 where no time is given.
use Rattle.std.specs.Prelude.{ℕ, ◌≡◌, ◌≢◌, Bool, true, false, List, [], ◌∷◌, ◌++◌, eqb, ℤ, pos, Option, Some, None}
use Rattle.std.proofs.Common.{ap}
use Rattle.std.proofs.lemmas.Bool.{eqb-false}
use Rattle.big_endian.specs.Bytes.{bytes}
use Rattle.time.specs.declared.HostTime.{HostTime}
use Rattle.timeline.specs.declared.Timeline.{Timeline}
use Rattle.timeline.specs.declared.StartStopState.{StartStopState}
use Rattle.timeline.specs.declared.SessionState.{SessionState}
use Rattle.timeline.specs.Session.{default_state}
use Rattle.wire.specs.declared.NodeId.{NodeId}
use Rattle.wire.specs.declared.SocketAddrPlain.{SocketAddrPlain}
use Rattle.wire.specs.declared.DiscoveryMsg.TheVariants.{Alive, ByeBye}
use Rattle.wire.specs.declared.Message.TheVariants.{Discovery, Measurement}
use Rattle.wire.specs.Parse.{parse}
use Rattle.wire.specs.Layout.{discovery_kinds, measurement_kinds, keys, int_bytes, entry, timeline_bytes, start_stop_bytes, mep4_entry, discovery_head, byebye_bytes, measurement_head, pong_bytes}
use Rattle.model.specs.Engine.{Box, Output, send, state_changed, num_peers_changed, set_timer, new}
use Rattle.model.specs.Calls.{Call, packet, tick, commit, switch, interface_added, next, outputs_of, step, run}
use Rattle.wire.specs.declared.Message.{Message}

-- ---- values

abbrev pub at : ℤ → HostTime
at t = record { 0 = t }

abbrev pub node : ℕ → NodeId
node n = record { 0 = n }

abbrev pub port : ℕ → SocketAddrPlain
port n = record { ip = 0; port = n }

-- a line by its tempo, its beat origin and its time origin
abbrev pub line : ℤ → ℤ → ℤ → Timeline
line tempo beat time = record { tempo = record { 0 = tempo }; beat_origin = record { 0 = beat }; time_origin = at time }

-- a state that is new but for its line
abbrev pub lined : Timeline → SessionState
lined l = record { timeline = l; start_stop = default_state.start_stop }

-- two values of which a number differs
pub unlike : {A : Type 0} (f : A → ℕ) {x y : A} → eqb (f x) (f y) ≡ false → x ≢ y
unlike f h e = eqb-false _ _ h (ap f e)

-- ---- calls

abbrev pub led : List Call → Box
led cs = run (new (node 1)) cs

abbrev pub placed : Call
placed = interface_added 0 (port 0)

abbrev pub on : Call
on = switch true (at (pos 0)) 4096

abbrev pub ticks : ℕ → Call
ticks now = tick (at (pos now)) 4096

abbrev pub hears : ℕ → List ℕ → Call
hears n bs = packet 0 (port n) bs (at (pos 0)) 4096

-- an alive of node n that says these entries
abbrev pub announces : ℕ → List ℕ → List ℕ
announces n entries = discovery_head discovery_kinds.alive 5 (node n) ++ entries

abbrev pub alive : ℕ → List ℕ → Call
alive n entries = hears n (announces n entries)

abbrev pub in_session : ℕ → List ℕ
in_session s = entry keys.sess (bytes 8 s)

abbrev pub with_line : Timeline → List ℕ
with_line l = entry keys.tmln (timeline_bytes l)

abbrev pub with_start_stop : StartStopState → List ℕ
with_start_stop s = entry keys.stst (start_stop_bytes s)

abbrev pub with_addr : ℕ → List ℕ
with_addr n = mep4_entry (Some (port n))

-- an entry of eight zero bytes
abbrev pub zeros : ℕ → List ℕ
zeros key = entry key (bytes 8 0)

abbrev pub bye : ℕ → Call
bye n = hears n (byebye_bytes (node n))

-- a pong for session s, of a shared time, on a ping of a time: heard at that time it gives a sample of their difference
abbrev pub pong : ℕ → ℤ → ℤ → List ℕ
pong s ghost ping = pong_bytes (node s) (at ghost) (entry keys.ht (int_bytes ping))

-- the same, naming no session
abbrev pub unnamed_pong : ℤ → ℤ → List ℕ
unnamed_pong ghost ping = measurement_head measurement_kinds.pong ++ (entry keys.gt (int_bytes ghost) ++ entry keys.ht (int_bytes ping))

-- the first on a ping that told the shared time before it
abbrev pub pong_after : ℕ → ℤ → ℤ → ℤ → List ℕ
pong_after s ghost ping before = pong_bytes (node s) (at ghost) (entry keys.ht (int_bytes ping) ++ entry keys.pgt (int_bytes before))

abbrev pub pongs : ℕ → ℕ → ℤ → ℤ → Call
pongs n s ghost ping = hears n (pong s ghost ping)

-- ---- calls with a time, their last number, and other nodes

abbrev pub start_stop : Bool → ℤ → ℤ → StartStopState
start_stop playing beat time = record { is_playing = playing; beat = record { 0 = beat }; time = at time }

abbrev pub state : Timeline → StartStopState → SessionState
state l s = record { timeline = l; start_stop = s }

abbrev pub on_at : ℕ → Call
on_at now = switch true (at (pos now)) 4096

abbrev pub off_at : ℕ → Call
off_at now = switch false (at (pos now)) 4096

abbrev pub commits_at : Timeline → StartStopState → ℕ → Call
commits_at l s now = commit (state l s) (at (pos now)) 4096

abbrev pub hears_at : ℕ → List ℕ → ℕ → Call
hears_at n bs now = packet 0 (port n) bs (at (pos now)) 4096

-- node n after these calls
abbrev pub node_led : ℕ → List Call → Box
node_led n cs = run (new (node n)) cs

-- ---- what is put out

-- by a call after others
abbrev pub put_out : List Call → Call → List Output
put_out cs c = outputs_of (step (led cs) c)

-- by the last of some calls
abbrev pub last_outputs : Box → List Call → List Output
last_outputs e [] = []
last_outputs e (c ∷ []) = outputs_of (step e c)
last_outputs e (c ∷ d ∷ cs) = last_outputs (next e (step e c)) (d ∷ cs)

-- the states, the times of timers, and what the packets say
abbrev pub states : List Output → List SessionState
states [] = []
states (send i a bs ∷ os) = states os
states (state_changed s ∷ os) = s ∷ states os
states (num_peers_changed n ∷ os) = states os
states (set_timer t ∷ os) = states os

abbrev pub timers : List Output → List ℤ
timers [] = []
timers (send i a bs ∷ os) = timers os
timers (state_changed s ∷ os) = timers os
timers (num_peers_changed n ∷ os) = timers os
timers (set_timer t ∷ os) = t.0 ∷ timers os

abbrev pub messages : List Output → List (Option Message)
messages [] = []
messages (send i a bs ∷ os) = parse bs ∷ messages os
messages (state_changed s ∷ os) = messages os
messages (num_peers_changed n ∷ os) = messages os
messages (set_timer t ∷ os) = messages os

-- the ports that packets go to
abbrev pub destinations : List Output → List ℕ
destinations [] = []
destinations (send i a bs ∷ os) = a.port ∷ destinations os
destinations (state_changed s ∷ os) = destinations os
destinations (num_peers_changed n ∷ os) = destinations os
destinations (set_timer t ∷ os) = destinations os

abbrev pub line_said : Option Message → Option Timeline
line_said None = None
line_said (Some (Discovery (Alive n l s i a))) = l
line_said (Some (Discovery (ByeBye n))) = None
line_said (Some (Measurement m)) = None

abbrev pub start_stop_said : Option Message → Option StartStopState
start_stop_said None = None
start_stop_said (Some (Discovery (Alive n l s i a))) = s
start_stop_said (Some (Discovery (ByeBye n))) = None
start_stop_said (Some (Measurement m)) = None
