-- What the outputs of calls tell of last: a box that tells of a value wherever a stage changes it has told of the one that it holds.
-- The definitions; the theorems stand in proofs/Laws/Calls/Told.
use Rattle.std.specs.Prelude.{ℕ, ◌≡◌, cond, eqb, Option, Some, None, unwrap_or}
use mathlib.Core.List.{List, [], ◌∷◌}
use Rattle.time.specs.declared.HostTime.{HostTime}
use Rattle.timeline.specs.declared.SessionState.{SessionState}
use Rattle.wire.specs.declared.SocketAddrPlain.{SocketAddrPlain}
use Rattle.model.specs.Peers.{Peer, Interface}
use Rattle.model.specs.Engine.{Box, Output, send, state_changed, num_peers_changed, set_timer, with_interfaces, with_peers, with_num_session_peers, with_next_broadcast}
use Rattle.model.specs.Election.{resolved, resolve_outputs}
use Rattle.model.specs.Produce.{session_peers, count_outputs}
use Rattle.model.specs.Commit.{taken}
use Rattle.model.specs.Calls.{Call, committed, unstarted, started, switched_on, switched_off, step, next, outputs_of}

-- a picker takes a value from some of the outputs
module _ {A : Type 0} (pick : Output → Option A) where
  -- the value that a list of outputs tells of last, or else the given one
  abbrev pub last_told : A → List Output → A
  last_told a [] = a
  last_told a (o ∷ os) = last_told (unwrap_or (pick o) a) os

  -- over the calls of a run
  abbrev pub told_over : A → Box → List Call → A
  told_over a e [] = a
  told_over a e (c ∷ cs) = told_over (last_told a (outputs_of (step e c))) (next e (step e c)) cs

  -- an output that tells of none
  abbrev pub Untold : Output → Type 0
  Untold o = pick o ≡ None

  -- each stage tells of the value that it leaves in the box, or leaves the value
  pub record Tells (held : Box → A) : Type 0 where
    pub sends : (iface : ℕ) (to : SocketAddrPlain) (ps : List ℕ) → Untold (send iface to ps)
    pub timers : (t : HostTime) → Untold (set_timer t)
    pub peers : (ps : List Peer) (e : Box) → held (with_peers ps e) ≡ held e
    pub interfaces : (is : List Interface) (e : Box) → held (with_interfaces is e) ≡ held e
    pub broadcast : (t : HostTime) (e : Box) → held (with_next_broadcast t e) ≡ held e
    pub election : (now : HostTime) (e : Box) → last_told (held e) (resolve_outputs now e) ≡ held (resolved now e)
    pub count : (e : Box) → last_told (held e) (count_outputs e) ≡ held (with_num_session_peers (session_peers e) e)
    pub takes : (e : Box) (s : SessionState) (now : HostTime) → last_told (held e) (state_changed (taken e s) ∷ []) ≡ held (committed e s now)
    pub on : (e : Box) (now : HostTime) → last_told (held e) (cond (unstarted e.state) (state_changed (started now e.state) ∷ []) []) ≡ held (switched_on e now)
    pub off : (e : Box) → last_told (held e) (cond (eqb e.num_session_peers 0) [] (num_peers_changed 0 ∷ [])) ≡ held (switched_off e)
