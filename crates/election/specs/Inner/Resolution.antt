-- What an election decides, and what follows where it decides anything new.
use Rattle.std.specs.Prelude.{Bool, true, false, cond, List, Some, None}
use Rattle.time.specs.declared.HostTime.{HostTime}
use Rattle.timeline.specs.declared.SessionState.{SessionState}
use Rattle.model.specs.Peers.{Peer}
use Rattle.model.specs.Engine.{Box}
use Rattle.model.specs.Election.{Best, best_session, resolved_state, changes}
use Rattle.engine_state.specs.declared.OwnState.{OwnState}
use Rattle.engine_state.specs.Inner.OwnBox.{own_box}
use Rattle.election.specs.declared.Resolved.{Resolved}

-- where there is no election
abbrev pub unresolved : OwnState → HostTime → Resolved
unresolved own next = record { own = own; next_broadcast = next; report = None }

-- this is said from now on, and where it is anything new it is reported, and broadcast at once
abbrev pub announced : HostTime → HostTime → Bool → OwnState → Resolved
announced now next changed own = record {
  own = own;
  next_broadcast = cond changed now next;
  report = cond changed (Some own.state) None;
}

-- what is said from now on: the session, its offset and this state
abbrev pub own_after : OwnState → Best → SessionState → OwnState
own_after own b state = record { node_id = own.node_id; session_id = b.session; session_offset = record { 0 = b.offset }; state = state }

unfoldable pub resolution : HostTime → OwnState → HostTime → List Peer → Resolved
resolution now own next ps =
    let e : Box = own_box own ps in
    let b : Best = best_session now e in
    announced now next (changes b e) (own_after own b (resolved_state b e))

-- an election where there is a reason for one
unfoldable pub resolution_if : Bool → HostTime → OwnState → HostTime → List Peer → Resolved
resolution_if true now own next ps = resolution now own next ps
resolution_if false now own next ps = unresolved own next
