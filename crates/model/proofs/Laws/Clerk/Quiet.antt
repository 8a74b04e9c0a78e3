-- Calls that change nothing, and what a disabled engine puts out.
use Rattle.std.specs.Prelude.{ℕ, ◌≡◌, true, false, List, [], ◌∷◌, ◌++◌}
use Rattle.std.proofs.Common.{sym, ap, ◌∙◌, append-nil, eq-eqb}
use Rattle.time.specs.declared.HostTime.{HostTime}
use Rattle.wire.specs.declared.SocketAddrPlain.{SocketAddrPlain}
use Rattle.wire.specs.Parse.{parse}
use Rattle.model.specs.Engine.{Box, Produced, Output, state_changed}
use Rattle.model.specs.Packet.{AliveMsg}
use Rattle.model.specs.Commit.{taken}
use Rattle.model.specs.Calls.{Call, packet, Outcome, refused, done, next, our_own, committed, step, run}
use Rattle.model.specs.Answer.{buffer_after}
use Rattle.model.specs.Laws.Calls.Messages.{alive_said}
use Rattle.lists.specs.Laws.Bools.{clash}
use Rattle.model.proofs.Laws.Calls.Steps.{produce_off}
use Rattle.model.specs.Laws.Calls.Course.{Course, packet_ignored, packet_taken, ticked, commit_same, commit_taken, switch_same, went_on, went_off, added, removed, failed, Kept}
use Rattle.model.proofs.Laws.Calls.Course.{course}
use Rattle.model.proofs.Laws.Clerk.Neighbours.{committed_enabled}
use Rattle.model.specs.Laws.Clerk.Quiet.{Utters, nothing, the_state, switching_on}

-- ---- a refused call

pub refused_leaves_box : (e : Box) (c : Call) (n : ℕ) → step e c ≡ refused n → next e (step e c) ≡ e
refused_leaves_box e c n h = ap (next e) h

pub refused_leaves_buffer : (e : Box) (c : Call) (n : ℕ) (buffer : List ℕ) → step e c ≡ refused n → buffer_after (step e c) buffer ≡ buffer
unfolding buffer_after
refused_leaves_buffer e c n buffer h = ap (λ (o : Outcome). buffer_after o buffer) h

-- a run goes on as if it had not been made
pub refused_skipped : (e : Box) (c : Call) (cs : List Call) (n : ℕ) → step e c ≡ refused n → run e (c ∷ cs) ≡ run e cs
unfolding run
refused_skipped e c cs n h = ap (λ (b : Box). run b cs) (refused_leaves_box e c n h)

-- ---- our own alive

pub own_alive_nothing : (e : Box) (iface : ℕ) (from : SocketAddrPlain) (bytes : List ℕ) (now : HostTime) (buf_size : ℕ) (m : AliveMsg) → parse bytes ≡ alive_said m → m.node_id ≡ e.node_id
    → (e' : Box) (os : List Output) → step e (packet iface from bytes now buf_size) ≡ done e' os → (e' ≡ e) × (os ≡ [])
own_alive_nothing e iface from bytes now buf_size m says own e' os h = go (course e (packet iface from bytes now buf_size) e' os h)
  where
    is_own : our_own e.node_id (parse bytes) ≡ true
    is_own = ap (our_own e.node_id) says ∙ eq-eqb _ _ (ap (λ n. n.0) own)

    go : Course e e' os (packet iface from bytes now buf_size) → (e' ≡ e) × (os ≡ [])
    go (packet_ignored a t i) = (i.box, i.outputs)
    go (packet_taken a l on other full k) = clash (sym is_own ∙ other)

-- upkeep adds nothing while disabled
quiet : (now : HostTime) (x e' : Box) (before os : List Output) → x.enabled ≡ false → Kept now x before e' os → os ≡ before
quiet now x e' before os off k = k.outputs ∙ ap (λ (a : Produced). before ++ a.outputs) (produce_off now x off) ∙ append-nil before

pub disabled_quiet : (e : Box) (c : Call) (e' : Box) (os : List Output) → e.enabled ≡ false → step e c ≡ done e' os → Utters e os c
disabled_quiet e c e' os off h = go c (course e c e' os h)
  where
    go : (c : Call) → Course e e' os c → Utters e os c
    go c (packet_ignored a t i) = nothing i.outputs
    go c (packet_taken a l on own full k) = clash (sym on ∙ off)
    go c (ticked {now} a k) = nothing (quiet now e e' [] os off k)
    go c (commit_same a t i) = nothing i.outputs
    go c (commit_taken {s} {now} a t k) = the_state (quiet now (committed e s now) e' (state_changed (taken e s) ∷ []) os (committed_enabled e s now ∙ off) k)
    go c (switch_same a t i) = nothing i.outputs
    go c (went_on a t k) = switching_on
    go c (went_off a t k) = clash (sym t ∙ off)
    go c (added f g) = nothing g
    go c (removed f g) = nothing g
    go c (failed f g) = nothing g
