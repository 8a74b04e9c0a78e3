-- Where no neighbour goes, what a survey finds makes the facts of upkeep; and where all rest, none goes and none is asked.
use Rattle.std.specs.Prelude.{ℕ, ◌≡◌, refl, true, false, not, List, [], length}
use Rattle.std.proofs.Common.{sym, ap, ap₂, ◌∙◌, eq-eqb}
use Rattle.time.specs.declared.HostTime.{HostTime}
use Rattle.wire.specs.declared.SocketAddrPlain.{SocketAddrPlain}
use Rattle.model.specs.Sums.{never}
use Rattle.model.specs.Peers.{Peer, peers_in}
use Rattle.model.specs.Produce.{earliest_ping, min_last_seen, or_timeout, timer_outputs, recent}
use Rattle.peer_walks.specs.declared.Overview.{Overview}
use Rattle.peer_walks.specs.Inner.Asked.{asked, addrs_of}
use Rattle.peer_walks.specs.Inner.Calm.{calm}
use Rattle.peer_walks.specs.Laws.Calm.{calm_pinged, calm_asked, calm_kept}
use Rattle.upkeep.specs.Laws.Kept.{loses}
use Rattle.engine_state.specs.declared.OwnState.{OwnState}
use Rattle.election.specs.declared.Resolved.{Resolved}
use Rattle.upkeep.specs.declared.settle.Settled.{Settled}
use Rattle.upkeep.specs.Inner.Decided.{pinged}
use Rattle.upkeep.specs.Inner.Settling.{AllStay, Settling}
use Rattle.upkeep.specs.Laws.Settled.{none_goes}

-- what a survey finds of neighbours, but for whether they rest
pub record Finds (next : HostTime) (own : OwnState) (qs : List Peer) (found : Overview) : Type 0 where
  pub ping : found.ping ≡ earliest_ping next qs
  pub seen : found.seen ≡ min_last_seen never qs
  pub count : found.count ≡ length (peers_in own.session_id qs)

module _ (now : HostTime) (own : OwnState) (next : HostTime) (ps : List Peer) (found : Overview) (count asks : ℕ) (left : List Peer) (to : List SocketAddrPlain) (r : Settled) (s : AllStay own found count asks next r) where
  -- none of the pinged neighbours goes
  pub all_kept : (qs : List Peer) → qs ≡ pinged now ps → loses (recent now) qs ≡ false → Finds next own qs found → left ≡ qs → to ≡ asked now ps → Settling now own next ps left to r
  all_kept qs h lost f e pings =
      let k = none_goes now own next ps qs r.resolved h lost s.election in
      record {
        neighbours = e ∙ k.0;
        pings = pings;
        election = k.1;
        timer = s.timer ∙ ap timer_outputs (ap₂ or_timeout (f.ping ∙ ap (earliest_ping next) h) (f.seen ∙ ap (min_last_seen never) k.0));
        number = s.number ∙ f.count ∙ sym (ap₂ (λ (y : Resolved) (l : List Peer). length (peers_in y.own.session_id l)) s.election e);
      }

  -- all rest
  pub all_rest : calm now ps ≡ true → Finds next own ps found → left ≡ ps → to ≡ [] → Settling now own next ps left to r
  all_rest still f e none = all_kept ps (sym (calm_pinged now ps still)) (ap not (eq-eqb _ _ (ap length (calm_kept now ps still)))) f e (none ∙ sym (calm_asked now ps still))

-- no address is held
pub none_held : (a : List SocketAddrPlain) → addrs_of 0 a ≡ []
unfolding addrs_of
none_held a = refl
