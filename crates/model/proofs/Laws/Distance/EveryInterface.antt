-- The distance rule's packet is there for whichever interface: an accepted commit that changes the line of an enabled box writes one for each that it holds.
use Rattle.std.specs.Prelude.{ℕ, ◌^◌, ◌<◌, ◌≡◌, refl, ◌≢◌, true, false, ℤ, Some}
use Rattle.std.proofs.Common.{sym, ap, ◌∙◌}
use mathlib.Core.List.{List, Memᴰ}
use Rattle.signed.specs.Laws.Tests.{both}
use Rattle.signed.specs.Laws.WrapLaws.{wrap64_id, wrap64_wrap64}
use Rattle.time.specs.declared.HostTime.{HostTime}
use Rattle.timeline.specs.declared.Timeline.{Timeline}
use Rattle.timeline.specs.declared.SessionState.{SessionState}
use Rattle.timeline.specs.Same.{same_timeline, same_state}
use Rattle.wire.specs.declared.NodeId.{NodeId}
use Rattle.wire.specs.Parse.{parse}
use Rattle.wire.specs.Laws.RoundTrip.{TimelineFits}
use Rattle.model.specs.Peers.{Interface}
use Rattle.model.specs.Engine.{Box, Output, new, multicast, timeline_to_ghost}
use Rattle.model.specs.Commit.{max_beat_origin, above, taken}
use Rattle.model.specs.Calls.{Call, commit, done, step, run}
use Rattle.model.specs.Laws.Calls.Messages.{alive_said}
use Rattle.lists.specs.Laws.Bools.{by_cond, not_true→false}
use Rattle.lists.specs.Laws.Each.{Each, each_mem}
use Rattle.model.specs.Laws.Tools.Tests.{same_timeline_true}
use Rattle.model.specs.Laws.Calls.Fits.{CallFits}
use Rattle.model.proofs.Laws.Calls.Fits.{fits_above, state_fits, ids_fit}
use Rattle.model.proofs.Laws.Link.Announces.{commit_announces}
use Rattle.model.specs.Laws.Distance.Statement.{Sends}
use Rattle.model.specs.Laws.Distance.Reads.{low_bits, alive_back}
use Rattle.model.proofs.Laws.Distance.Sent.{committed_alive}
use Rattle.model.specs.Laws.Distance.EveryInterface.{alive_on, line_sent, start_stop_sent, alive_sent}

-- the low 64 bits are all of the line, where the asked one fits its type
line_exact : (o : ℤ) (l : Timeline) → TimelineFits l → low_bits (timeline_to_ghost o l) ≡ timeline_to_ghost o l
unfolding low_bits timeline_to_ghost
line_exact o l f = rw (wrap64_id l.tempo.0 f.tempo, wrap64_id l.beat_origin.0 f.beat_origin, wrap64_wrap64)

pub line_sent_whole : (e : Box) (s : SessionState) → TimelineFits s.timeline → line_sent e s ≡ timeline_to_ghost e.session_offset (taken e s).timeline
unfolding taken
line_sent_whole e s f =
    line_exact e.session_offset (taken e s).timeline
    (by_cond TimelineFits (same_timeline s.timeline e.state.timeline) s.timeline (above (max_beat_origin e) s.timeline) (λ t. f) (λ t. fits_above (max_beat_origin e) s.timeline f))

-- a state with another line is another
pub other_state : (e : Box) (s : SessionState) → s.timeline ≢ e.state.timeline → same_state e.state s ≡ false
unfolding same_state
other_state e s changes = not_true→false _ (λ t. changes (sym (same_timeline_true _ _ (both _ _ t).0)))

module _ (a : NodeId) (calls : List Call) (fits : a.0 < 2 ^ 64) (calls_fit : Each CallFits calls) (s : SessionState) (now : HostTime) where
  abbrev sender : Box
  sender = run (new a) calls

  -- it is read so, where the sender's ids and addresses fit their types: after calls that fit theirs they do
  pub alive_read : (i : Interface) → Memᴰ i sender.interfaces → parse (alive_on sender s now i) ≡ alive_said (alive_sent sender s i)
  alive_read i m =
      let ids = ids_fit a fits calls calls_fit in
      ap parse (committed_alive sender s now i.addr)
      ∙ alive_back sender.node_id sender.session_id _ _ i.addr ids.0 ids.1 (each_mem (state_fits a calls calls_fit).interfaces m).addr

  -- so it is what the distance rule asks of the sender, and it goes out on that interface, to all
  pub commit_sends : (buf_size : ℕ) (after : Box) (os : List Output) → step sender (commit s now buf_size) ≡ done after os → sender.enabled ≡ true → s.timeline ≢ sender.state.timeline
      → (i : Interface) → Memᴰ i sender.interfaces → (c : Sends sender s now buf_size (alive_on sender s now i) (line_sent sender s)) × (c.interface ≡ i.id) × (c.to ≡ multicast)
  commit_sends buf_size after os accepted on changes i m = (
    record {
      after = after;
      outputs = os;
      accepted = accepted;
      changes = changes;
      interface = i.id;
      to = multicast;
      written = commit_announces sender after os now buf_size s on (other_state sender s changes) accepted i m;
      node = sender.node_id;
      start_stop = Some (start_stop_sent sender s);
      mep4 = Some i.addr;
      session = sender.session_id;
      reads = alive_read i m;
      in_session = refl;
    },
    refl,
    refl,
  )
