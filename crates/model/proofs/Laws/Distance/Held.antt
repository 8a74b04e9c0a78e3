-- The part of the state that a box holds after an election or after upkeep, where one has the largest value of its session.
use Rattle.std.specs.Prelude.{◌≡◌, refl, Bool, cond, ◌&&◌, Option, Some}
use Rattle.std.proofs.Common.{sym, ap, ◌∙◌, eq-eqb}
use Rattle.std.proofs.Math.Path.{subst}
use Rattle.std.proofs.Math.Bool.{true, false}
use mathlib.Core.List.{List, [], ◌∷◌, Memᴰ}
use Rattle.time.specs.declared.HostTime.{HostTime}
use Rattle.wire.specs.declared.NodeId.{NodeId}
use Rattle.lists.specs.Lists.{best}
use Rattle.model.specs.Peers.{Peer, in_session}
use Rattle.model.specs.Engine.{Box, with_peers, with_next_broadcast, with_num_session_peers}
use Rattle.model.specs.Election.{host_or, resolved, resolve_if}
use Rattle.model.specs.Produce.{after_ping, after_pings, after_broadcast, lapse, lapses, produce_outputs}
use Rattle.model.specs.Laws.Calls.Stages.{polled, settled, upkeep_box}
use Rattle.lists.specs.Laws.Each.{Each, head, each_keep, each_map}
use Rattle.model.specs.Laws.Tools.Parts.{Part, told_in, known_in, part_by}
use Rattle.model.proofs.Laws.Calls.Steps.{produce_on}
use Rattle.model.specs.Laws.Distance.Statement.{Keeps, upkeep_elections}
use Rattle.model.specs.Laws.Distance.Lists.{Under, best_stays, best_wins, each_known}

-- those of upkeep in an enabled box
pub elections_on : (now : HostTime) (e : Box) → e.enabled ≡ true → upkeep_elections now e ≡ cond (lapses now (polled now e)) (lapse now (polled now e) ∷ []) []
unfolding upkeep_elections
elections_on now e on = ap (λ (t : Bool). cond (t && lapses now (polled now e)) (lapse now (polled now e) ∷ []) []) on

module _ {A : Type 0} (P : Part A) where
  -- what p tells for session s, if anything, is L or has a smaller value
  abbrev pub Below : NodeId → A → Peer → Type 0
  Below s L p = Each (Under P.value L) (told_in P.told s p)

  -- our own, in shared time
  abbrev shared : Box → A
  shared e = P.to_ghost e.session_offset (P.of e.state)

  -- ---- an election that keeps session and offset

  resolved_part : (now : HostTime) (e : Box) → Keeps now e
      → P.of (resolved now e).state ≡ host_or (P.to_host e.session_offset) (P.of e.state) (best P.value (Some (shared e)) (known_in P.told e.session_id e.peers))
  resolved_part now e k = part_by P now e true (eq-eqb _ _ (ap (λ (n : NodeId). n.0) k.session)) ∙ rw (k.session, k.offset)

  module _ (now : HostTime) (e : Box) (k : Keeps now e) (L : A) (h : Each (Below e.session_id L) e.peers) where
    host : {o : Option A} → o ≡ Some L → host_or (P.to_host e.session_offset) (P.of e.state) o ≡ P.to_host e.session_offset L
    host f = ap (host_or (P.to_host e.session_offset) (P.of e.state)) f

    -- L is among those known
    pub resolved_wins : Memᴰ L (known_in P.told e.session_id e.peers) → Under P.value L (shared e) → P.of (resolved now e).state ≡ P.to_host e.session_offset L
    resolved_wins m u = resolved_part now e k ∙ host (best_wins P.value L _ u (each_known P.told e.session_id h) m)

    -- L is our own
    pub resolved_stays : shared e ≡ L → P.of (resolved now e).state ≡ P.to_host e.session_offset L
    resolved_stays u =
        resolved_part now e k
        ∙ host (ap (λ (l : A). best P.value (Some l) (known_in P.told e.session_id e.peers)) u ∙ best_stays P.value L (each_known P.told e.session_id h))

  -- ---- upkeep

  -- neither pings nor leavings touch it
  lapse_below : (s : NodeId) (L : A) (now : HostTime) (e : Box) → Each (Below s L) e.peers → Each (Below s L) (lapse now (polled now e)).peers
  unfolding lapse polled after_pings after_broadcast with_peers with_next_broadcast after_ping
  lapse_below s L now e h = each_keep _ (each_map (after_ping now) (λ p q. subst (λ (xs : List A). Each (Under P.value L) (cond (in_session s p) xs [])) (sym (P.pinged now p)) q) h)

  -- a box that holds L holds it after upkeep
  pub upkeep_stays : (now : HostTime) (e : Box) (L : A) → e.enabled ≡ true → Each (Keeps now) (upkeep_elections now e) → Each (Below e.session_id L) e.peers
      → shared e ≡ L → P.of e.state ≡ P.to_host e.session_offset L
      → (P.of (produce_outputs now e).box.state ≡ P.to_host e.session_offset L) × ((produce_outputs now e).box.session_offset ≡ e.session_offset)
  unfolding upkeep_box with_num_session_peers settled resolve_if lapse polled after_pings after_broadcast with_peers with_next_broadcast
  upkeep_stays now e L on ks h u v =
      rw (produce_on now e on) (go (lapses now (polled now e)) (rw (elections_on now e on) at ks))
    where
      go : (t : Bool) → Each (Keeps now) (cond t (lapse now (polled now e) ∷ []) [])
          → (P.of (resolve_if t now (lapse now (polled now e))).box.state ≡ P.to_host e.session_offset L) × ((resolve_if t now (lapse now (polled now e))).box.session_offset ≡ e.session_offset)
      go true ks = (resolved_stays now (lapse now (polled now e)) (head ks) L (lapse_below e.session_id L now e h) u, (head ks).offset)
      go false ks = (v, refl)
