-- What a survey finds, field by field.
use Rattle.std.specs.Prelude.{ℕ, ◌+◌, ◌≤◌, ◌≡◌, Bool, true, false, ◌&&◌, not, cond, length}
use native.Mathlib.Omega.{arith}
use Rattle.std.proofs.Math.Path.{refl, sym}
use Rattle.std.proofs.Common.{◌∙◌}
use Rattle.std.proofs.Math.Bool.{and-true, and_assoc}
use mathlib.Core.List.{List, [], ◌∷◌}
use Rattle.time.specs.declared.HostTime.{HostTime}
use Rattle.wire.specs.declared.NodeId.{NodeId}
use Rattle.lists.specs.Lists.{keep}
use Rattle.model.specs.Peers.{Peer, in_session, peers_in}
use Rattle.model.specs.Produce.{ping_due, min_last_seen, earliest_ping, recent}
use Rattle.peer_walks.specs.declared.Overview.{Overview}
use Rattle.peer_walks.specs.Inner.Calm.{calm, with_peer, survey_of}

counted_by : (b : Bool) (n : ℕ) (p : Peer) (ps : List Peer) → cond b (n + 1) n + length ps ≡ n + length (cond b (p ∷ ps) ps)
counted_by true n p ps = omega arith
counted_by false n p ps = refl

-- one neighbour adds at most one
pub one_at_most : (b : Bool) (n i : ℕ) → n ≤ i → cond b (n + 1) n ≤ i + 1
one_at_most true n i h = omega arith
one_at_most false n i h = omega arith

module _ (now : HostTime) (session : NodeId) where
  pub calm_is : (s : Overview) (ps : List Peer) → (survey_of now session s ps).is_calm ≡ s.is_calm && calm now ps
  unfolding survey_of calm
  calm_is s [] = sym (and-true s.is_calm)
  calm_is s (p ∷ ps) = calm_is (with_peer now session s p) ps ∙ and_assoc s.is_calm (not (ping_due now p) && recent now p) (calm now ps)

  pub ping_is : (s : Overview) (ps : List Peer) → (survey_of now session s ps).ping ≡ earliest_ping s.ping ps
  unfolding survey_of earliest_ping
  ping_is s [] = refl
  ping_is s (p ∷ ps) = ping_is (with_peer now session s p) ps

  pub seen_is : (s : Overview) (ps : List Peer) → (survey_of now session s ps).seen ≡ min_last_seen s.seen ps
  unfolding survey_of min_last_seen
  seen_is s [] = refl
  seen_is s (p ∷ ps) = seen_is (with_peer now session s p) ps

  pub count_is : (s : Overview) (ps : List Peer) → (survey_of now session s ps).count ≡ s.count + length (peers_in session ps)
  unfolding survey_of peers_in keep
  count_is s [] = omega arith
  count_is s (p ∷ ps) = count_is (with_peer now session s p) ps ∙ counted_by (in_session session p) s.count p (keep (in_session session) ps)
