-- Where the neighbours are calm, a poll changes none, asks none, and none goes.
use Rattle.std.specs.Prelude.{◌≡◌, Bool, true, false, ◌&&◌, not}
use Rattle.std.proofs.Math.Path.{refl, ap}
use Rattle.std.proofs.Common.{sym, ap₂, ◌∙◌}
use Rattle.std.proofs.Math.Bool.{cond}
use Rattle.std.proofs.lemmas.Bool.{false≢true}
use mathlib.Core.List.{List, [], ◌∷◌, map}
use Rattle.time.specs.declared.HostTime.{HostTime}
use Rattle.lists.specs.Lists.{keep}
use Rattle.model.specs.Peers.{Peer}
use Rattle.model.specs.Produce.{ping_due, after_ping, recent, asks}
use Rattle.peer_walks.specs.Inner.Asked.{asked}
use Rattle.peer_walks.specs.Inner.Calm.{calm}

-- one whose ping is not due stays as it is, and is not asked
pub idle : (now : HostTime) (p : Peer) → ping_due now p ≡ false → (p ≡ after_ping now p) × (asks now p ≡ false)
unfolding after_ping
idle now p e = (rw e, rw e)

all_three : (d k c : Bool) → (not d && k) && c ≡ true → (d ≡ false) × (k ≡ true) × (c ≡ true)
all_three false true true e = (refl, refl, refl)
all_three true k c e = absurd (false≢true e)
all_three false false c e = absurd (false≢true e)
all_three false true false e = absurd (false≢true e)

module _ (now : HostTime) where
  first_rests : (p : Peer) (ps : List Peer) → calm now (p ∷ ps) ≡ true → (ping_due now p ≡ false) × (recent now p ≡ true) × (calm now ps ≡ true)
  unfolding calm
  first_rests p ps e = all_three (ping_due now p) (recent now p) (calm now ps) e

  pub calm_pinged : (ps : List Peer) → calm now ps ≡ true → map (after_ping now) ps ≡ ps
  calm_pinged [] e = refl
  calm_pinged (p ∷ ps) e = let r = first_rests p ps e in ap₂ (λ (q : Peer) (qs : List Peer). q ∷ qs) (sym (idle now p r.0).0) (calm_pinged ps r.2)

  none_asks : (ps : List Peer) → calm now ps ≡ true → keep (asks now) ps ≡ []
  unfolding keep
  none_asks [] e = refl
  none_asks (p ∷ ps) e =
      let r = first_rests p ps e in
      ap (λ (b : Bool). cond b (p ∷ keep (asks now) ps) (keep (asks now) ps)) (idle now p r.0).1 ∙ none_asks ps r.2

  pub calm_asked : (ps : List Peer) → calm now ps ≡ true → asked now ps ≡ []
  unfolding asked
  calm_asked ps e = ap (λ (l : List Peer). map (λ p. p.addr) l) (none_asks ps e)

  pub calm_kept : (ps : List Peer) → calm now ps ≡ true → keep (recent now) ps ≡ ps
  unfolding keep
  calm_kept [] e = refl
  calm_kept (p ∷ ps) e =
      let r = first_rests p ps e in
      ap (λ (b : Bool). cond b (p ∷ keep (recent now) ps) (keep (recent now) ps)) r.1 ∙ ap (λ (l : List Peer). p ∷ l) (calm_kept ps r.2)
