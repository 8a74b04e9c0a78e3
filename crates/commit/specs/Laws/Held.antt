-- A commit looks at parts of a box only, so what `taken` says of a box made of these parts holds of the box that an engine means.
use Rattle.std.specs.Prelude.{ℕ, ◌≡◌, List, ℤ}
use Rattle.std.proofs.Math.Path.{refl}
use Rattle.std.proofs.Common.{ap, ◌∙◌}
use Rattle.timeline.specs.declared.SessionState.{SessionState}
use Rattle.model.specs.Commit.{max_beat_origin, max_start_stop_time, taken}
use Rattle.peer_table.specs.Rows.{peers_of}
use Rattle.engine_state.specs.declared.core_state.Core.{Core}
use Rattle.engine_state.specs.declared.OwnState.{OwnState}
use Rattle.engine_state.specs.Held.{core_box, held_in, own_in}
use Rattle.engine_state.specs.Inner.OwnBox.{own_box}

module _ (e : Core) (words : List ℕ) (numbers : List ℤ) where
  taken_parts : (s : SessionState) → taken (own_box (own_in e) (peers_of e.count words numbers)) s ≡ taken (held_in e words numbers) s
  unfolding own_box core_box taken max_beat_origin max_start_stop_time
  taken_parts s = refl

  -- what is taken, where the core says this of itself
  pub taken_held : (own : OwnState) (s r : SessionState) → own ≡ own_in e → r ≡ taken (own_box own (peers_of e.count words numbers)) s → r ≡ taken (held_in e words numbers) s
  taken_held own s r o h = h ∙ ap (λ (x : OwnState). taken (own_box x (peers_of e.count words numbers)) s) o ∙ taken_parts s
