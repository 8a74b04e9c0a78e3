-- What a preview gives: what the commit reports first, which is what the box takes; and when the line is moved.
use Rattle.std.specs.Prelude.{ℕ, ◌^◌, ◌<◌, ◌≡◌, ◌≢◌, ◌⊎◌, true, List, [], ℤ, ◌+ℤ◌, ◌-ℤ◌, ◌<ℤ◌, ◌≤ℤ◌, Option, Some, None, unwrap_or}
use native.Mathlib.Omega.{arith}
use Rattle.std.proofs.Math.Path.{sym, ap, ap₂, subst}
use Rattle.std.proofs.Common.{◌∙◌}
use Rattle.std.proofs.Math.Logic.{inl, inr, ⊎_elim}
use Rattle.std.proofs.Math.IntN.{pos, nat_abs, +ℤ_invr}
use Rattle.std.specs.Int.Signed.{le_z}
use Rattle.signed.specs.Wrap.{wrap64}
use Rattle.signed.specs.Laws.Diff.{diff, by_diff, diff_le⁻¹, diff_lt, diff_lt⁻¹, ring}
use Rattle.signed.specs.Laws.Signs.{le_z-true}
use Rattle.time.specs.declared.HostTime.{HostTime}
use Rattle.timeline.specs.declared.Timeline.{Timeline}
use Rattle.timeline.specs.declared.StartStopState.{StartStopState}
use Rattle.timeline.specs.declared.SessionState.{SessionState}
use Rattle.timeline.specs.Same.{same_timeline, same_state}
use Rattle.model.specs.Sums.{sub64}
use Rattle.model.specs.Engine.{Box, Output}
use Rattle.model.specs.Peers.{timelines_in}
use Rattle.model.specs.Commit.{max_beat_origin, move_to, above, max_start_stop_time, later_than, taken}
use Rattle.model.specs.Calls.{commit, Outcome, done, timely, admit, then_produce, commit_app_state, step, outputs_of}
use Rattle.model.specs.Preview.{first_report, previewed, moved_by, refused, given, preview}
use Rattle.lists.specs.Laws.Bools.{split, cond-true, cond-false, none_some}
use Rattle.model.specs.Laws.Tools.Outcomes.{refused_done}
use Rattle.lists.specs.Laws.Each.{Each}
use Rattle.model.specs.Laws.Tools.Tests.{same_timeline_refl, same_start_stop_refl, same_state_true}
use Rattle.model.specs.Laws.Calls.Course.{Course, commit_same, commit_taken}
use Rattle.model.proofs.Laws.Calls.Course.{admitted, course}
use Rattle.model.specs.Laws.Distance.Statement.{Small}
use Rattle.model.specs.Laws.Distance.Sizes.{size_add, size_minus, unwrap}
use Rattle.model.specs.Laws.Distance.Exact.{known_small}

-- ---- the state is the one that the box takes

-- the held state is taken as it is
pub taken_unchanged : (e : Box) → taken e e.state ≡ e.state
unfolding taken
taken_unchanged e =
    ap₂ (λ (l : Timeline) (s : StartStopState). record { timeline = l; start_stop = s })
    (cond-true e.state.timeline (above (max_beat_origin e) e.state.timeline) (same_timeline_refl e.state.timeline))
    (cond-true e.state.start_stop (later_than e.session_offset (max_start_stop_time e) e.state.start_stop) (same_start_stop_refl e.state.start_stop))

-- also where that is the held one
pub preview_is_taken : (e : Box) (s : SessionState) (now : HostTime) → previewed e s now ≡ taken e s
unfolding previewed commit_app_state then_produce first_report
preview_is_taken e s now = split (same_state e.state s)
    (λ t. ap (λ (o : Outcome). unwrap_or (first_report (outputs_of o)) e.state) (cond-true (done e []) _ t)
    ∙ sym (taken_unchanged e)
    ∙ ap (taken e) (same_state_true _ _ t))
    (λ t. ap (λ (o : Outcome). unwrap_or (first_report (outputs_of o)) e.state) (cond-false (done e []) _ t))

-- so at a time that is taken the preview is this
pub preview_given : (e : Box) (s : SessionState) (now : HostTime) → timely now ≡ true → preview e s now ≡ given (taken e s) (moved_by s (taken e s))
unfolding preview
preview_given e s now t = cond-true _ _ t ∙ ap (λ (p : SessionState). given p (moved_by s p)) (preview_is_taken e s now)

-- ---- the commit reports it first

pub commit_timely : (e : Box) (s : SessionState) (now : HostTime) (buf_size : ℕ) (after : Box) (os : List Output) → step e (commit s now buf_size) ≡ done after os → timely now ≡ true
unfolding step admit
commit_timely e s now buf_size after os h = split (timely now) (λ t. t) (λ t. refused_done 1 after os (sym (cond-false _ _ t) ∙ h))

unmoved : (s : SessionState) → moved_by s s ≡ pos 0
unmoved s = let b : ℤ = s.timeline.beat_origin.0 in ap wrap64 (+ℤ_invr b) ∙ unwrap (pos 0) (omega arith)

module _ (e : Box) (s : SessionState) (now : HostTime) (buf_size : ℕ) (after : Box) (os : List Output) (accepted : step e (commit s now buf_size) ≡ done after os) where
  -- the state that an accepted commit reports first is the preview's
  pub previewed_first : (p : SessionState) → first_report os ≡ Some p → preview e s now ≡ given p (moved_by s p)
  unfolding preview previewed step
  previewed_first p reports =
      let outputs : outputs_of (commit_app_state e s now) ≡ os = ap outputs_of (admitted after os now buf_size (commit_app_state e s now) accepted).1 in
      cond-true _ _ (commit_timely e s now buf_size after os accepted)
      ∙ ap (λ (x : Option SessionState). given (unwrap_or x e.state) (moved_by s (unwrap_or x e.state))) (ap first_report outputs ∙ reports)

  -- where it reports none the preview's is the held one, and that is the asked one: nothing is moved
  pub previewed_held : first_report os ≡ None → (s ≡ e.state) × (preview e s now ≡ given e.state (pos 0))
  unfolding first_report
  previewed_held silent = go (course e (commit s now buf_size) after os accepted)
    where
      go : Course e after os (commit s now buf_size) → (s ≡ e.state) × (preview e s now ≡ given e.state (pos 0))
      go (commit_same a t k) =
          let same : e.state ≡ s = same_state_true _ _ t in
          let p : taken e s ≡ e.state = ap (taken e) (sym same) ∙ taken_unchanged e in
          let m : moved_by s (taken e s) ≡ pos 0 = ap (moved_by s) (p ∙ same) ∙ unmoved s in
          (sym same, preview_given e s now (commit_timely e s now buf_size after os accepted) ∙ ap₂ given p m)
      go (commit_taken a t k) = none_some (taken e s) (sym silent ∙ ap first_report k.outputs)

-- ---- what is given

pub given_inj : (p q : SessionState) (m n : ℤ) → given p m ≡ given q n → (p ≡ q) × (m ≡ n)
given_inj p q m n h = (cc, cc)

pub refused_given : {X : Type 0} (n : ℕ) (p : SessionState) (m : ℤ) → refused n ≡ given p m → X
refused_given n p m h = let z : ◌≡◌ {A = ℕ} 0 1 = cc in let y : ⊥ = omega arith in absurd y

-- by the state that the box takes, and by the move to it
pub given_parts : (e : Box) (s : SessionState) (now : HostTime) (p : SessionState) (moved : ℤ) → preview e s now ≡ given p moved → (p ≡ taken e s) × (moved ≡ moved_by s p)
unfolding preview
given_parts e s now p moved h = split (timely now)
    (λ t. let (q, m) = given_inj _ _ _ _ (sym (preview_given e s now t) ∙ h) in (sym q, sym m ∙ ap (moved_by s) q))
    (λ t. refused_given 1 p moved (sym (cond-false _ _ t) ∙ h))

-- ---- when the line is moved

-- a line that is not above the known is moved up
above_zero : (known b : ℤ) → b ≤ℤ known → pos 0 <ℤ (known +ℤ pos 1_000_000 -ℤ b)
above_zero = by_diff _ λ p n. by_diff _ λ q m h. simp ring (diff_lt _ _ _ _ (omega (arith, diff_le⁻¹ _ _ _ _ h)))

module _ (e : Box) (s : SessionState) (now : HostTime) (p : SessionState) (moved : ℤ) (is_given : preview e s now ≡ given p moved) where
  -- where the given line is the asked one it is moved by 0, whatever the sizes
  pub asked_unmoved : p.timeline ≡ s.timeline → moved ≡ pos 0
  asked_unmoved h = (given_parts e s now p moved is_given).1 ∙ ap (λ (l : Timeline). sub64 l.beat_origin.0 s.timeline.beat_origin.0) h ∙ unmoved s

  module _ (asked : Small s.timeline.beat_origin.0) (own : Small e.state.timeline.beat_origin.0)
      (known : Each (λ l. Small l.beat_origin.0) (timelines_in e.session_id e.peers)) where
    abbrev K : ℤ
    K = max_beat_origin e

    abbrev b : ℤ
    b = s.timeline.beat_origin.0

    -- the line is the asked one, or one that was not above the known stands 1,000,000 above it
    line_is : (l : Timeline) → l ≡ (taken e s).timeline → (l ≡ s.timeline) ⊎ ((l.beat_origin.0 ≡ K +ℤ pos 1_000_000) × (b ≤ℤ K))
    unfolding taken above move_to
    line_is l h = split (same_timeline s.timeline e.state.timeline)
        (λ t. inl (h ∙ cond-true _ _ t))
        (λ t. split (le_z b K)
        (λ u. inr (
          ap (λ (x : Timeline). x.beat_origin.0) (h ∙ cond-false _ _ t ∙ cond-true _ _ u)
              ∙ unwrap (K +ℤ pos 1_000_000) (omega (arith, size_add K (pos 1_000_000), known_small e own known)),
          le_z-true u,
        ))
        (λ u. inl (h ∙ cond-false _ _ t ∙ cond-false _ _ u)))

    -- within the sizes: moved by 0, it is the asked one
    pub unmoved_asked : moved ≡ pos 0 → p.timeline ≡ s.timeline
    unfolding diff
    unmoved_asked zero =
        let (q, m) = given_parts e s now p moved is_given in
        ⊎_elim (λ h. h)
        (λ h.
        let size : nat_abs (K +ℤ pos 1_000_000 -ℤ b) < 2 ^ 63 = omega (arith, size_add K (pos 1_000_000), size_minus (K +ℤ pos 1_000_000) b, known_small e own known) in
        let by : K +ℤ pos 1_000_000 -ℤ b ≡ pos 0 = sym (unwrap (K +ℤ pos 1_000_000 -ℤ b) size) ∙ ap (λ (z : ℤ). sub64 z b) (sym h.0) ∙ sym m ∙ zero in
        let never : pos 0 <ℤ pos 0 = subst (λ (z : ℤ). pos 0 <ℤ z) by (above_zero K b h.1) in
        let impossible : 0 < 0 = diff_lt⁻¹ 0 0 0 0 never in
        let y : ⊥ = omega arith in absurd y)
        (line_is p.timeline (ap (λ (x : SessionState). x.timeline) q))

    -- otherwise its beat origin is the largest known and 1,000,000
    pub moved_above : p.timeline ≢ s.timeline → p.timeline.beat_origin.0 ≡ max_beat_origin e +ℤ pos 1_000_000
    moved_above other =
        ⊎_elim (λ h. absurd (other h)) (λ h. h.0) (line_is p.timeline (ap (λ (x : SessionState). x.timeline) (given_parts e s now p moved is_given).0))
