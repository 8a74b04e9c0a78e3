-- The tests `==` decide equality.
use Rattle.std.specs.Prelude.{ℕ, zero, suc, ◌<◌, ◌≡◌, refl, Bool, true, false, eqb, Option, Some, None}
use Rattle.std.proofs.Common.{arith, sym, ap, ◌∙◌, eqb-true, eq-eqb}
use Rattle.std.specs.Bool.{beq}
use Rattle.signed.specs.Laws.Signs.{eq_z_true, eq_z_refl}
use Rattle.signed.specs.Laws.Tests.{both}
use Rattle.timeline.specs.declared.Timeline.{Timeline}
use Rattle.timeline.specs.declared.StartStopState.{StartStopState}
use Rattle.timeline.specs.declared.SessionState.{SessionState}
use Rattle.timeline.specs.Same.{same_timeline, same_start_stop, same_state}
use Rattle.wire.specs.declared.NodeId.{NodeId}
use Rattle.wire.specs.Same.{same_node, same_maybe_node, same_maybe_timeline, same_maybe_start_stop, is_node}
use Rattle.lists.specs.Laws.Bools.{clash}

pub beq-true : (a b : Bool) → beq a b ≡ true → a ≡ b
beq-true true true e = refl
beq-true true false e = clash (sym e)
beq-true false true e = clash (sym e)
beq-true false false e = refl

pub above_zero : (n : ℕ) → eqb n 0 ≡ false → 0 < n
above_zero zero e = clash e
above_zero (suc n) e = omega arith

pub same_node_true : (a b : NodeId) → same_node a b ≡ true → a ≡ b
same_node_true a b e = ap (λ (n : ℕ). record { 0 = n }) (eqb-true _ _ e)

pub same_timeline_true : (a b : Timeline) → same_timeline a b ≡ true → a ≡ b
unfolding same_timeline
same_timeline_true a b e =
    let h = both _ _ e in let k = both _ _ h.0 in
    let x = eq_z_true k.0 in let y = eq_z_true k.1 in let z = eq_z_true h.1 in
    λ i. record { tempo = record { 0 = x i }; beat_origin = record { 0 = y i }; time_origin = record { 0 = z i } }

pub same_start_stop_true : (a b : StartStopState) → same_start_stop a b ≡ true → a ≡ b
unfolding same_start_stop
same_start_stop_true a b e =
    let h = both _ _ e in let k = both _ _ h.0 in
    let x = beq-true _ _ k.0 in let y = eq_z_true k.1 in let z = eq_z_true h.1 in
    λ i. record { is_playing = x i; beat = record { 0 = y i }; time = record { 0 = z i } }

pub same_state_true : (a b : SessionState) → same_state a b ≡ true → a ≡ b
unfolding same_state
same_state_true a b e =
    let h = both _ _ e in
    let x = same_timeline_true _ _ h.0 in let y = same_start_stop_true _ _ h.1 in
    λ i. record { timeline = x i; start_stop = y i }

beq-refl : (b : Bool) → beq b b ≡ true
beq-refl true = refl
beq-refl false = refl

pub same_timeline_refl : (l : Timeline) → same_timeline l l ≡ true
unfolding same_timeline
same_timeline_refl l = rw (eq_z_refl l.tempo.0, eq_z_refl l.beat_origin.0, eq_z_refl l.time_origin.0)

pub same_start_stop_refl : (s : StartStopState) → same_start_stop s s ≡ true
unfolding same_start_stop
same_start_stop_refl s = rw (beq-refl s.is_playing, eq_z_refl s.beat.0, eq_z_refl s.time.0)

-- ---- of optional values

pub same_maybe_timeline_true : (x y : Option Timeline) → same_maybe_timeline x y ≡ true → x ≡ y
unfolding same_maybe_timeline
same_maybe_timeline_true None None e = refl
same_maybe_timeline_true None (Some b) e = clash (sym e)
same_maybe_timeline_true (Some a) None e = clash (sym e)
same_maybe_timeline_true (Some a) (Some b) e = ap Some (same_timeline_true a b e)

pub same_maybe_start_stop_true : (x y : Option StartStopState) → same_maybe_start_stop x y ≡ true → x ≡ y
unfolding same_maybe_start_stop
same_maybe_start_stop_true None None e = refl
same_maybe_start_stop_true None (Some b) e = clash (sym e)
same_maybe_start_stop_true (Some a) None e = clash (sym e)
same_maybe_start_stop_true (Some a) (Some b) e = ap Some (same_start_stop_true a b e)

pub same_maybe_node_true : (x y : Option NodeId) → same_maybe_node x y ≡ true → x ≡ y
unfolding same_maybe_node
same_maybe_node_true None None e = refl
same_maybe_node_true None (Some b) e = clash (sym e)
same_maybe_node_true (Some a) None e = clash (sym e)
same_maybe_node_true (Some a) (Some b) e = ap Some (same_node_true a b e)

pub same_maybe_node_refl : (x : Option NodeId) → same_maybe_node x x ≡ true
unfolding same_maybe_node
same_maybe_node_refl None = refl
same_maybe_node_refl (Some a) = eq-eqb a.0 a.0 refl

pub is_node_yes : (s : NodeId) (x : Option NodeId) → x ≡ Some s → is_node s x ≡ true
is_node_yes s x e = ap (is_node s) e ∙ eq-eqb s.0 s.0 refl

pub is_node_true : (s : NodeId) (x : Option NodeId) → is_node s x ≡ true → x ≡ Some s
is_node_true s None e = clash (sym e)
is_node_true s (Some n) e = ap Some (same_node_true n s e)
