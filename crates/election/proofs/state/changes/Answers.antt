-- The derived comparison of states is the definition's.
use Rattle.std.proofs.Common.{◌≡◌, ◌∙◌, sym, ap, not, false, rules, ℤ}
use Rattle.std.proofs.Math.Bool.{and_assoc}
use Rattle.std.specs.Ordering.{int_eq}
use Rattle.signed.specs.Equal.{eq_z}
use Rattle.timeline.specs.Same.{same_timeline, same_start_stop, same_state}
use Rattle.wire.specs.Same.{same_node}
use Rattle.election.proofs.state.changes.Goals as goal
use Rattle.election.proofs.state.changes.Goals.{then-ne, else-ne}

equal_is : (a b : ℤ) → int_eq a b ≡ eq_z a b
equal_is a b = search rules

pub returns-else-ne-2 : goal.returns-else-ne-2
unfolding same_timeline same_start_stop same_state
returns-else-ne-2 c =
    let s : c.ne-else-ne-2.result ≡ not (same_state c.args.state c.args.own.state) = c.ne-else-ne-2.ensures ∙ simp (equal_is, and_assoc) in
    let best = c.args.best in
    let own = c.args.own in
    elim c.if-ne.branch [
      | then-ne w ↦ cc
      | else-ne w ↦
          let session : not (same_node best.session own.session_id) ≡ false = sym c.ne.ensures ∙ w.if-ne.false in
          let offset : not (eq_z best.offset.0 own.session_offset.0) ≡ false = ap not (sym (equal_is best.offset.0 own.session_offset.0)) ∙ sym w.ne-else-ne.ensures ∙ sym w.value-is ∙ c.if-ne-2.false in
          rw (session, offset) s
    ]
