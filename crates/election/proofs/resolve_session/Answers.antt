-- What is announced is the definition's, with what was found whether anything is new.
use Rattle.std.proofs.Common.{sym, ◌∙◌}
use Rattle.model.specs.Election.{changes}
use Rattle.engine_state.specs.Inner.OwnBox.{own_box}
use Rattle.election.specs.Inner.Resolution.{resolution}
use Rattle.election.specs.Inner.Known.{best_of}
use Rattle.election.proofs.resolve_session.Goals as goal

pub returns-then-changes : goal.returns-then-changes
unfolding best_of own_box resolution changes
returns-then-changes c = let e = sym c.changes.ensures ∙ c.if-changes.true in rw (sym c.best_session-best.ensures, sym c.resolved_state-state.ensures, e)

pub returns-else-changes : goal.returns-else-changes
unfolding best_of own_box resolution changes
returns-else-changes c =
    let e = sym c.changes.ensures ∙ c.if-changes.false in
    rw (sym c.best_session-best.ensures, sym c.resolved_state-state.ensures, e) c.unresolved.ensures
