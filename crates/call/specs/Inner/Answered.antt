-- The buffer after an answer was written, and what is put out before upkeep.
use Rattle.std.specs.Prelude.{ℕ, cond, List, ◌++◌, Option}
use Rattle.model.specs.Engine.{Output}
use Rattle.answer.specs.declared.Reply.{Reply}
use Rattle.answer.specs.Inner.Planned.{reply_outputs, state_outputs, fits, answered}
use Rattle.timeline.specs.declared.SessionState.{SessionState}

-- the answer where it fits, and otherwise the old bytes
abbrev pub written_answer : List ℕ → List Output → List ℕ → List ℕ
written_answer echo os old = cond (fits echo os old) (answered os old) old

-- the reply, which may echo, and the report, in front of others
abbrev pub before_upkeep : List ℕ → Option Reply → Option SessionState → List Output → List Output
before_upkeep echo reply report os = reply_outputs echo reply ++ (state_outputs report ++ os)
