-- The number behind its words.
use Rattle.std.proofs.Common.{subst, ◌∙◌}
use Rattle.text.specs.Ascii.{ascii}
use Rattle.text.specs.Part.{Part}
use Rattle.tempo_text.specs.Answer.{refused}
use Rattle.tempo_text.proofs.put_refused.Goals as goal

pub returns : goal.returns
unfolding refused ascii
returns c =
    subst (λ n. Part 0 (refused n) 29 c.args.s.now c.put_numbered.result c.put_numbered.new.s) (c.from.ensures ∙ c.number.ensures) c.put_numbered.ensures
