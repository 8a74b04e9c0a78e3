-- The track behind a head; without a head it is refused.
use Rattle.std.proofs.Common.{sym, ap, ◌∙◌}
use Rattle.midi_file.specs.Answers.{read_answer}
use Rattle.midi_file.specs.Laws.Theorems.{head_long, headed, unheaded}
use Rattle.midi_reader.proofs.read.Goals as goal

pub read_track-requires : goal.read_track-requires
read_track-requires c = head_long _ (sym c.has_head.ensures ∙ c.if-has_head.true)

pub returns-then-has_head : goal.returns-then-has_head
returns-then-has_head c =
    c.read_track.ensures ∙ ap read_answer (sym (headed _ (sym c.has_head.ensures ∙ c.if-has_head.true)))

pub returns-else-has_head : goal.returns-else-has_head
unfolding read_answer
returns-else-has_head c = ap read_answer (sym (unheaded _ (sym c.has_head.ensures ∙ c.if-has_head.false)))
