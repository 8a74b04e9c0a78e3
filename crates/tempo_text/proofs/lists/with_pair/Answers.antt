-- Past the 64th place nothing is stored.
use Rattle.std.proofs.Common.{◌+◌, List, arith, ap, sym, ◌∙◌}
use Rattle.std.proofs.Math.Seq.{set_out}
use Rattle.midi_file.specs.declared.TempoChange.{TempoChange}
use Rattle.midi_file.specs.declared.TempoList.{TempoList}
use Rattle.midi_file.proofs.Lengths.{changes_64}
use Rattle.tempo_text.proofs.lists.with_pair.Goals as goal
use Rattle.tempo_text.proofs.lists.with_pair.Goals.{then-list-lt-MOST, else-list-lt-MOST}

pub returns : goal.returns
returns c =
    let list = c.args.list in
    elim c.if-list-lt-MOST.branch [
      | then-list-lt-MOST w ↦ ap (λ (m : TempoList). record { changes = m.changes; count = m.count + 1 }) w.list-is
      | else-list-lt-MOST w ↦
          ap (λ (m : TempoList). record { changes = m.changes; count = m.count + 1 }) w.list-is
          ∙ ap (λ (l : List TempoChange). record { changes = l; count = list.count + 1 }) (sym (set_out list.changes list.count c.args.change (omega (arith, changes_64 list c.well_formed.0, w.if-list-lt-MOST.false))))
    ]
