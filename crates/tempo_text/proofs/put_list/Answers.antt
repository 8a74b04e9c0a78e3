-- The file where it was written, and otherwise the number with which it was refused.
use Rattle.std.proofs.Common.{refl}
use Rattle.tempo_text.specs.Laws.Answering.{file_laid, refused_laid, not_done}
use Rattle.tempo_text.specs.Laws.Lengths.{list_short}
use Rattle.tempo_text.proofs.put_list.Goals as goal

pub returns-in-Ok : goal.returns-in-Ok
returns-in-Ok c =
    let a = c.args in
    let e = c.in-Ok.ensures in
    record { laid = file_laid a.list a.s.now _ _ _ e.part_after e.size refl; short = list_short a.list }

pub returns-in-Err : goal.returns-in-Err
returns-in-Err c =
    let a = c.args in
    let e = c.in-Err.ensures in
    record { laid = refused_laid a.list a.s.now _ _ _ e.part_after e.size (not_done c.in-Err.refusal) c.put_refused.ensures.laid; short = list_short a.list }
