-- The two numbers, the space and the newline, side by side.
use Rattle.std.proofs.Common.{rules, SFits}
use Rattle.std.specs.Int.{w64}
use Rattle.text.specs.Ascii.{ascii}
use Rattle.text.specs.Laws.Parts.{◌then◌, word, number}
use Rattle.tempo_text.proofs.put_pair.Goals as goal

pub returns : goal.returns
unfolding ascii
returns c =
    let p = c.args.change.now in
    let f : SFits w64 p.tempo.0 = search rules in
    let g : SFits w64 p.beat_origin.0 = search rules in
    (number {z = p.tempo.0} f c.put_integer-at.ensures
    then word c.put_bytes-at.ensures
    then number {z = p.beat_origin.0} g c.put_integer-at-2.ensures
    then word c.put_bytes.ensures).laid
