-- One whose ping is not due stays as it is.
use Rattle.std.specs.Prelude.{◌≡◌, Bool, false, ◌&&◌}
use Rattle.std.specs.Int.Signed.{le_z}
use Rattle.std.proofs.Common.{rules, sym, ap₂, ◌∙◌}
use Rattle.time.specs.declared.HostTime.{HostTime}
use Rattle.model.specs.Produce.{ping_due}
use Rattle.peer_table.specs.Rows.{peer_at}
use Rattle.peer_table.specs.Laws.Changed.{unchanged}
use Rattle.peer_walks.specs.Laws.Calm.{idle}
use Rattle.peer_walks.proofs.polling.poll_at.Goals as goal

pub returns-then-not-ping_due-clause-changed : goal.returns-then-not-ping_due-clause-changed
returns-then-not-ping_due-clause-changed c =
    let w = c.args.words.now in
    let l = c.args.numbers.now in
    let p = peer_at w l c.args.i in
    let due : c.ping_due.result ≡ false = search rules in
    let e : ping_due c.args.at p ≡ false =
    ap₂ (λ (b : Bool) (t : HostTime). b && le_z t.0 c.args.at.0) (sym (c.is_measuring-measuring.ensures l)) (sym (c.next_ping_at-next.ensures w)) ∙ sym c.ping_due.ensures ∙ due
    in unchanged w l c.args.i _ (idle c.args.at p e).0
