-- A message of measurement.
use Rattle.std.specs.Prelude.{Some, ◌≡◌}
use Rattle.std.proofs.Common.{sym, ap, subst, ◌∙◌}
use Rattle.wire.specs.declared.Message.TheVariants.{Measurement}
use Rattle.messages.specs.Inner.Heard.{Hears}
use Rattle.messages.proofs.handle_message.Goals as goal

pub returns-in-Some-Measurement : goal.returns-in-Some-Measurement
returns-in-Some-Measurement c =
    let a = c.args in
    let is : a.m ≡ Some c.in-Some-Measurement.field-0 = c.in-Some-Measurement.is in
    let field : c.in-Some-Measurement.field-0 ≡ Measurement c.in-Some-Measurement.m = rw is at c.in-Some-Measurement.field-0-is in
    subst (Hears c.handle_measurement.result a.own a.interfaces a.count a.words.now c.handle_measurement.new.words a.numbers.now c.handle_measurement.new.numbers a.arrival)
    (sym (is ∙ ap Some field))
    (c.handle_measurement.ensures a.interfaces)
