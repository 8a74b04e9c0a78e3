-- A turn goes past an entry, and what it says is counted.
use Rattle.std.proofs.Common.{◌≡◌, ◌∙◌, ◌+◌, ◌≤◌, true, length, drop, sym, arith}
use Rattle.wire.specs.Parse.{has_entry}
use Rattle.wire_reader.proofs.Scanning.{value_within, fields_start, fields_step, fields_end}
use Rattle.wire_reader.proofs.scan.scan.Goals as goal

pub loop-key-init : goal.loop-key-init
loop-key-init c = record {
  within = c.requires;
  fields = fields_start c.args.bytes.now c.args.from c.default-found.result c.default-found.ensures;
}

-- there is an entry, and the next begins within
entry : (c : goal.After-with_entry-found) → has_entry (drop c.loop-key.at c.args.bytes.now) ≡ true
entry c = sym c.has_entry_at.ensures ∙ c.loop-key-test.true

on : (c : goal.After-with_entry-found) → c.loop-key.at + 8 + c.read-size.result ≤ length c.args.bytes.now
on c = rw c.read-size.ensures (value_within c.args.bytes.now c.loop-key.at c.loop-key.invariant.within (entry c))

pub loop-key-smaller : goal.loop-key-smaller
loop-key-smaller c = omega (arith, on c)

pub loop-key-preserved : goal.loop-key-preserved
loop-key-preserved c =
    let l = c.args.bytes.now in
    let loop = c.loop-key in record {
      within = on c;
      fields =
          rw (c.with_entry-found.ensures, c.read-key.ensures, c.read-size.ensures)
          (fields_step l loop.at loop.invariant.within (entry c) c.args.from loop.found loop.invariant.fields);
    }

pub returns : goal.returns
returns c =
    fields_end c.args.bytes.now c.args.from c.loop-key.at c.loop-key.found (sym c.has_entry_at.ensures ∙ c.loop-key-test.false) c.loop-key.invariant.fields
