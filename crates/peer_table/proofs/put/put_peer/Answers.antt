use Rattle.std.proofs.Common.{rules}
use Rattle.peer_table.specs.Inner.Stored.{fill, values_of, flags_of}
use Rattle.peer_table.specs.Laws.Stored.{stored_changes}
use Rattle.peer_table.proofs.put.put_peer.Goals as goal

pub returns : goal.returns
unfolding fill values_of flags_of
returns c =
    let a = c.args in
    rw (c.put_numbers.ensures, c.put_flags.ensures, c.put_values.ensures)
    (stored_changes a.words.now a.numbers.now a.i a.p (record { ip = search rules; port = search rules; pings = search rules }) (search rules) (search rules))
