use Rattle.peer.specs.Held.{peer}
use Rattle.peer_table.specs.Rows.{neighbour_in, peer_at}
use Rattle.peer_table.proofs.row.peer_at.Goals as goal

pub returns : goal.returns
unfolding peer_at peer neighbour_in
returns c =
    let w = c.args.words.now in
    let l = c.args.numbers.now in
    rw (c.id_at.ensures l, c.session_at.ensures l, c.line_at.ensures, c.start_stop_at.ensures, c.seen_at.ensures w, c.addr_at.ensures l, c.next_ping_at.ensures w, c.short_at.ensures, c.is_measuring.ensures l)
