-- Each field is what the scan found.
use Rattle.std.proofs.Common.{◌∙◌, ap}
use Rattle.wire.specs.Parse.{last_good, timeline_of, start_stop_of, node_of, addr_of, alive_of}
use Rattle.wire_reader.proofs.alive.Goals as goal

pub returns : goal.returns
unfolding alive_of last_good
returns c =
    let found = c.scan-found.ensures in
    rw (
      c.read_timeline.ensures ∙ ap timeline_of found.tmln.is,
      c.read_start_stop.ensures ∙ ap start_stop_of found.stst.is,
      c.read_node_id.ensures ∙ ap node_of found.sess.is,
      c.read_addr.ensures ∙ ap addr_of found.mep4.is,
    )
