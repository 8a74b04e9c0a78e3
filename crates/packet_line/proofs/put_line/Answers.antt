-- The packet's text and a newline fit into the line, and go out as they stand there.
use Rattle.std.proofs.Common.{◌∙◌, sym, ap, length-take-le, arith}
use Rattle.big_endian.specs.Bytes.{put}
use Rattle.text.specs.Ascii.{ascii}
use Rattle.text.specs.Laws.Parts.{◌then◌, word, counted, within, standing}
use Rattle.packet_line.specs.Line.{line_of}
use Rattle.packet_line.proofs.put_line.Goals as goal

pub slice_bounds-line-end : goal.slice_bounds-line-end
slice_bounds-line-end c = within (c.put_packet-at.ensures then word c.put_bytes-end.ensures) (omega arith)

pub slice_bounds-put_bytes-end-3 : goal.slice_bounds-put_bytes-end-3
slice_bounds-put_bytes-end-3 c = sym (length-take-le _ _ (within (c.put_packet-at.ensures then word c.put_bytes-end.ensures) (omega arith)))

pub returns : goal.returns
unfolding line_of ascii
returns c =
    let line = c.put_packet-at.ensures then word c.put_bytes-end.ensures in record {
      out_after = c.put_bytes.ensures.bytes ∙ ap (λ line. put 0 line c.args.out.now) (standing line (omega arith));
      value = counted line (omega arith);
      upper_bound = omega (arith, counted line (omega arith), line.short);
    }
