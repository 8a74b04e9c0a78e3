-- The address, and the packet in the rest of the part.
use Rattle.std.proofs.Common.{◌≡◌, ◌∙◌, ◌-◌, refl, ap, arith, length}
use borrow.Rule.Slice.PartMut.{put_mid}
use Rattle.big_endian.specs.Bytes.{bytes}
use Rattle.big_endian.specs.Laws.Puts.{length-put}
use Rattle.big_endian.specs.Laws.Writing.{once, next, wrote}
use Rattle.wire.specs.Layout.{addr_bytes}
use Rattle.model.specs.Answer.{content}
use Rattle.output.specs.Inner.Outputs.{packet_bytes}
use Rattle.output.specs.Laws.Parts.{in_front, rest_put}
use Rattle.output.proofs.packets.write_send.Goals as goal

pub returns : goal.returns
unfolding content addr_bytes bytes
returns c =
    let packet = packet_bytes c.args.echo.now c.args.packet in
    let l = c.write_address.new.part in
    let n : length l ≡ length c.args.part.now = ap length c.write_address.ensures ∙ length-put _ _ _ in
    let tail = ap (put_mid 10 (length l - 10) l) (in_front _ _ c.write.ensures) ∙ rest_put 10 packet l (omega (arith, n, c.requires)) in
    wrote (next _ c.write_address.ensures refl (once tail)) (omega (arith, c.requires))
