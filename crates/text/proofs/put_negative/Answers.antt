use Rattle.std.proofs.Common.{◌≡◌, ◌+◌, ◌∷◌, [], length, refl, sym, ap, ◌∙◌, arith}
use Rattle.big_endian.specs.Laws.Puts.{put_then}
use Rattle.text.specs.Numerals.{decimal}
use Rattle.text.specs.Placed.{behind}
use Rattle.text.specs.Laws.Decimals.{length-decimal, places_most}
use Rattle.text.specs.Laws.Placing.{moved_within, unmoved_put}
use Rattle.text.proofs.put_negative.Goals as goal

pub overflow_add-places : goal.overflow_add-places
overflow_add-places c = record { fits = omega (arith, places_most 20 c.args.size (omega arith) (omega arith)) }

pub returns-then-at-next : goal.returns-then-at-next
returns-then-at-next c =
    let a = c.args in
    let l = a.s.now in
    let k : c.places.result + 1 ≡ length (45 ∷ decimal a.size) = omega (arith, c.places.ensures, length-decimal a.size) in
    let h = moved_within (length l) a.at (c.places.result + 1) (omega (arith, c.behind-next.ensures)) in
    record {
      bytes = put_then a.at (a.at + 1) (45 ∷ []) (decimal a.size) l _ _ c.put_bytes.ensures.bytes c.put_decimal.ensures.bytes refl (omega (arith, h));
      place = c.behind-next.ensures ∙ ap (behind (length l) a.at) k;
    }

pub returns-else-at-next : goal.returns-else-at-next
returns-else-at-next c =
    let a = c.args in
    let l = a.s.now in
    let k : c.places.result + 1 ≡ length (45 ∷ decimal a.size) = omega (arith, c.places.ensures, length-decimal a.size) in
    let e = c.behind-next.ensures ∙ ap (behind (length l) a.at) k in
    record { bytes = sym (unmoved_put a.at _ l (omega (arith, e))); place = e }
