-- Numbers that were written side by side.
use Rattle.std.specs.Prelude.{ℕ, ◌+◌, ◌≤◌, ◌≡◌, List, length}
use Rattle.std.proofs.Common.{arith, sym, ap, ◌∙◌}
use Rattle.big_endian.specs.Bytes.{put}
use Rattle.big_endian.specs.Laws.Writing.{Wrote, wrote}

-- fields that were written side by side, as the bytes that they make up
pub wrote_as : {at : ℕ} {bs fields l l' : List ℕ} → bs ≡ fields → Wrote at fields l l' → at + length bs ≤ length l → l' ≡ put at bs l
wrote_as {at} {l = l} e w h =
    wrote w (omega (arith, ap length e)) ∙ ap (λ (t : List ℕ). put at t l) (sym e)
