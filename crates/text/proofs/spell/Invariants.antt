use Rattle.std.proofs.Common.{◌≡◌, length}
use Rattle.big_endian.specs.Bytes.{put}
use Rattle.text.specs.Numerals.{digits}
use Rattle.text.proofs.spell.Given as goal

-- with the digits that are left put, the slice is what it is to be
abbrev pub invariant-loop-left : goal.invariant-loop-left
invariant-loop-left l = record {
  same_length : length l.s ≡ length l.fn.s;
  to_be : put l.at (digits l.base l.left l.rest) l.s ≡ put l.at (digits l.base l.width l.n) l.fn.s;
}
