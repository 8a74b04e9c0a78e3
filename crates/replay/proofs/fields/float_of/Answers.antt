-- `float_of` takes the float of bits that are, their sign aside, no more than an infinity's, so of no NaN's.
use Rattle.std.proofs.Common.{◌*◌, ◌%◌, ◌∙◌, sym, subst}
use mathlib.Core.Bool.{not}
use borrow.Author.Tests.{le-ltb}
use lib.Dec.{T}
use lib.Ieee.{binary64, ones, hid, top}
use lib.Ieee.Bits.{nan_bits_above}
use Rattle.replay.proofs.fields.float_of.Goals as goal

pub float_from_bits-result : goal.float_from_bits-result
float_from_bits-result c =
    let b = c.args.bits in
    subst (λ t. T (not t)) (sym (nan_bits_above binary64 b ∙ le-ltb (ones binary64 * hid binary64) (b % top binary64) c.if-bits-gt-INFINITY.false)) tt
