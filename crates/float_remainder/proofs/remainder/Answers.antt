-- The special cases by what each operation makes of them, and two finite numbers by their sizes (`proofs/Values.antt`).
use Rattle.std.proofs.Common.{◌^◌, ◌∙◌}
use lib.Dec.{leb}
use lib.Ieee.{binary64, to_bits}
use Rattle.signed.specs.Laws.Tests.{yes}
use Rattle.float.proofs.Fields.{no_nan}
use Rattle.float_remainder.proofs.Values.{tested, nan_left, nan_right, inf_left, infinite, by_infinity, by_zero, by_finite}
use Rattle.float_remainder.proofs.remainder.Goals as goal

pub returns-then-is_nan : goal.returns-then-is_nan
returns-then-is_nan c = nan_left c.args.x c.args.y (tested c.args.x c.is_nan.ensures.value c.if-is_nan.true)

pub returns-then-is_nan-2 : goal.returns-then-is_nan-2
returns-then-is_nan-2 c = nan_right c.args.x c.args.y (tested c.args.y c.is_nan-2.ensures.value c.if-is_nan-2.true)

pub float_to_bits-x_bits : goal.float_to_bits-x_bits
float_to_bits-x_bits c = no_nan c.args.x (tested c.args.x c.is_nan.ensures.value c.if-is_nan.false)

pub returns-then-x_field-eq-NO_NUMBER : goal.returns-then-x_field-eq-NO_NUMBER
returns-then-x_field-eq-NO_NUMBER c =
    inf_left c.args.x c.args.y (leb (2 ^ 63) (to_bits binary64 c.args.x)) (infinite c.args.x (yes c.well_formed.0.1) (tested c.args.x c.is_nan.ensures.value c.if-is_nan.false) c.if-x_field-eq-NO_NUMBER.true)

pub float_to_bits-y_bits : goal.float_to_bits-y_bits
float_to_bits-y_bits c = no_nan c.args.y (tested c.args.y c.is_nan-2.ensures.value c.if-is_nan-2.false)

pub returns-then-y_field-eq-NO_NUMBER : goal.returns-then-y_field-eq-NO_NUMBER
returns-then-y_field-eq-NO_NUMBER c =
    by_infinity c.args.x c.args.y (yes c.well_formed.0.1) (yes c.well_formed.1.0.1) c.if-x_field-eq-NO_NUMBER.false (tested c.args.y c.is_nan-2.ensures.value c.if-is_nan-2.false) c.if-y_field-eq-NO_NUMBER.true

pub returns-then-divisor-eq0 : goal.returns-then-divisor-eq0
returns-then-divisor-eq0 c =
    by_zero c.args.x c.args.y (yes c.well_formed.0.1) (yes c.well_formed.1.0.1) c.if-x_field-eq-NO_NUMBER.false c.if-y_field-eq-NO_NUMBER.false c.digits_of-divisor.result c.digits_of-divisor.ensures c.if-divisor-eq0.true

pub returns : goal.returns
returns c =
    c.of_sizes.ensures
    ∙ by_finite c.args.x c.args.y (yes c.well_formed.0.1) (yes c.well_formed.1.0.1) c.if-x_field-eq-NO_NUMBER.false c.if-y_field-eq-NO_NUMBER.false c.digits_of-divisor.result c.digits_of-divisor.ensures c.if-divisor-eq0.false
    c.digits_of.result c.saturating_sub.result c.saturating_sub-2.result c.digits_of.ensures c.saturating_sub.ensures c.saturating_sub-2.ensures
