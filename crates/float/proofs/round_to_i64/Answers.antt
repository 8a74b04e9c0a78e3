use Rattle.std.proofs.Common.{rules, ◌∙◌, sym, w64, FitsSigned, to_z-of_z}
use Rattle.signed.specs.Laws.Tests.{yes, no}
use Rattle.float.proofs.Saturating.{rounded_part, nan_rounds}
use Rattle.float.proofs.round_to_i64.Goals as goal

pub returns-then-is_nan : goal.returns-then-is_nan
returns-then-is_nan c = nan_rounds c.args.x (sym c.is_nan.ensures.value ∙ c.if-is_nan.true)

pub returns : goal.returns
returns c =
    let f : FitsSigned w64 c.with_sign.result = search rules in
    to_z-of_z f
    ∙ c.with_sign.ensures
    ∙ rounded_part c.args.x (yes c.well_formed.0.1) (no (sym c.is_nan.ensures.value ∙ c.if-is_nan.false)) c.digits_of.result c.cut_of-cut.result c.up_of.result
    c.digits_of.ensures c.cut_of-cut.ensures c.up_of.ensures
