-- std's accounts of `abs`, `floor` and `round` are this crate's.
use Rattle.std.proofs.Common.{◌≡◌, ℕ, ◌+◌, ◌-◌, ◌*◌, ◌/◌, true, false, refl, ap, arith}
use Rattle.std.specs.Float.{Float, nan, inf, fin, binary64}
use Rattle.std.specs.Float.Ieee.{up, down, round}
use Rattle.std.specs.Float.Ieee.Fits.{down_pos}
use Rattle.std.specs.Float as Methods
use Rattle.std.specs.Float.{float_with_sign, round_with, float_round}
use Rattle.float.specs.Whole.{abs_of, floor_of, round_of}

pub size : (x : Float) → float_with_sign false x ≡ abs_of x
unfolding abs_of float_with_sign
size nan = refl
size (inf s) = refl
size (fin s m e) = refl

pub floored : (x : Float) → Methods.floor binary64 x ≡ floor_of x
unfolding floor_of round_with
floored nan = refl
floored (inf s) = refl
floored (fin false m e) = refl
floored (fin true m e) =
    let p = down_pos e in
    let k : m * up e + down e - 1 ≡ m * up e + (down e - 1) = omega arith in
    ap (λ (n : ℕ). round binary64 true (n / down e) 1) k

pub rounded : (x : Float) → float_round binary64 x ≡ round_of x
unfolding round_of round_with
rounded nan = refl
rounded (inf s) = refl
rounded (fin false m e) = refl
rounded (fin true m e) = refl
