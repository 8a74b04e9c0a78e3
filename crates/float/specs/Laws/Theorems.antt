-- What the definitions say at the places that matter: halves, ties, the ends of the range, zeros and their signs.
use Rattle.std.specs.Prelude.{◌≡◌, refl, Bool, true, false, List, [], ◌∷◌, map, ℕ, ◌+◌, ◌-◌, ◌*◌, ◌/◌, ◌^◌, pos, negsuc}
use Rattle.std.proofs.Common.{ap, arith}
use Rattle.std.specs.Float.Ieee as Ieee
use Rattle.std.specs.Float.{nan, inf, fin, binary64}
use Rattle.std.specs.Float.Ieee.{of_bits, of_int, to_signed}
use Rattle.float.specs.Whole.{floor_of, round_of}

-- k and a half rounds away from zero, to k + 1 with its sign
pub round-half : (s : Bool) (k : ℕ) → round_of (fin s (2 * k + 1) (negsuc 0)) ≡ Ieee.round binary64 s (k + 1) 1
unfolding round_of
round-half s k = let e : (2 * ((2 * k + 1) * 1) + 2) / (2 * 2) ≡ k + 1 = omega arith in ap (λ (n : ℕ). Ieee.round binary64 s n 1) e

-- k and a half goes down to k, and -k and a half to -(k + 1)
pub floor_half : (k : ℕ) → floor_of (fin false (2 * k + 1) (negsuc 0)) ≡ Ieee.round binary64 false k 1
unfolding floor_of
floor_half k = let e : (2 * k + 1) * 1 / 2 ≡ k = omega arith in ap (λ (n : ℕ). Ieee.round binary64 false n 1) e

pub floor_minus_half : (k : ℕ) → floor_of (fin true (2 * k + 1) (negsuc 0)) ≡ Ieee.round binary64 true (k + 1) 1
unfolding floor_of
floor_minus_half k = let e : ((2 * k + 1) * 1 + (2 - 1)) / 2 ≡ k + 1 = omega arith in ap (λ (n : ℕ). Ieee.round binary64 true n 1) e

-- a number's bits, and those of its floor and of its round
pub record Row : Type 0 where
  pub x : ℕ
  pub floor : ℕ
  pub round : ℕ

unfoldable pub rows : List Row
rows =
    -- 0.5
    record { x = 0x3fe0_0000_0000_0000; floor = 0; round = 0x3ff0_0000_0000_0000 }
    -- the number below 0.5
    ∷ record { x = 0x3fdf_ffff_ffff_ffff; floor = 0; round = 0 }
    -- -0.5
    ∷ record { x = 0xbfe0_0000_0000_0000; floor = 0xbff0_0000_0000_0000; round = 0xbff0_0000_0000_0000 }
    -- 2.5
    ∷ record { x = 0x4004_0000_0000_0000; floor = 0x4000_0000_0000_0000; round = 0x4008_0000_0000_0000 }
    -- -0.3
    ∷ record { x = 0xbfd3_3333_3333_3333; floor = 0xbff0_0000_0000_0000; round = 0x8000_0000_0000_0000 }
    -- 0 and -0
    ∷ record { x = 0; floor = 0; round = 0 }
    ∷ record { x = 0x8000_0000_0000_0000; floor = 0x8000_0000_0000_0000; round = 0x8000_0000_0000_0000 }
    -- 2 ^ 52 - 0.5, the last number with a half
    ∷ record { x = 0x432f_ffff_ffff_ffff; floor = 0x432f_ffff_ffff_fffe; round = 0x4330_0000_0000_0000 }
    -- the smallest and the smallest below 0
    ∷ record { x = 1; floor = 0; round = 0 }
    ∷ record { x = 0x8000_0000_0000_0001; floor = 0xbff0_0000_0000_0000; round = 0x8000_0000_0000_0000 }
    -- the largest, and minus infinity
    ∷ record { x = 0x7fef_ffff_ffff_ffff; floor = 0x7fef_ffff_ffff_ffff; round = 0x7fef_ffff_ffff_ffff }
    ∷ record { x = 0xfff0_0000_0000_0000; floor = 0xfff0_0000_0000_0000; round = 0xfff0_0000_0000_0000 }
    ∷ []

pub floor_rows : map (λ (r : Row). floor_of (of_bits binary64 r.x)) rows ≡ map (λ (r : Row). of_bits binary64 r.floor) rows
unfolding floor_of of_bits Ieee.round rows
floor_rows = refl

pub round_rows : map (λ (r : Row). round_of (of_bits binary64 r.x)) rows ≡ map (λ (r : Row). of_bits binary64 r.round) rows
unfolding round_of of_bits Ieee.round rows
round_rows = refl

-- A whole number of more than 53 bits goes to the nearest, a tie to even: 2 ^ 53 + 1 down to 2 ^ 53, 2 ^ 53 + 3 up to 2 ^ 53 + 4.
pub tie_down : of_int binary64 (pos (2 ^ 53 + 1)) ≡ fin false 1 (pos 53)
unfolding of_int Ieee.round
tie_down = refl

pub tie_up : of_int binary64 (pos (2 ^ 53 + 3)) ≡ fin false (2 ^ 51 + 1) (pos 2)
unfolding of_int Ieee.round
tie_up = refl

-- To an i64: NaN gives 0, and what is past an end gives that end.
pub nan_to_zero : to_signed 63 nan ≡ pos 0
unfolding to_signed
nan_to_zero = refl

pub saturates_up : to_signed 63 (inf false) ≡ pos (2 ^ 63 - 1)
unfolding to_signed
saturates_up = refl

pub saturates_down : to_signed 63 (inf true) ≡ negsuc (2 ^ 63 - 1)
unfolding to_signed
saturates_down = refl

-- 2 ^ 63, one past the largest
pub saturates_at_end : to_signed 63 (fin false 1 (pos 63)) ≡ pos (2 ^ 63 - 1)
unfolding to_signed
saturates_at_end = refl
