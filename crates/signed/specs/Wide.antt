-- A number of two words.
use Rattle.std.specs.Prelude.{ℕ, ◌+◌, ◌*◌, ◌^◌}
use Rattle.signed.specs.declared.Wide.{Wide}

-- the number whose digits to the base 2 ^ 64 are the two words
abbrev pub wide : Wide → ℕ
wide w = w.high * 2 ^ 64 + w.low
