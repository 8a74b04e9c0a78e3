-- `from_tempo` has the rule of the table of whole tempos.
use Rattle.std.specs.Prelude.{◌≡◌, ℕ, ◌+◌, ◌-◌, ◌≤◌, ℤ, pos, Float, refl}
use Rattle.std.proofs.Common.{sym, ap, ◌∙◌, arith}
use Rattle.std.specs.Float.{binary64}
use Rattle.std.specs.Float.Ieee.{of_int, to_signed, div, round}
use Rattle.float.specs.Whole.{round_of}
use Rattle.time.specs.Convert.{minute, whole, from_tempo}
use Rattle.time.specs.WholeTempo.{whole_tempo}
use Rattle.time.specs.Inner.WholeTempo.{InTable}
use Rattle.time.specs.Laws.WholeTempos.{listed, agree_at}
use Rattle.time.proofs.Constants.{minute_is}

-- what `from_tempo` gives at whole tempos, and what the rule gives, as integers
abbrev converted : ℕ → ℤ
converted n = from_tempo (of_int binary64 (pos n))

abbrev expected : ℕ → ℤ
expected n = pos (whole_tempo n)

-- the test, computed over the 980 numbers
all_agree : listed converted 980 20 ≡ listed expected 980 20
unfolding from_tempo whole round_of to_signed div minute of_int round whole_tempo
all_agree = refl

-- on a whole tempo from 20 to 999, the formula gives the rule
pub whole_from_tempo : (n : ℕ) → 20 ≤ n → n ≤ 999 → from_tempo (of_int binary64 (pos n)) ≡ pos (whole_tempo n)
whole_from_tempo n l u = agree_at converted expected (pos 0) 980 20 all_agree n l (omega arith)

-- so the entry of a whole tempo, which the code finds at n - 20, is what `from_tempo` gives
pub entry_is : (x : Float) (n : ℕ) → InTable x n → pos (whole_tempo (20 + (n - 20))) ≡ from_tempo x
entry_is x n t =
    let e : 20 + (n - 20) ≡ n = omega (arith, t.0) in
    ap (λ (k : ℕ). pos (whole_tempo k)) e ∙ sym (whole_from_tempo n t.0 t.1) ∙ ap from_tempo (sym t.2)

-- what `TempoWire::from_tempo` rests on
pub ruleset conversion = (minute_is, entry_is)
