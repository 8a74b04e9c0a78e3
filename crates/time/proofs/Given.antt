-- What follows of functions from their contracts. `Post` is a contract's promise, at the arguments, the result and the parameters at exit.
use Rattle.std.proofs.Common.{◌≡◌, ℕ, pos, sym, refl, ap, ◌∙◌, arith}
use lib.Ieee.{binary64, of_int}
use borrow.Fn.Kinds.{Dens, res_t, ended_of}
use contract.Lifetimes.{Lfts}
use denote.Triple.Clauses.{AtExit}
use Rattle.time.specs.Convert.{from_tempo}
use Rattle.time.specs.WholeTempo.{whole_tempo}
use Rattle.time.specs.Inner.WholeTempo.{InTable}
use Rattle.time.specs.Laws.WholeTempos.{whole_tempo_512}
use Rattle.time.proofs.Laws.WholeTempos.{whole_from_tempo}
use Rattle.time.proofs.TempoWire.from_tempo.Kinds as kinds
use Rattle.time.proofs.TempoWire.from_tempo.Reads as reads

-- on a whole tempo n from 20 to 999, `from_tempo` returns entry n
pub whole_given : (n : ℕ) (κs : Lfts 0) (args : Dens κs kinds.ps) (r : (res_t kinds.r κs).Denot) (exit : AtExit (ended_of 0 kinds.ps kinds.r) κs)
    → reads.Post κs args r exit → InTable args.0.0 n → r.0 ≡ pos (whole_tempo n)
whole_given n κs args r exit met t = met ∙ ap from_tempo t.2 ∙ whole_from_tempo n t.0 t.1

-- its premises can be met: at 512 beats per minute, with 117,188 microseconds per beat
pub given_at_512 : (κs : Lfts 0) (exit : AtExit (ended_of 0 kinds.ps kinds.r) κs)
    → reads.Post κs (record { 0 = of_int binary64 (pos 512) }, tt) (record { 0 = pos 117_188 }) exit × InTable (of_int binary64 (pos 512)) 512
given_at_512 κs exit =
    (sym (ap pos whole_tempo_512) ∙ sym (whole_from_tempo 512 (omega arith) (omega arith)), (omega arith, omega arith, refl))
