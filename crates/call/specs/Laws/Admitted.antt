-- A call is admitted where its time and its answer buffer are not refused.
use Rattle.std.specs.Prelude.{ℕ, ◌≤◌, ◌≡◌, Bool, ltb}
use Rattle.std.proofs.Common.{arith, sym, ltb-false}
use Rattle.std.proofs.Math.Path.{refl, ap}
use Rattle.std.proofs.Math.Bool.{true, false, cond}
use Rattle.time.specs.declared.HostTime.{HostTime}
use Rattle.model.specs.Calls.{Outcome, refused, admit, timely}
use Rattle.call.specs.Inner.Refusal.{refusal, number_of}
use Rattle.call.specs.declared.refusals.Refusal.{Refusal}
use Rattle.call.specs.declared.refusals.Refusal.TheVariants.{TimeOutOfRange, BufferTooSmall, PacketTooLong, InterfacesFull}

-- the number by the two tests
abbrev by_tests : Bool → Bool → ℕ
by_tests t b = cond t (cond b 2 0) 1

module _ (at : HostTime) (buf_size : ℕ) (o : Outcome) where
  pub admit_refused : (n : ℕ) → refusal at buf_size ≡ n → (n ≡ 0 → ⊥) → admit at buf_size o ≡ refused n
  unfolding admit
  admit_refused n h f = go (timely at) (ltb buf_size 4096) h
    where
      go : (t b : Bool) → by_tests t b ≡ n → cond t (cond b (refused 2) o) (refused 1) ≡ refused n
      go true true e = ap refused e
      go true false e = absurd (f (sym e))
      go false b e = ap refused e

  pub admit_taken : refusal at buf_size ≡ 0 → admit at buf_size o ≡ o
  unfolding admit
  admit_taken h = go (timely at) (ltb buf_size 4096) h
    where
      go : (t b : Bool) → by_tests t b ≡ 0 → cond t (cond b (refused 2) o) (refused 1) ≡ o
      go true true e = let y : ⊥ = omega (arith, e) in absurd y
      go true false e = refl
      go false b e = let y : ⊥ = omega (arith, e) in absurd y

pub enough_room : (at : HostTime) (buf_size : ℕ) → refusal at buf_size ≡ 0 → 4096 ≤ buf_size
enough_room at buf_size h = go (timely at) (ltb buf_size 4096) (ltb-false buf_size 4096) h
  where
    go : (t b : Bool) → (b ≡ false → 4096 ≤ buf_size) → by_tests t b ≡ 0 → 4096 ≤ buf_size
    go true true f e = let y : ⊥ = omega (arith, e) in absurd y
    go true false f e = f refl
    go false b f e = let y : ⊥ = omega (arith, e) in absurd y

-- no refusal has the number of a call that is done
pub number_above : (r : Refusal) → number_of r ≡ 0 → ⊥
number_above TimeOutOfRange e = omega (arith, e)
number_above BufferTooSmall e = omega (arith, e)
number_above PacketTooLong e = omega (arith, e)
number_above InterfacesFull e = omega (arith, e)
