-- The first of the earliest timers, found box by box.
use Rattle.std.specs.Prelude.{◌≡◌, ℕ, ◌+◌, ◌<◌, ◌≤◌, Bool, true, false, nat_lt, refl}
use Rattle.std.proofs.Common.{arith, subst, ltb-true, ltb-false}
use Rattle.room_world.specs.Next.{IsFirst}

-- what holds before i and at i
also_at : (P : ℕ → Type 0) (i : ℕ) → ((j : ℕ) → j < i → P j) → P i → (j : ℕ) → j < i + 1 → P j
also_at P i before here j h = go (nat_lt j i) refl
  where
    go : (t : Bool) → nat_lt j i ≡ t → P j
    go true t = before j (ltb-true j i t)
    go false t =
        let ends : i ≤ j = ltb-false j i t in
        let same : i ≡ j = omega (arith, h, ends) in
        subst P same here

module _ (timer : ℕ → ℕ) where
  pub of_one : IsFirst timer 1 0
  of_one = record {
    is_among = omega arith;
    earliest = also_at (λ j. timer 0 ≤ timer j) 0 (λ j h. omega (arith, h)) (omega arith);
    first = λ j h. omega (arith, h);
  }

  pub with_earlier : (n i : ℕ) → IsFirst timer n i → timer n < timer i → IsFirst timer (n + 1) n
  with_earlier n i f h = record {
    is_among = omega arith;
    earliest = also_at (λ j. timer n ≤ timer j) n (λ j l. omega (arith, f.earliest j l, h)) (omega arith);
    first = λ j l. omega (arith, f.earliest j l, h);
  }

  pub with_later : (n i : ℕ) → IsFirst timer n i → timer i ≤ timer n → IsFirst timer (n + 1) i
  with_later n i f h = record {
    is_among = omega (arith, f.is_among);
    earliest = also_at (λ j. timer i ≤ timer j) n f.earliest h;
    first = f.first;
  }
