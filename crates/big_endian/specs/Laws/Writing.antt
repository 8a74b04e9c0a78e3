-- Writes side by side are one write.
use Rattle.std.specs.Prelude.{ℕ, ◌+◌, ◌<◌, ◌≤◌, List, [], ◌∷◌, ◌++◌, ◌≡◌, refl, length, take, get_or, set}
use Rattle.std.proofs.Common.{arith, add-one, sym, ap, ◌∙◌, length-append, length-take-le, take-suc}
use Rattle.big_endian.specs.Bytes.{put}
use Rattle.big_endian.specs.Laws.Puts.{put_one, put_then, length-put}

-- `l'` is `l` after the bytes `bs` were written from place `at` on, by one write or by several side by side
pub data Wrote : ℕ → List ℕ → List ℕ → List ℕ → Type 0 where
  once : {at : ℕ} {bs l l' : List ℕ} → l' ≡ put at bs l → Wrote at bs l l'
  next : {at n : ℕ} (xs : List ℕ) {ys l l₁ l' : List ℕ} → l₁ ≡ put at xs l → n ≡ at + length xs → Wrote n ys l₁ l' → Wrote at (xs ++ ys) l l'

-- where they fit, the writes are one
pub wrote : {at : ℕ} {bs l l' : List ℕ} → Wrote at bs l l' → at + length bs ≤ length l → l' ≡ put at bs l
wrote (once e) h = e
wrote {at} {l = l} (next {n = n} xs {ys = ys} {l₁ = l₁} e k r) h =
    let a : length (xs ++ ys) ≡ length xs + length ys = length-append xs ys in
    let b : length l₁ ≡ length l = ap length e ∙ length-put at xs l in
    put_then at n xs ys l l₁ _ e (wrote r (omega arith)) k h

-- of a list that is put element by element, one more
pub put_next : (at i : ℕ) (xs l l₁ : List ℕ) → at + length xs ≤ length l → i < length xs → l₁ ≡ put at (take i xs) l → set l₁ (at + i) (get_or xs i 0) ≡ put at (take (i + 1) xs) l
put_next at i xs l l₁ h k e =
    let b : List ℕ = get_or xs i 0 ∷ [] in
    let m : length (take i xs) ≡ i = length-take-le i xs (omega arith) in
    let g : length l₁ ≡ length l = ap length e ∙ length-put at (take i xs) l in
    sym (put_one (at + i) (get_or xs i 0) l₁ (omega arith))
    ∙ put_then at (at + i) (take i xs) b l l₁ _ e refl (ap (λ (n : ℕ). at + n) (sym m)) (rw length-append (omega arith))
    ∙ ap (λ (t : List ℕ). put at t l) (sym (rw add-one (take-suc xs i 0 k)))
