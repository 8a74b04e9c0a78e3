-- Laws of `behind` and `Placed`, and that texts laid side by side are one text.
use Rattle.std.specs.Prelude.{ℕ, ◌+◌, ◌<◌, ◌≤◌, List, [], ◌∷◌, ◌++◌, ◌≡◌, length, take, drop}
use Rattle.std.proofs.Common.{arith, append_assoc, sym, ap, ap₂, ◌∙◌, le-leb, length-append, drop_at, length-take-le}
use Rattle.std.proofs.lemmas.Bool.{lt-leb}
use Rattle.big_endian.specs.Bytes.{put}
use Rattle.big_endian.specs.Laws.Puts.{by_bound, put_within, put_past, put_empty, put_then, length-put, part_put_before}
use Rattle.text.specs.Placed.{behind, Placed, Laid}

pub behind_within : (len at width : ℕ) → at + width ≤ len → behind len at width ≡ at + width
unfolding behind
behind_within len at width h = rw (le-leb _ _ h)

pub behind_past : (len at width : ℕ) → len < at + width → behind len at width ≡ at
unfolding behind
behind_past len at width h = rw (lt-leb _ _ h)

-- from a place within, the next is within
behind_most : (len at width : ℕ) → at ≤ len → behind len at width ≤ len
behind_most len at width h =
    by_bound (at + width) len
    (λ k. omega (arith, behind_within len at width k))
    (λ k. omega (arith, behind_past len at width k))

-- a place behind the first is within
pub moved_within : (len at width : ℕ) → at < behind len at width → at + width ≤ len
moved_within len at width h =
    by_bound (at + width) len (λ k. k) (λ k. absurd (omega (arith, behind_past len at width k)))

-- no place behind the first: nothing is put, or there is nothing to put
pub unmoved_put : (at : ℕ) (text l : List ℕ) → behind (length l) at (length text) ≤ at → put at text l ≡ l
unmoved_put at [] l h = put_empty at l
unmoved_put at (x ∷ xs) l h =
    by_bound (at + length (x ∷ xs)) (length l)
    (λ k. absurd (omega (arith, behind_within (length l) at (length (x ∷ xs)) k)))
    (λ k. put_past at (x ∷ xs) l k)

-- what is put in front of what was put is put with it
pub put_before : (at : ℕ) (xs ys l : List ℕ) → at + length (xs ++ ys) ≤ length l → put at xs (put (at + length xs) ys l) ≡ put at (xs ++ ys) l
put_before at xs ys l h =
    let a : length (xs ++ ys) ≡ length xs + length ys = length-append xs ys in
    let n : ℕ = at + length xs in
    let m : List ℕ = put n ys l in
    let s : length m ≡ length l = length-put n ys l in
    let k : n + length ys ≡ at + length (xs ++ ys) = omega arith in
    let tk : take at m ≡ take at l = part_put_before at 0 n ys l (omega arith) in
    let dr : drop n m ≡ ys ++ drop (at + length (xs ++ ys)) l =
    ap (drop n) (put_within n ys l (omega arith))
    ∙ drop_at (take n l) (ys ++ drop (n + length ys) l) n (length-take-le n l (omega arith))
    ∙ ap (λ (j : ℕ). ys ++ drop j l) k in
    put_within at xs m (omega arith)
    ∙ ap₂ (λ (t d : List ℕ). t ++ (xs ++ d)) tk dr
    ∙ ap (λ (t : List ℕ). take at l ++ t) (sym (append_assoc xs ys (drop (at + length (xs ++ ys)) l)))
    ∙ sym (put_within at (xs ++ ys) l h)

-- two texts side by side are one
pub both : {at n m : ℕ} {xs ys l l₁ l₂ : List ℕ} → Laid at xs l n l₁ → Laid n ys l₁ m l₂ → Laid at (xs ++ ys) l m l₂
both {at} {n} {m} {xs} {ys} {l} {l₁} {l₂} p q h =
    let a : length (xs ++ ys) ≡ length xs + length ys = length-append xs ys in
    let g : at + length xs ≤ length l = omega arith in
    let e₁ : l₁ ≡ put at xs l = (p g).bytes in
    let f₁ : n ≡ at + length xs = (p g).place ∙ behind_within (length l) at (length xs) g in
    let s : length l₁ ≡ length l = ap length e₁ ∙ length-put at xs l in
    let k : n + length ys ≤ length l₁ = omega arith in
    let e₂ : l₂ ≡ put n ys l₁ = (q k).bytes in
    let f₂ : m ≡ n + length ys = (q k).place ∙ behind_within (length l₁) n (length ys) k in
    record {
      bytes = put_then at n xs ys l l₁ l₂ e₁ e₂ f₁ h;
      place = omega (arith, behind_within (length l) at (length (xs ++ ys)) h);
    }

-- the place that is given lies within, where the first does
pub placed_within : {at : ℕ} {text l : List ℕ} {n : ℕ} {l' : List ℕ} → Placed at text l n l' → at ≤ length l → n ≤ length l'
placed_within {at} {text} {l} p h = omega (arith, p.place, behind_most (length l) at (length text) h, ap length p.bytes ∙ length-put at text l)
