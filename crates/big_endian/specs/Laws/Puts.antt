-- Laws of `put` and `number_at`: what stands where something was put, and elsewhere.
use Rattle.std.specs.Prelude.{ℕ, ◌+◌, ◌-◌, ◌/◌, ◌%◌, ◌^◌, ◌<◌, ◌≤◌, Bool, true, false, cond, ◌≡◌, refl, List, [], ◌∷◌, ◌++◌, leb, length, take, drop, set, get_or}
use Rattle.std.proofs.Common.{zero-add, add-zero, add-one, arith, sym, ap, ap₂, ◌∙◌, append_assoc, append-nil, le-leb, leb-true, leb-false, length-append, length-take, length-drop, take-append-drop, drop_of_length-le, take_at, drop_at, drop-drop, drop-cons, length-take-le}
use Rattle.std.proofs.lemmas.Bool.{lt-leb}
use Rattle.std.proofs.lemmas.List.{take-append-le, drop-append-le, set_split}
use Rattle.big_endian.specs.Bytes.{bytes, number, put, number_at}
use Rattle.big_endian.specs.Laws.Numbers.{length-bytes, number_bytes}

-- ---- by the bound

pub put_within : (at : ℕ) (bs l : List ℕ) → at + length bs ≤ length l → put at bs l ≡ take at l ++ (bs ++ drop (at + length bs) l)
unfolding put
put_within at bs l h = rw (le-leb _ _ h)

pub put_past : (at : ℕ) (bs l : List ℕ) → length l < at + length bs → put at bs l ≡ l
unfolding put
put_past at bs l h = rw (lt-leb _ _ h)

pub put_bytes_past : (w at n : ℕ) (l : List ℕ) → length l < at + w → put at (bytes w n) l ≡ l
put_bytes_past w at n l h = put_past at (bytes w n) l (rw length-bytes h)

pub number_at_within : (w at : ℕ) (l : List ℕ) → at + w ≤ length l → number_at w at l ≡ number (take w (drop at l))
unfolding number_at
number_at_within w at l h = rw (le-leb _ _ h)

pub number_at_past : (w at : ℕ) (l : List ℕ) → length l < at + w → number_at w at l ≡ 0
unfolding number_at
number_at_past w at l h = rw (lt-leb _ _ h)

-- the two cases of a bound
pub by_bound {ℓ} : {X : Type ℓ} (a b : ℕ) → (a ≤ b → X) → (b < a → X) → X
by_bound {X = X} a b f g = go (leb a b) (leb-true a b) (leb-false a b)
  where
    go : (t : Bool) → (t ≡ true → a ≤ b) → (t ≡ false → b < a) → X
    go true y n = f (y refl)
    go false y n = g (n refl)

-- ---- put

pub length-put : (at : ℕ) (bs l : List ℕ) → length (put at bs l) ≡ length l
length-put at bs l =
    by_bound (at + length bs) (length l)
    (λ h. ap length (put_within at bs l h) ∙ simp (length-append, length-take, length-drop) (omega arith))
    (λ h. ap length (put_past at bs l h))

-- a list in front of one at least as long
pub put_front : (bs l : List ℕ) → length bs ≤ length l → put 0 bs l ≡ bs ++ drop (length bs) l
put_front bs l h = put_within 0 bs l (omega arith) ∙ rw zero-add

-- a list on one of its length
pub put_all : (bs l : List ℕ) → length l ≡ length bs → put 0 bs l ≡ bs
put_all bs l h =
    let g : length l ≤ length bs = omega arith in
    put_front bs l (omega arith) ∙ ap (λ (t : List ℕ). bs ++ t) (drop_of_length-le l g) ∙ append-nil bs

pub put_empty : (at : ℕ) (l : List ℕ) → put at [] l ≡ l
put_empty at l =
    by_bound (at + 0) (length l)
    (λ h. put_within at [] l h ∙ rw add-zero (take-append-drop at l))
    (λ h. put_past at [] l h)

-- one byte is a store
pub put_one : (at b : ℕ) (l : List ℕ) → at < length l → put at (b ∷ []) l ≡ set l at b
put_one at b l h = put_within at (b ∷ []) l (omega arith) ∙ ap (λ (k : ℕ). take at l ++ (b ∷ drop k l)) (add-one at) ∙ sym (set_split l at b h)

-- what a part of l is when it was lent from place at on and came back as bs
pub put_part : (at k : ℕ) (bs l : List ℕ) → length bs ≡ k → at + k ≤ length l → take at l ++ (bs ++ drop k (drop at l)) ≡ put at bs l
put_part at k bs l e h = rw (drop-drop, ← e) (sym (put_within at bs l (omega arith)))

-- l up to place at and the bytes put there, and what is past them
before_put : (at : ℕ) (bs l : List ℕ) → at + length bs ≤ length l → put at bs l ≡ (take at l ++ bs) ++ drop (at + length bs) l
before_put at bs l h = put_within at bs l h ∙ sym (append_assoc (take at l) bs (drop (at + length bs) l))

length_before : (at : ℕ) (bs l : List ℕ) → at + length bs ≤ length l → length (take at l ++ bs) ≡ at + length bs
length_before at bs l h = simp (length-append, length-take) (omega arith)

-- lists put side by side are one list put
pub put_put : (at : ℕ) (xs ys l : List ℕ) → at + length (xs ++ ys) ≤ length l → put (at + length xs) ys (put at xs l) ≡ put at (xs ++ ys) l
put_put at xs ys l h =
    let n : ℕ = at + length xs in
    let p : List ℕ = take at l ++ xs in
    let k : n + length ys ≡ at + length (xs ++ ys) = simp length-append (omega arith) in
    let g : n ≤ length l = omega arith in
    let f : n + length ys ≤ length (put at xs l) = rw length-put (omega arith) in
    let lp : length p ≡ n = length_before at xs l g in
    let tk : take n (put at xs l) ≡ p = ap (take n) (before_put at xs l g) ∙ take_at p (drop n l) n lp in
    let dr : drop (n + length ys) (put at xs l) ≡ drop (at + length (xs ++ ys)) l =
    sym (drop-drop (length ys) n (put at xs l)) ∙ ap (λ (t : List ℕ). drop (length ys) (drop n t)) (before_put at xs l g) ∙ ap (drop (length ys)) (drop_at p (drop n l) n lp) ∙ drop-drop (length ys) n l ∙ ap (λ (m : ℕ). drop m l) k in
    put_within n ys (put at xs l) f
    ∙ ap₂ (λ (s t : List ℕ). s ++ (ys ++ t)) tk dr
    ∙ append_assoc (take at l) xs (ys ++ drop (at + length (xs ++ ys)) l)
    ∙ ap (λ (t : List ℕ). take at l ++ t) (sym (append_assoc xs ys (drop (at + length (xs ++ ys)) l)))
    ∙ sym (put_within at (xs ++ ys) l h)

-- one write after another, as a function's proof has them
pub put_then : (at n : ℕ) (xs ys l l₁ l₂ : List ℕ) → l₁ ≡ put at xs l → l₂ ≡ put n ys l₁ → n ≡ at + length xs → at + length (xs ++ ys) ≤ length l → l₂ ≡ put at (xs ++ ys) l
put_then at n xs ys l l₁ l₂ e₁ e₂ e h = e₂ ∙ ap₂ (λ (k : ℕ) (t : List ℕ). put k ys t) e e₁ ∙ put_put at xs ys l h

-- a turn of a loop that writes: of what was left to put, ws, it puts xs, and ys is left
pub put_turn : (at n : ℕ) (xs ys ws l l₁ : List ℕ) → ws ≡ xs ++ ys → n ≡ at + length xs → at + length ws ≤ length l → l₁ ≡ put at xs l → put n ys l₁ ≡ put at ws l
put_turn at n xs ys ws l l₁ ew en h e =
    let k : at + length (xs ++ ys) ≤ length l = omega (arith, ap length ew) in
    ap₂ (λ (m : ℕ) (t : List ℕ). put m ys t) en e ∙ put_put at xs ys l k ∙ ap (λ (t : List ℕ). put at t l) (sym ew)

-- a byte
pub put_byte : (at b : ℕ) (l : List ℕ) → b < 256 → at < length l → put at (bytes 1 b) l ≡ set l at b
unfolding bytes
put_byte at b l k h = let e : b / 1 % 256 ≡ b = omega arith in ap (λ (n : ℕ). put at (n ∷ []) l) e ∙ put_one at b l h

-- ---- reading what was put

-- the bytes at the place
pub part_put : (at : ℕ) (bs l : List ℕ) → at + length bs ≤ length l → take (length bs) (drop at (put at bs l)) ≡ bs
part_put at bs l h =
    ap (λ (t : List ℕ). take (length bs) (drop at t)) (put_within at bs l h)
    ∙ ap (take (length bs)) (drop_at (take at l) (bs ++ drop (at + length bs) l) at (length-take-le at l (omega arith)))
    ∙ take_at bs (drop (at + length bs) l) (length bs) refl

-- those before it
pub part_put_before : (v k at : ℕ) (bs l : List ℕ) → k + v ≤ at → take v (drop k (put at bs l)) ≡ take v (drop k l)
part_put_before v k at bs l h =
    by_bound (at + length bs) (length l)
    (λ f. ap (λ (t : List ℕ). take v (drop k t)) (put_within at bs l f)
    ∙ same (bs ++ drop (at + length bs) l) (omega arith)
    ∙ sym (same (drop at l) (omega arith)) ∙ ap (λ (t : List ℕ). take v (drop k t)) (take-append-drop at l))
    (λ f. ap (λ (t : List ℕ). take v (drop k t)) (put_past at bs l f))
  where
    same : (r : List ℕ) → at ≤ length l → take v (drop k (take at l ++ r)) ≡ take v (drop k (take at l))
    same r g =
        let e : length (take at l) ≡ at = length-take-le at l g in
        ap (take v) (drop-append-le k (take at l) r (omega arith)) ∙ take-append-le v (drop k (take at l)) r (rw length-drop (omega arith))

-- those past it
pub drop-put_past : (k at : ℕ) (bs l : List ℕ) → at + length bs ≤ k → drop k (put at bs l) ≡ drop k l
drop-put_past k at bs l h =
    by_bound (at + length bs) (length l)
    (λ f. let n : ℕ = at + length bs in
    let e : n + (k - n) ≡ k = omega arith in
    ap₂ drop (sym e) (before_put at bs l f)
    ∙ sym (drop-drop (k - n) n ((take at l ++ bs) ++ drop n l))
    ∙ ap (drop (k - n)) (drop_at (take at l ++ bs) (drop n l) n (length_before at bs l f))
    ∙ drop-drop (k - n) n l ∙ ap (λ (m : ℕ). drop m l) e)
    (λ f. ap (drop k) (put_past at bs l f))

-- ---- numbers at a place

-- by the part that it is read from and the length of the list
number_at_same : (w k : ℕ) (l l' : List ℕ) → length l ≡ length l' → take w (drop k l) ≡ take w (drop k l') → number_at w k l ≡ number_at w k l'
unfolding number_at
number_at_same w k l l' e p = ap₂ (λ (n : ℕ) (t : List ℕ). cond (leb (k + w) n) (number t) 0) e p

pub number_at_put : (w at n : ℕ) (l : List ℕ) → at + w ≤ length l → number_at w at (put at (bytes w n) l) ≡ n % 256 ^ w
number_at_put w at n l h =
    let e : length (bytes w n) ≡ w = length-bytes w n in
    number_at_within w at (put at (bytes w n) l) (rw length-put h)
    ∙ ap number (ap (λ (k : ℕ). take k (drop at (put at (bytes w n) l))) (sym e) ∙ part_put at (bytes w n) l (omega arith))
    ∙ number_bytes w n

pub number_at_put_before : (w k at : ℕ) (bs l : List ℕ) → k + w ≤ at → number_at w k (put at bs l) ≡ number_at w k l
number_at_put_before w k at bs l h = number_at_same w k (put at bs l) l (length-put at bs l) (part_put_before w k at bs l h)

pub number_at_put_past : (w k at : ℕ) (bs l : List ℕ) → at + length bs ≤ k → number_at w k (put at bs l) ≡ number_at w k l
number_at_put_past w k at bs l h = number_at_same w k (put at bs l) l (length-put at bs l) (ap (take w) (drop-put_past k at bs l h))

-- a byte
pub number_at_one : (at : ℕ) (l : List ℕ) → at < length l → number_at 1 at l ≡ get_or l at 0
unfolding number
number_at_one at l h = number_at_within 1 at l (omega arith) ∙ ap (λ (t : List ℕ). number (take 1 t)) (drop-cons l at 0 h) ∙ omega arith
