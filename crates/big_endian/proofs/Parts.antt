-- What std says of the bytes of a number, and of a part of a slice, in the words of `bytes`, `number` and `put`.
use Rattle.std.proofs.Common.{◌≡◌, ℕ, zero, suc, ◌+◌, ◌/◌, ◌%◌, ◌^◌, ◌<◌, ◌≤◌, List, [], ◌∷◌, length, take, drop, get_or, refl, sym, ap, ap₂, ◌∙◌, arith, length-drop, length-take-le, take_all, ◌-◌}
use Rattle.std.proofs.lemmas.Nat.{be_bytes_2, be_bytes_4, be_bytes_8}
use Rattle.std.specs.Int.{w8, w16, w32, w64, bytes_high_first, from_be_bytes, to_be_bytes}
use lib.ListN.{replicate}
use borrow.Rule.Slice.PartMut.{put_mid}
use Rattle.big_endian.specs.Bytes.{bytes, number, put, number_at}
use Rattle.big_endian.specs.Laws.Numbers.{number_bytes_below}
use Rattle.big_endian.specs.Laws.Puts.{number_at_within, number_at_past, put_part}

-- ---- a number's bytes

pub high_first : (w n : ℕ) → bytes_high_first w n ≡ bytes w n
unfolding bytes
high_first zero n = refl
high_first (suc zero) n = let e : n % 256 ≡ n / 1 % 256 = omega arith in ap (λ (b : ℕ). b ∷ []) e
high_first (suc (suc w)) n = ap (λ (bs : List ℕ). n / 256 ^ suc w % 256 ∷ bs) (high_first (suc w) n)

-- what `to_be_bytes` gives
pub bytes_1 : (n : ℕ) → bytes 1 n ≡ to_be_bytes w8 n
bytes_1 n = sym (high_first 1 n)

pub bytes_2 : (n : ℕ) → bytes 2 n ≡ to_be_bytes w16 n
bytes_2 n = sym (high_first 2 n)

pub bytes_4 : (n : ℕ) → bytes 4 n ≡ to_be_bytes w32 n
bytes_4 n = sym (high_first 4 n)

pub bytes_8 : (n : ℕ) → bytes 8 n ≡ to_be_bytes w64 n
bytes_8 n = sym (high_first 8 n)

-- what `from_be_bytes` gives
spelled : (w n : ℕ) (bs : List ℕ) → n < 256 ^ w → bytes_high_first w n ≡ bs → n ≡ number bs
spelled w n bs h e = sym (number_bytes_below w n h) ∙ ap number (sym (high_first w n) ∙ e)

pub number_1 : (n m : ℕ) (bs : List ℕ) → n ≡ from_be_bytes w8 bs → n < 2 ^ 8 → length bs ≡ 1 → ((i : ℕ) → get_or bs i 0 < 256) → number bs ≡ m → n ≡ m
unfolding number
number_1 n m (b ∷ []) e h l f k = omega arith
number_1 n m [] e h l f k = absurd (omega arith)
number_1 n m (a ∷ (b ∷ bs)) e h l f k = absurd (omega arith)

pub number_2 : (n m : ℕ) (bs : List ℕ) → n ≡ from_be_bytes w16 bs → n < 2 ^ 16 → length bs ≡ 2 → ((i : ℕ) → get_or bs i 0 < 256) → number bs ≡ m → n ≡ m
number_2 n m bs e h l f k = spelled 2 n bs h (be_bytes_2 bs n l f e) ∙ k

pub number_4 : (n m : ℕ) (bs : List ℕ) → n ≡ from_be_bytes w32 bs → n < 2 ^ 32 → length bs ≡ 4 → ((i : ℕ) → get_or bs i 0 < 256) → number bs ≡ m → n ≡ m
number_4 n m bs e h l f k = spelled 4 n bs h (be_bytes_4 bs n l f e) ∙ k

pub number_8 : (n m : ℕ) (bs : List ℕ) → n ≡ from_be_bytes w64 bs → n < 2 ^ 64 → length bs ≡ 8 → ((i : ℕ) → get_or bs i 0 < 256) → number bs ≡ m → n ≡ m
number_8 n m bs e h l f k = spelled 8 n bs h (be_bytes_8 bs n l f e) ∙ k

-- ---- a part of a slice

zeros : (w : ℕ) → number (replicate {A = ℕ} w 0) ≡ 0
unfolding number
zeros zero = refl
zeros (suc w) = omega (arith, zeros w)

pub number_here : (w at : ℕ) (l : List ℕ) → at ≤ length l → w ≤ length (drop at l) → number (take w (drop at l)) ≡ number_at w at l
number_here w at l h k = sym (number_at_within w at l (omega (arith, length-drop at l)))

pub number_past : (w at : ℕ) (l : List ℕ) → length l < at + w → number (replicate {A = ℕ} w 0) ≡ number_at w at l
number_past w at l h = zeros w ∙ sym (number_at_past w at l h)

-- the bytes that stand from place `at` on, all of them within the slice
pub number_first : (w at : ℕ) (l bs : List ℕ) → w ≤ length l → at ≤ length l - w → bs ≡ take w (take (at + w - at) (drop at l)) → number bs ≡ number_at w at l
number_first w at l bs h k e =
    let m : at + w - at ≡ w = omega arith in
    let d : w ≤ length (drop at l) = omega (arith, length-drop at l) in
    let q : length (take w (drop at l)) ≡ w = length-take-le w (drop at l) d in
    let t : take w (take (at + w - at) (drop at l)) ≡ take w (drop at l)
    = ap (λ (n : ℕ). take w (take n (drop at l))) m ∙ take_all _ _ (omega (arith, q)) in
    ap number (e ∙ t) ∙ number_here w at l (omega arith) d

-- a part that is lent from place `at` on and comes back as bs
pub put_middle : (at : ℕ) (bs cs l : List ℕ) → at ≤ length l → length bs ≤ length l - at → cs ≡ bs → put_mid at (at + length bs - at) l cs ≡ put at bs l
put_middle at bs cs l h k e =
    let n : at + length bs - at ≡ length bs = omega arith in
    ap₂ (λ (m : ℕ) (xs : List ℕ). put_mid at m l xs) n e ∙ put_part at (length bs) bs l refl (omega arith)
