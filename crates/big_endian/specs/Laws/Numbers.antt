-- Laws of `bytes` and `number`, over the width.
use Rattle.std.specs.Prelude.{ℕ, zero, suc, ◌+◌, ◌*◌, ◌/◌, ◌%◌, ◌^◌, ◌<◌, ◌≡◌, refl, List, [], ◌∷◌, ◌++◌, length}
use Rattle.std.proofs.Common.{zero-add, suc-add, mul_assoc, mul_comm, div-add-mod', mod-eq_of_lt, arith, sym, ap, ap₂, ◌∙◌, pow-add}
use Rattle.std.proofs.Math.Nat.{pow-succ', one-le-pow, div-div-eq-div-mul, mul-add-div_right, mul-add-mod_self_right}
use Rattle.std.proofs.Math.Arith.{mod-mul}
use Rattle.big_endian.specs.Bytes.{bytes, number}

-- every power of 256 is above 0
pub power_pos : (w : ℕ) → 0 < 256 ^ w
power_pos w = one-le-pow w 256 (omega arith)

pub length-bytes : (w n : ℕ) → length (bytes w n) ≡ w
unfolding bytes
length-bytes zero n = refl
length-bytes (suc w) n = ap suc (length-bytes w n)

-- the bytes of a number spell its low bytes
pub number_bytes : (w n : ℕ) → number (bytes w n) ≡ n % 256 ^ w
unfolding bytes number
number_bytes zero n = omega arith
number_bytes (suc w) n =
    ap₂ (λ (k r : ℕ). n / 256 ^ w % 256 * 256 ^ k + r) (length-bytes w n) (number_bytes w n)
    ∙ sym (mod-mul n {m = 256} {c = 256 ^ w} (omega arith) (power_pos w))
    ∙ ap (λ (k : ℕ). n % k) (sym (pow-succ' 256 w))

-- and the number itself where it has no more
pub number_bytes_below : (w n : ℕ) → n < 256 ^ w → number (bytes w n) ≡ n
number_bytes_below w n h = number_bytes w n ∙ mod-eq_of_lt h

-- the low bytes are those in front of the last w, and these
pub bytes_append : (v w n : ℕ) → bytes (v + w) n ≡ bytes v (n / 256 ^ w) ++ bytes w n
unfolding bytes
bytes_append zero w n = ap (λ (k : ℕ). bytes k n) (zero-add w)
bytes_append (suc v) w n =
    ap (λ (k : ℕ). bytes k n) (suc-add v w)
    ∙ ap₂ (λ (k : ℕ) (bs : List ℕ). k % 256 ∷ bs) (above v) (bytes_append v w n)
  where
    above : (v : ℕ) → n / 256 ^ (v + w) ≡ n / 256 ^ w / 256 ^ v
    above v = ap (λ (k : ℕ). n / k) (pow-add 256 v w ∙ mul_comm (256 ^ v) (256 ^ w)) ∙ sym (div-div-eq-div-mul n (256 ^ w) (256 ^ v))

-- what is above the w low bytes does not count
pub bytes_low : (w a n : ℕ) → bytes w (a * 256 ^ w + n) ≡ bytes w n
unfolding bytes
bytes_low zero a n = refl
bytes_low (suc w) a n =
    let e : a * 256 ^ suc w ≡ a * 256 * 256 ^ w = ap (λ (k : ℕ). a * k) (pow-succ' 256 w) ∙ sym (mul_assoc a 256 (256 ^ w)) in
    ap (λ (k : ℕ). bytes (suc w) (k + n)) e
    ∙ ap₂ (λ (k : ℕ) (bs : List ℕ). k ∷ bs)
    (ap (λ (k : ℕ). k % 256) (mul-add-div_right (power_pos w) (a * 256) n) ∙ mul-add-mod_self_right a 256 (n / 256 ^ w))
    (bytes_low w (a * 256) n)

pub bytes_mod : (w n : ℕ) → bytes w (n % 256 ^ w) ≡ bytes w n
bytes_mod w n = sym (bytes_low w (n / 256 ^ w) (n % 256 ^ w)) ∙ ap (bytes w) (div-add-mod' n (256 ^ w))

-- a number of two halves, by its halves
pub bytes_halves : (w n : ℕ) → bytes (w + w) n ≡ bytes w (n / 256 ^ w) ++ bytes w (n % 256 ^ w)
bytes_halves w n = bytes_append w w n ∙ ap (λ (bs : List ℕ). bytes w (n / 256 ^ w) ++ bs) (sym (bytes_mod w n))

-- at a literal width the definitions compute
spelled : bytes 4 0x12345678 ≡ 0x12 ∷ 0x34 ∷ 0x56 ∷ 0x78 ∷ []
unfolding bytes
spelled = refl

read_back : number (0x12 ∷ 0x34 ∷ 0x56 ∷ 0x78 ∷ []) ≡ 0x12345678
unfolding number
read_back = refl

eight : (n : ℕ) → length (bytes 8 n) ≡ 8
unfolding bytes
eight n = refl
