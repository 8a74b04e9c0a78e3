-- The rule of the table of whole tempos: what it is at each entry, and that it is the nearest. That `from_tempo` has it too stands in proofs/Laws/WholeTempos.
use Rattle.std.specs.Prelude.{◌≡◌, ℕ, zero, suc, ◌+◌, ◌-◌, ◌*◌, ◌<◌, ◌≤◌, List, [], ◌∷◌, get_or, slice_index, slice_index_or, refl}
use Rattle.std.proofs.Common.{sym, ap, ◌∙◌, add-zero, mul_comm, suc-mul, le_refl, le_antisymm, le_of_suc-le-suc, lt-suc_self, not-suc-le-zero, le-div_iff_mul-le, div-lt_iff_lt-mul, arith}
use Rattle.time.specs.WholeTempo.{whole_tempo}

-- the slowest and the fastest, the default, and a half, 117,187.5, which goes up
pub whole_tempo_20 : whole_tempo 20 ≡ 3_000_000
unfolding whole_tempo
whole_tempo_20 = refl

pub whole_tempo_120 : whole_tempo 120 ≡ 500_000
unfolding whole_tempo
whole_tempo_120 = refl

pub whole_tempo_512 : whole_tempo 512 ≡ 117_188
unfolding whole_tempo
whole_tempo_512 = refl

pub whole_tempo_999 : whole_tempo 999 ≡ 60_060
unfolding whole_tempo
whole_tempo_999 = refl

-- ---- the table

-- k values of f, from n on
abbrev pub listed : {A : Type 0} → (ℕ → A) → ℕ → ℕ → List A
listed f zero n = []
listed f (suc k) n = f n ∷ listed f k (suc n)

-- entry i of them is f at n + i
pub listed_at : {A : Type 0} (f : ℕ → A) (d : A) (k n i : ℕ) → i < k → slice_index_or (listed f k n) i d ≡ f (n + i)
listed_at f d zero n i h = absurd (not-suc-le-zero h)
listed_at f d (suc k) n zero h = ap f (sym (add-zero n))
listed_at f d (suc k) n (suc i) h = listed_at f d k (suc n) i (le_of_suc-le-suc h) ∙ ap f (omega arith)

-- where the lists of two functions are equal, the functions are, at each number of the list
pub agree_at : {A : Type 0} (f g : ℕ → A) (d : A) (k from : ℕ) → listed f k from ≡ listed g k from → (n : ℕ) → from ≤ n → n < from + k → f n ≡ g n
agree_at f g d k from e n l u =
    let i : ℕ = n - from in
    let h : i < k = omega arith in
    let s : from + i ≡ n = omega arith in
    ap f (sym s) ∙ sym (listed_at f d k from i h) ∙ ap (λ t. get_or t i d) e ∙ listed_at g d k from i h ∙ ap g s

-- k entries of the rule, from n on: the code's table is `ruled 980 20`
abbrev pub ruled : ℕ → ℕ → List ℕ
ruled k n = listed whole_tempo k n

pub table_rule : (i : ℕ) → i < 980 → slice_index (ruled 980 20) i ≡ whole_tempo (20 + i)
table_rule i h = listed_at whole_tempo 0 980 20 i h

-- ---- the nearest

twice_pos : (n : ℕ) → 0 < n → 0 < 2 * n
twice_pos n h = omega arith

-- 2 * n times the entry is within n of twice a minute: above it by n at most, since a half goes up, and below it by less
pub nearest : (n : ℕ) → 0 < n → (2 * n * whole_tempo n ≤ 2 * 60_000_000 + n) × (2 * 60_000_000 < 2 * n * whole_tempo n + n)
unfolding whole_tempo
nearest n h =
    let w : ℕ = whole_tempo n in
    let e : 2 * n * w ≡ w * (2 * n) = mul_comm (2 * n) w in
    let l : w * (2 * n) ≤ 120_000_000 + n = (le-div_iff_mul-le (twice_pos n h)).0 (le_refl w) in
    let u : 120_000_000 + n < suc w * (2 * n) = (div-lt_iff_lt-mul (twice_pos n h)).0 (lt-suc_self w) in
    let s : suc w * (2 * n) ≡ w * (2 * n) + 2 * n = suc-mul w (2 * n) in
    (omega arith, omega arith)

-- no other number is so near
pub only_nearest : (n w : ℕ) → 0 < n → 2 * n * w ≤ 2 * 60_000_000 + n → 2 * 60_000_000 < 2 * n * w + n → w ≡ whole_tempo n
unfolding whole_tempo
only_nearest n w h l u =
    let e : 2 * n * w ≡ w * (2 * n) = mul_comm (2 * n) w in
    let s : suc w * (2 * n) ≡ w * (2 * n) + 2 * n = suc-mul w (2 * n) in
    let below : w ≤ whole_tempo n = (le-div_iff_mul-le (twice_pos n h)).1 (omega arith) in
    let above : whole_tempo n < suc w = (div-lt_iff_lt-mul (twice_pos n h)).1 (omega arith) in
    le_antisymm below (le_of_suc-le-suc above)
