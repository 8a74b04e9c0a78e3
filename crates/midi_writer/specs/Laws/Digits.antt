-- The digits of a quantity, written as big-endian numbers.
use Rattle.std.specs.Prelude.{ℕ, ◌+◌, ◌*◌, ◌/◌, ◌%◌, ◌<◌, ◌≤◌, ◌≡◌, refl, List, [], ◌∷◌, length}
use Rattle.std.proofs.Common.{arith, sym, ap, ◌∙◌}
use Rattle.big_endian.specs.Bytes.{bytes, put}
use Rattle.big_endian.specs.Laws.Puts.{put_then}
use Rattle.midi_file.specs.Layout.{vlq}
use Rattle.midi_file.specs.Laws.Numbers.{pair}
use Rattle.midi_file.specs.Laws.Quantities.{vlq_1, vlq_2, vlq_3, vlq_4}

one : (a : ℕ) → a < 256 → bytes 1 a ≡ a ∷ []
unfolding bytes
one a h = pair (omega arith) refl

two : (c d : ℕ) → c < 128 → d < 128 → bytes 2 (0x8000 + c * 0x100 + d) ≡ (128 + c) ∷ d ∷ []
unfolding bytes
two c d h k = pair (omega arith) (pair (omega arith) refl)

four : (a b c d : ℕ) → a < 128 → b < 128 → c < 128 → d < 128 → bytes 4 (0x8080_8000 + a * 0x100_0000 + b * 0x1_0000 + c * 0x100 + d) ≡ (128 + a) ∷ (128 + b) ∷ (128 + c) ∷ d ∷ []
unfolding bytes
four a b c d h₀ h₁ h₂ h₃ = pair (omega arith) (pair (omega arith) (pair (omega arith) (pair (omega arith) refl)))

module _ (at n : ℕ) (l l' : List ℕ) where
  -- the list after a write of these bytes, and the place behind them
  laid : (k : ℕ) (bs : List ℕ) → l' ≡ put at bs l → vlq n ≡ bs → length bs ≡ k → (l' ≡ put at (vlq n) l) × (at + k ≡ at + length (vlq n))
  laid k bs e v w = (e ∙ ap (λ (t : List ℕ). put at t l) (sym v), ap (λ (j : ℕ). at + j) (sym (ap length v ∙ w)))

  pub lays_1 : n < 0x80 → l' ≡ put at (bytes 1 n) l → (l' ≡ put at (vlq n) l) × (at + 1 ≡ at + length (vlq n))
  lays_1 h e = laid 1 (n ∷ []) (e ∙ ap (λ (t : List ℕ). put at t l) (one n (omega arith))) (vlq_1 n h) refl

  pub lays_2 : 0x80 ≤ n → n < 0x4000 → l' ≡ put at (bytes 2 (0x8000 + n / 0x80 * 0x100 + n % 0x80)) l → (l' ≡ put at (vlq n) l) × (at + 2 ≡ at + length (vlq n))
  lays_2 k h e = laid 2 ((128 + n / 0x80) ∷ n % 128 ∷ []) (e ∙ ap (λ (t : List ℕ). put at t l) (two (n / 0x80) (n % 0x80) (omega arith) (omega arith))) (vlq_2 n k h) refl

  pub lays_3 : (l₁ : List ℕ) → 0x4000 ≤ n → n < 0x20_0000 → l₁ ≡ put at (bytes 1 (0x80 + n / 0x4000)) l → l' ≡ put (at + 1) (bytes 2 (0x8000 + n / 0x80 % 0x80 * 0x100 + n % 0x80)) l₁ → at + 3 ≤ length l → (l' ≡ put at (vlq n) l) × (at + 3 ≡ at + length (vlq n))
  lays_3 l₁ k h e f b =
      laid 3 ((128 + n / 0x4000) ∷ (128 + n / 0x80 % 128) ∷ n % 128 ∷ [])
      (put_then at (at + 1) ((128 + n / 0x4000) ∷ []) ((128 + n / 0x80 % 128) ∷ n % 128 ∷ []) l l₁ l'
      (e ∙ ap (λ (t : List ℕ). put at t l) (one (0x80 + n / 0x4000) (omega arith)))
      (f ∙ ap (λ (t : List ℕ). put (at + 1) t l₁) (two (n / 0x80 % 0x80) (n % 0x80) (omega arith) (omega arith)))
      refl b)
      (vlq_3 n k h) refl

  pub lays_4 : 0x20_0000 ≤ n → n < 268435456 → l' ≡ put at (bytes 4 (0x8080_8000 + n / 0x20_0000 * 0x100_0000 + n / 0x4000 % 0x80 * 0x1_0000 + n / 0x80 % 0x80 * 0x100 + n % 0x80)) l → (l' ≡ put at (vlq n) l) × (at + 4 ≡ at + length (vlq n))
  lays_4 k h e =
      laid 4 ((128 + n / 0x20_0000) ∷ (128 + n / 0x4000 % 128) ∷ (128 + n / 0x80 % 128) ∷ n % 128 ∷ [])
      (e ∙ ap (λ (t : List ℕ). put at t l) (four (n / 0x20_0000) (n / 0x4000 % 0x80) (n / 0x80 % 0x80) (n % 0x80) (omega arith) (omega arith) (omega arith) (omega arith)))
      (vlq_4 n k) refl
