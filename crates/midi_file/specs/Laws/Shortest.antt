-- No spelling of a quantity is shorter than the one that is written.
use Rattle.std.specs.Prelude.{ℕ, ◌+◌, ◌/◌, ◌%◌, ◌^◌, ◌<◌, ◌≤◌, ◌≡◌, List, [], ◌∷◌, ◌++◌, length, take}
use Rattle.std.proofs.Common.{arith, sym, ap, ◌∙◌}
use Rattle.std.proofs.Math.Seq.{take-append_seam}
use Rattle.midi_file.specs.Layout.{vlq}
use Rattle.midi_file.specs.Reading.{spelled, quantity}
use Rattle.midi_file.specs.Laws.Quantities.{vlq_1, vlq_2, vlq_3, vlq_4, by_width, width_most, Back, written_back}

-- bytes that spell a quantity as the document says: all but the last have their top bit set; digits 0 may lead
pub data Spelling : List ℕ → Type 0 where
  last : {b : ℕ} → b < 128 → Spelling (b ∷ [])
  more : {b : ℕ} {bs : List ℕ} → 128 ≤ b → b < 256 → Spelling bs → Spelling (b ∷ bs)

at_1 : (n : ℕ) → n < 0x80 → length (vlq n) ≤ 1
at_1 n h = omega (arith, ap length (vlq_1 n h))

at_2 : (n : ℕ) → n < 0x4000 → length (vlq n) ≤ 2
at_2 n h = by_width n (λ a. omega (arith, at_1 n a)) (λ a b. omega (arith, ap length (vlq_2 n a b))) (λ a b. absurd (omega arith)) (λ a. absurd (omega arith))

at_3 : (n : ℕ) → n < 0x20_0000 → length (vlq n) ≤ 3
at_3 n h = by_width n (λ a. omega (arith, at_1 n a)) (λ a b. omega (arith, at_2 n b)) (λ a b. omega (arith, ap length (vlq_3 n a b))) (λ a. absurd (omega arith))

shortest : {bs : List ℕ} → Spelling bs → length (vlq (spelled bs)) ≤ length bs
unfolding spelled
shortest (last {b} h) = at_1 _ (omega arith)
shortest (more {b} h k (last {b = c} h₁)) = at_2 _ (omega arith)
shortest (more {b} h k (more {b = c} h₁ k₁ (last {b = d} h₂))) = at_3 _ (omega arith)
shortest (more {b} h k (more {b = c} h₁ k₁ (more {b = d} {bs} h₂ k₂ (last {b = e} h₃)))) = width_most _
shortest (more {b} h k (more {b = c} h₁ k₁ (more {b = d} {bs} h₂ k₂ (more {b = e} {bs = r} h₃ k₃ s)))) = omega (arith, width_most (spelled (b ∷ c ∷ d ∷ e ∷ r)))

-- whatever bytes spell a number, `vlq` of it has no more
pub vlq_shortest : (n : ℕ) {bs : List ℕ} → Spelling bs → spelled bs ≡ n → length (vlq n) ≤ length bs
vlq_shortest n s e = rw (← e) (shortest s)

-- `vlq` is itself such a spelling, and of its number
pub vlq_spells : (n : ℕ) → n < 2 ^ 28 → Spelling (vlq n)
vlq_spells n h =
    let d₀ : n % 128 < 128 = omega arith in
    let d₁ : n / 0x80 % 128 < 128 = omega arith in
    let d₂ : n / 0x4000 % 128 < 128 = omega arith in
    by_width n
    (λ a. rw (vlq_1 n a) (last a))
    (λ a b. rw (vlq_2 n a b) (high (n / 0x80) (omega arith) (last d₀)))
    (λ a b. rw (vlq_3 n a b) (high (n / 0x4000) (omega arith) (high (n / 0x80 % 128) d₁ (last d₀))))
    (λ a. rw (vlq_4 n a) (high (n / 0x20_0000) (omega arith) (high (n / 0x4000 % 128) d₂ (high (n / 0x80 % 128) d₁ (last d₀)))))
  where
    high : (d : ℕ) {bs : List ℕ} → d < 128 → Spelling bs → Spelling ((128 + d) ∷ bs)
    high d h s = more {b = 128 + d} (omega arith) (omega arith) s

pub vlq_spelled : (n : ℕ) → n < 2 ^ 28 → spelled (vlq n) ≡ n
unfolding quantity
vlq_spelled n h =
    let b : Back n [] = written_back n [] h in
    sym (ap (λ (k : ℕ). spelled (take k (vlq n ++ []))) b.size ∙ ap spelled (take-append_seam (vlq n) [])) ∙ b.number
