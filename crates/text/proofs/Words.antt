-- The place that std's `position` finds, in the words of `before`.
use Rattle.std.proofs.Common.{◌≡◌, ℕ, ◌+◌, ◌≤◌, Bool, true, false, List, [], ◌∷◌, cond, not, length, drop, eqb, refl, ◌∙◌, arith, drop_of_length-le, Some, None, nat_lt}
use Rattle.std.specs.List.{position, position_or_len}
use Rattle.std.specs.Option.{unwrap_or}
use borrow.Author.Tests.{ltb-false}
use Rattle.std.proofs.lemmas.List.Sums.{prefix_len-le-length}
use Rattle.text.specs.Lines.{before}

found_by : (t : Bool) (b m : ℕ) (r : List ℕ) → m ≡ length r → cond (not t) (1 + m) 0 ≡ length (cond t [] (b ∷ r))
found_by true b m r e = refl
found_by false b m r e = omega (arith, e)

pub found_before : (byte : ℕ) (l : List ℕ) → position_or_len (λ b. eqb b byte) l ≡ length (before byte l)
unfolding before
found_before byte [] = refl
found_before byte (b ∷ bs) = found_by (eqb b byte) b (position_or_len (λ c. eqb c byte) bs) (before byte bs) (found_before byte bs)

pub found_past : (byte from : ℕ) (s : List ℕ) → length s ≤ from → from ≡ from + length (before byte (drop from s))
unfolding before
found_past byte from s h = rw (drop_of_length-le s h) (omega arith)

-- the place that is found in what is left, or the end of that
pub found_in : (byte : ℕ) (l : List ℕ) → unwrap_or (position (λ b. eqb b byte) l) (length l) ≡ length (before byte l)
found_in byte l = found_some (nat_lt (position_or_len (λ b. eqb b byte) l) (length l)) (position_or_len (λ b. eqb b byte) l) (length l) (prefix_len-le-length _ l) refl ∙ found_before byte l
  where
    found_some : (t : Bool) (p n : ℕ) → p ≤ n → nat_lt p n ≡ t → unwrap_or (cond t (Some p) None) n ≡ p
    found_some true p n h e = refl
    found_some false p n h e = omega (arith, ltb-false p n e)
