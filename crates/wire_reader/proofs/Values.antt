-- The value of an entry at a place, and the numbers in it.
use mathlib.Core.Path.{◌≡◌, sym, ap, ◌∙◌}
use mathlib.Core.List.{List}
use Prim.Native.Nat.{ℕ, ◌+◌, ◌-◌, ◌≤◌, ◌<◌}
use native.Mathlib.Omega.{arith}
use lib.IntN.{ℤ, pos}
use lib.ListN.{length, take, drop, get_or, length-drop}
use lib.Seq.{drop-drop, drop_at, take-add, take-take, length-take-le, get_or-take, get_or-drop}
use mir.Syntax.{w64}
use mir.Val.{to_z, of_z}
use Rattle.signed.specs.Wrap.{wrap64}
use Rattle.signed.specs.Laws.WrapLaws.{wrap64_read}
use Rattle.big_endian.specs.Bytes.{number, number_at}
use Rattle.big_endian.specs.Laws.Puts.{number_at_within}
use Rattle.wire.specs.Parse.{int}

-- a part of a part
part_of : (w o n : ℕ) (l : List ℕ) → o + w ≤ n → n ≤ length l → take w (drop o (take n l)) ≡ take w (drop o l)
part_of w o n l h k =
    let e : n ≡ o + (n - o) = omega arith in
    ap (λ (m : ℕ). take w (drop o (take m l))) e
    ∙ ap (λ (t : List ℕ). take w (drop o t)) (take-add o (n - o) l)
    ∙ ap (take w) (drop_at (take o l) (take (n - o) (drop o l)) o (length-take-le o l (omega arith)))
    ∙ take-take w (n - o) (drop o l) (omega arith)

-- in the value of size n at place p: the number of w bytes from o on
module _ (l : List ℕ) (n p : ℕ) (k : p + n ≤ length l) where
  pub number_part : (w o : ℕ) → o + w ≤ n → number_at w (p + o) l ≡ number (take w (drop o (take n (drop p l))))
  number_part w o h =
      number_at_within w (p + o) l (omega arith)
      ∙ ap (λ (t : List ℕ). number (take w t)) (sym (drop-drop o p l))
      ∙ ap number (sym (part_of w o n (drop p l) h (rw length-drop (omega arith))))

  pub number_front : (w : ℕ) → w ≤ n → number_at w p l ≡ number (take w (take n (drop p l)))
  number_front w h = let e : p ≡ p + 0 = omega arith in ap (λ (q : ℕ). number_at w q l) e ∙ number_part w 0 (omega arith)

  pub byte_front : 0 < n → get_or l p 0 ≡ get_or (take n (drop p l)) 0 0
  byte_front h = let e : p ≡ p + 0 = omega arith in ap (λ (q : ℕ). get_or l q 0) e ∙ sym (get_or-take n (drop p l) 0 0 h ∙ get_or-drop p l 0 0)

  -- a signed number, as it was read
  pub int_part : (r : ℤ) (o : ℕ) → o + 8 ≤ n → r ≡ wrap64 (pos (number_at 8 (p + o) l)) → to_z w64 (of_z w64 r) ≡ int (take 8 (drop o (take n (drop p l))))
  int_part r o h e = wrap64_read r _ e ∙ ap (λ (m : ℕ). wrap64 (pos m)) (number_part 8 o h)

  pub int_front : (r : ℤ) → 8 ≤ n → r ≡ wrap64 (pos (number_at 8 p l)) → to_z w64 (of_z w64 r) ≡ int (take 8 (take n (drop p l)))
  int_front r h e = wrap64_read r _ e ∙ ap (λ (m : ℕ). wrap64 (pos m)) (number_front 8 h)
