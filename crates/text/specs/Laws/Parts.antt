-- Parts side by side are one part; what the functions of this crate put as parts, and what a part at the front says.
use Rattle.std.specs.Prelude.{ℕ, ◌+◌, ◌≤◌, List, ◌++◌, ◌≡◌, ℤ, length, take}
use Rattle.std.proofs.Common.{zero-add, arith, ap, ap₂, subst, ◌∙◌, length-append, to_z-of_z, SFits, to_z, of_z}
use Rattle.std.specs.Int.{w64}
use Rattle.big_endian.specs.Laws.Puts.{length-put, part_put}
use Rattle.text.specs.Numerals.{integer}
use Rattle.text.specs.Placed.{Placed}
use Rattle.text.specs.Laws.Placing.{both, behind_within}
use Rattle.text.specs.Laws.ReadBack.{integer_at_most_20}
use Rattle.text.specs.Part.{Part}

infixl 50 ◌then◌
pub ◌then◌ : {at n m a b : ℕ} {xs ys l l₁ l₂ : List ℕ} → Part at xs a l n l₁ → Part n ys b l₁ m l₂ → Part at (xs ++ ys) (a + b) l m l₂
◌then◌ {xs = xs} {ys = ys} p q = record { laid = both p.laid q.laid; short = omega (arith, length-append xs ys, p.short, q.short) }

pub longer : {at n a : ℕ} {xs l l₁ : List ℕ} (b : ℕ) → a ≤ b → Part at xs a l n l₁ → Part at xs b l n l₁
longer b h p = record { laid = p.laid; short = omega (arith, p.short) }

-- ---- what is put

pub part : {at : ℕ} {text l : List ℕ} {n : ℕ} {l' : List ℕ} (most : ℕ) → length text ≤ most → Placed at text l n l' → Part at text most l n l'
part most h p = record { laid = λ _. p; short = h }

-- given characters
pub word : {at : ℕ} {text l : List ℕ} {n : ℕ} {l' : List ℕ} → Placed at text l n l' → Part at text (length text) l n l'
word {text = text} p = part (length text) (omega arith) p

-- a signed number, as the code reads it
pub number : {at : ℕ} {z : ℤ} {l : List ℕ} {n : ℕ} {l' : List ℕ} → SFits w64 z → Placed at (integer (to_z w64 (of_z w64 z))) l n l' → Part at (integer z) 20 l n l'
number {at} {z} {l} {n} {l'} f p = part 20 (integer_at_most_20 z f) (subst (λ (y : ℤ). Placed at (integer y) l n l') (to_z-of_z f) p)

-- ---- a whole text

-- a part at the front of a list that holds it: its length is the place behind it, and it stands there
module _ {text : List ℕ} {most : ℕ} {l : List ℕ} {n : ℕ} {l' : List ℕ} (p : Part 0 text most l n l') (room : most ≤ length l) where
  placed : Placed 0 text l n l'
  placed = p.laid (omega (arith, p.short))

  pub counted : n ≡ length text
  counted = placed.place ∙ behind_within (length l) 0 (length text) (omega (arith, p.short)) ∙ zero-add (length text)

  pub within : n ≤ length l'
  within = omega (arith, counted, p.short, ap length placed.bytes ∙ length-put 0 text l)

  pub standing : take n l' ≡ text
  standing = ap₂ (λ (k : ℕ) (t : List ℕ). take k t) counted placed.bytes ∙ part_put 0 text l (omega (arith, p.short))
