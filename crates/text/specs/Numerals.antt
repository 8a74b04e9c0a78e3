-- Numbers as text: the ASCII codes of their digits, the highest first.
use Rattle.std.specs.Prelude.{ℕ, zero, suc, ◌+◌, ◌-◌, ◌/◌, ◌%◌, true, false, cond, List, [], ◌∷◌, ◌++◌, ltb, ℤ, pos, negsuc}
use Prim.Native.Char.{code}

-- the code of a digit below 16: `0` to `9`, then `a` to `f`
abbrev pub digit_code : ℕ → ℕ
digit_code d = cond (ltb d 10) (code "0" + d) (code "a" + (d - 10))

-- the last k digits of n to the base b
unfoldable pub digits : ℕ → ℕ → ℕ → List ℕ
digits b zero n = []
digits b (suc k) n = digits b k (n / b) ++ (digit_code (n % b) ∷ [])

-- n in k hexadecimal digits, in lower case
abbrev pub hexadecimal : ℕ → ℕ → List ℕ
hexadecimal k n = digits 16 k n

-- how many decimal digits n has: one below 10, and otherwise one more than n / 10 has; `rest` bounds those behind the first
unfoldable pub places_within : ℕ → ℕ → ℕ
places_within zero n = 1
places_within (suc rest) n = elim (ltb n 10) [ true ↦ 1 | false ↦ suc (places_within rest (n / 10)) ]

-- a number n has no more than n digits behind the first
unfoldable pub places : ℕ → ℕ
places n = places_within n n

-- n in decimal, in the fewest digits
unfoldable pub decimal : ℕ → List ℕ
decimal n = digits 10 (places n) n

-- an integer in decimal, with a minus sign where it is negative
unfoldable pub integer : ℤ → List ℕ
integer (pos n) = decimal n
integer (negsuc n) = code "-" ∷ decimal (suc n)
