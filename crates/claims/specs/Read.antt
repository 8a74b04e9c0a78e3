-- How a host reads an answer buffer, by its layout alone. Every number in it is big-endian.
use Rattle.std.specs.Prelude.{ℕ, zero, suc, ◌+◌, ◌*◌, cond, List, [], ◌∷◌, eqb, take, drop}
use Rattle.big_endian.specs.Bytes.{number, number_at}

-- an output as it stands in the buffer
pub record Read : Type 0 where
  pub kind : ℕ
  pub content : List ℕ

-- so many outputs: a kind has one byte, a length two, and each content as many as its length says
unfoldable pub outputs_by : ℕ → (kinds lengths contents : List ℕ) → List Read
outputs_by zero kinds lengths contents = []
outputs_by (suc n) kinds lengths contents =
    let size = number_at 2 0 lengths in
    record { kind = number_at 1 0 kinds; content = take size contents } ∷ outputs_by n (drop 1 kinds) (drop 2 lengths) (drop size contents)

-- two bytes say how many outputs there are, and two how many bytes of contents; then the kinds, the lengths and the contents follow
unfoldable pub outputs_in : List ℕ → List Read
outputs_in buffer =
    let n = number_at 2 0 buffer in
    let size = number_at 2 2 buffer in
    outputs_by n (drop 4 buffer) (drop (4 + n) buffer) (take size (drop (4 + n + 2 * n) buffer))

-- the number in the last output of kind 3, or else the given one
unfoldable pub last_count : ℕ → List Read → ℕ
last_count n [] = n
last_count n (o ∷ os) = last_count (cond (eqb o.kind 3) (number o.content) n) os

-- the count that a buffer tells of, or else the given one
unfoldable pub count_in : ℕ → List ℕ → ℕ
count_in n buffer = last_count n (outputs_in buffer)

-- what a host has of a call that it lent a buffer: the call's number, and the bytes in the buffer after it
pub record Answer : Type 0 where
  pub number : ℕ
  pub buffer : List ℕ

-- the count that a host has after these answers, n before them: it reads the buffer of each whose number is 0
unfoldable pub counted : ℕ → List Answer → ℕ
counted n [] = n
counted n (a ∷ rest) = counted (cond (eqb a.number 0) (count_in n a.buffer) n) rest

-- what a host makes of a call's answer: the number, and the outputs in the buffer, which it reads where the number is 0
pub record Reply : Type 0 where
  pub number : ℕ
  pub outputs : List Read

unfoldable pub reply : Answer → Reply
reply a = record { number = a.number; outputs = cond (eqb a.number 0) (outputs_in a.buffer) [] }
