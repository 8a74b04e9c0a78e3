-- What is read in a buffer that an answer was written into: the outputs that were put out, and no others.
use Rattle.std.specs.Prelude.{ℕ, suc, ◌+◌, ◌*◌, ◌%◌, ◌^◌, ◌<◌, ◌≤◌, ◌≡◌, length, take, drop}
use Rattle.std.proofs.Common.{arith, mod-eq_of_lt, sym, ◌∙◌, length-append, drop_at, drop-drop}
use Rattle.std.proofs.Math.Path.{refl, ap, ap₂}
use mathlib.Core.List.{List, [], ◌∷◌, ◌++◌, map, flat_map, append_assoc}
use Rattle.std.proofs.lemmas.List.{length-map}
use Rattle.std.proofs.Math.Seq.{take_at}
use Rattle.big_endian.specs.Bytes.{bytes, number, number_at}
use Rattle.big_endian.specs.Laws.Numbers.{length-bytes, number_bytes, number_bytes_below}
use Rattle.big_endian.specs.Laws.Puts.{number_at_within, number_at_one}
use Rattle.wire.specs.declared.NodeId.{NodeId}
use Rattle.model.specs.Engine.{Box, Output, send, state_changed, num_peers_changed, set_timer, new}
use Rattle.model.specs.Calls.{Call, Outcome, done, step, run}
use Rattle.model.specs.Answer.{kind, content, contents, answer, buffer_after}
use Rattle.model.proofs.Laws.Calls.Outputs.{few_outputs, fits_buffer}
use Rattle.model.proofs.Laws.Calls.Reach.{reached}
use Rattle.model.specs.Laws.Clerk.Count.{counts_told}
use Rattle.claims.specs.Read.{Read, outputs_by, outputs_in, last_count, count_in}

-- an output as it is read
abbrev pub as_read : Output → Read
as_read o = record { kind = kind o; content = content o }

-- ---- numbers at their places

-- a number that fits its bytes, behind others
number_there : (w at n : ℕ) (front rest : List ℕ) → length front ≡ at → n < 256 ^ w → number_at w at (front ++ (bytes w n ++ rest)) ≡ n
number_there w at n front rest l h =
    number_at_within w at (front ++ (bytes w n ++ rest)) (omega (arith, length-append front (bytes w n ++ rest), length-append (bytes w n) rest, length-bytes w n))
    ∙ ap (λ (t : List ℕ). number (take w t)) (drop_at front (bytes w n ++ rest) at l)
    ∙ ap number (take_at (bytes w n) rest w (length-bytes w n))
    ∙ number_bytes_below w n h

-- ---- outputs

-- the lengths of the contents, as they are written
abbrev lengths : List Output → List ℕ
lengths os = flat_map (λ o. bytes 2 (length (content o))) os

-- the first output, and the others
one_back : (n : ℕ) (o : Output) (ks ls cs : List ℕ) → length (content o) < 2 ^ 16
    → outputs_by (suc n) (kind o ∷ ks) (bytes 2 (length (content o)) ++ ls) (content o ++ cs) ≡ as_read o ∷ outputs_by n ks ls cs
unfolding outputs_by
one_back n o ks ls cs h =
    let k : ℕ = length (content o) in
    let same : number_at 2 0 (bytes 2 k ++ ls) ≡ k = number_there 2 0 k [] ls refl h in
    ap₂ (λ (i m : ℕ). record { kind = i; content = take m (content o ++ cs) } ∷ outputs_by n ks (drop 2 (bytes 2 k ++ ls)) (drop m (content o ++ cs))) (number_at_one 0 (kind o ∷ ks) (omega arith)) same
    ∙ ap₂ (λ (xs ys : List ℕ). record { kind = kind o; content = xs } ∷ outputs_by n ks (drop 2 (bytes 2 k ++ ls)) ys) (take_at (content o) cs k refl) (drop_at (content o) cs k refl)
    ∙ ap (λ (zs : List ℕ). as_read o ∷ outputs_by n ks zs cs) (drop_at (bytes 2 k) ls 2 (length-bytes 2 k))

-- all of them
all_back : (os : List Output) (ks ls : List ℕ) → length (contents os) < 2 ^ 16 → outputs_by (length os) (map kind os ++ ks) (lengths os ++ ls) (contents os) ≡ map as_read os
unfolding outputs_by contents flat_map
all_back [] ks ls h = refl
all_back (o ∷ os) ks ls h =
    ap (λ (t : List ℕ). outputs_by (suc (length os)) (kind o ∷ (map kind os ++ ks)) t (content o ++ contents os)) (append_assoc (bytes 2 (length (content o))) (lengths os) ls)
    ∙ one_back (length os) o (map kind os ++ ks) (lengths os ++ ls) (contents os) (omega (arith, length-append (content o) (contents os)))
    ∙ ap (λ (rs : List Read). as_read o ∷ rs) (all_back os ks ls (omega (arith, length-append (content o) (contents os))))

-- two bytes a length
lengths_size : (os : List Output) → length (lengths os) ≡ 2 * length os
unfolding flat_map
lengths_size [] = refl
lengths_size (o ∷ os) = omega (arith, length-append (bytes 2 (length (content o))) (lengths os), length-bytes 2 (length (content o)), lengths_size os)

-- the parts of a buffer by the two numbers in front
module _ (n size : ℕ) (ks ls cs rest : List ℕ) (few : n < 2 ^ 16) (small : size < 2 ^ 16) (many : length ks ≡ n) (twice : length ls ≡ 2 * n) (all : length cs ≡ size) where
  abbrev parts : List ℕ
  parts = ks ++ (ls ++ (cs ++ rest))

  abbrev whole : List ℕ
  whole = bytes 2 n ++ (bytes 2 size ++ parts)

  regrouped : (bytes 2 n ++ (bytes 2 size ++ (ks ++ (ls ++ cs)))) ++ rest ≡ whole
  regrouped =
      append_assoc (bytes 2 n) (bytes 2 size ++ (ks ++ (ls ++ cs))) rest
      ∙ ap (λ (t : List ℕ). bytes 2 n ++ t)
      (append_assoc (bytes 2 size) (ks ++ (ls ++ cs)) rest
      ∙ ap (λ (t : List ℕ). bytes 2 size ++ t) (append_assoc ks (ls ++ cs) rest ∙ ap (λ (t : List ℕ). ks ++ t) (append_assoc ls cs rest)))

  after_head : drop 4 whole ≡ parts
  unfolding bytes
  after_head = refl

  after_kinds : drop (4 + n) whole ≡ ls ++ (cs ++ rest)
  after_kinds = sym (drop-drop n 4 whole) ∙ ap (drop n) after_head ∙ drop_at ks (ls ++ (cs ++ rest)) n many

  after_lengths : drop (4 + n + 2 * n) whole ≡ cs ++ rest
  after_lengths = sym (drop-drop (2 * n) (4 + n) whole) ∙ ap (drop (2 * n)) after_kinds ∙ drop_at ls (cs ++ rest) (2 * n) twice

  parts_back : outputs_in ((bytes 2 n ++ (bytes 2 size ++ (ks ++ (ls ++ cs)))) ++ rest) ≡ outputs_by n parts (ls ++ (cs ++ rest)) cs
  unfolding outputs_in
  parts_back =
      let first : number_at 2 0 whole ≡ n = number_there 2 0 n [] (bytes 2 size ++ parts) refl few in
      let second : number_at 2 2 whole ≡ size = number_there 2 2 size (bytes 2 n) parts (length-bytes 2 n) small in
      ap outputs_in regrouped
      ∙ ap₂ (λ (i m : ℕ). outputs_by i (drop 4 whole) (drop (4 + i) whole) (take m (drop (4 + i + 2 * i) whole))) first second
      ∙ ap₂ (λ (xs ys : List ℕ). outputs_by n xs ys (take size (drop (4 + n + 2 * n) whole))) after_head after_kinds
      ∙ ap (λ (zs : List ℕ). outputs_by n parts (ls ++ (cs ++ rest)) zs) (ap (take size) after_lengths ∙ take_at cs rest size all)

-- An answer is read back, whatever stands behind it, if its two numbers fit their bytes. (Then each length does.)
pub outputs_back : (os : List Output) (rest : List ℕ) → length os < 2 ^ 16 → length (contents os) < 2 ^ 16 → outputs_in (answer os ++ rest) ≡ map as_read os
unfolding answer
outputs_back os rest few small =
    parts_back (length os) (length (contents os)) (map kind os) (lengths os) (contents os) rest few small (length-map os kind) (lengths_size os) refl
    ∙ all_back os (lengths os ++ (contents os ++ rest)) (contents os ++ rest) small

-- ---- every call that is done

-- the contents are a part of the answer
contents_within : (os : List Output) → length (contents os) ≤ length (answer os)
unfolding answer
contents_within os =
    let ks = map kind os in
    omega (
      arith,
      length-append (bytes 2 (length os)) (bytes 2 (length (contents os)) ++ (ks ++ (lengths os ++ contents os))),
      length-append (bytes 2 (length (contents os))) (ks ++ (lengths os ++ contents os)),
      length-append ks (lengths os ++ contents os),
      length-append (lengths os) (contents os),
    )

-- The two numbers fit, from every box within 16 neighbours and 4 interfaces, and so what is read after the call are its outputs.
module _ (e : Box) (c : Call) (e' : Box) (os : List Output) (few_peers : length e.peers ≤ 16) (few_interfaces : length e.interfaces ≤ 4) (h : step e c ≡ done e' os) where
  pub few_enough : length os < 2 ^ 16
  few_enough = omega (arith, few_outputs e c e' os few_peers few_interfaces h)

  pub small_enough : length (contents os) < 2 ^ 16
  small_enough = omega (arith, fits_buffer e c e' os few_peers few_interfaces h, contents_within os)

  pub call_back : (old : List ℕ) → outputs_in (buffer_after (step e c) old) ≡ map as_read os
  unfolding buffer_after
  call_back old = ap (λ (o : Outcome). outputs_in (buffer_after o old)) h ∙ outputs_back os (drop (length (answer os)) old) few_enough small_enough

-- so it is after any calls on a new box
pub run_back : (a : NodeId) (cs : List Call) (c : Call) (e' : Box) (os : List Output) → step (run (new a) cs) c ≡ done e' os
    → (old : List ℕ) → outputs_in (buffer_after (step (run (new a) cs) c) old) ≡ map as_read os
run_back a cs c e' os = call_back (run (new a) cs) c e' os (reached a cs).few_peers (reached a cs).few_interfaces

-- ---- the count

-- the last count that is read is the one that the outputs tell of last, as far as its 4 bytes go
counts_back : (n : ℕ) (os : List Output) → last_count (n % 256 ^ 4) (map as_read os) ≡ counts_told n os % 256 ^ 4
unfolding last_count counts_told content
counts_back n [] = refl
counts_back n (send iface to ps ∷ os) = counts_back n os
counts_back n (state_changed s ∷ os) = counts_back n os
counts_back n (num_peers_changed k ∷ os) = ap (λ (m : ℕ). last_count m (map as_read os)) (number_bytes 4 k) ∙ counts_back k os
counts_back n (set_timer t ∷ os) = counts_back n os

-- and that very one, where it fits them
pub count_back : (n : ℕ) (os : List Output) → n < 2 ^ 32 → counts_told n os < 2 ^ 32 → last_count n (map as_read os) ≡ counts_told n os
count_back n os before after =
    let fits : n < 256 ^ 4 = omega arith in
    let fits' : counts_told n os < 256 ^ 4 = omega arith in
    ap (λ (m : ℕ). last_count m (map as_read os)) (sym (mod-eq_of_lt fits)) ∙ counts_back n os ∙ mod-eq_of_lt fits'

-- ---- an example: a count of 5, and two old bytes behind it

five_read : outputs_in (0 ∷ 1 ∷ 0 ∷ 4 ∷ 3 ∷ 0 ∷ 4 ∷ 0 ∷ 0 ∷ 0 ∷ 5 ∷ 9 ∷ 9 ∷ []) ≡ record { kind = 3; content = 0 ∷ 0 ∷ 0 ∷ 5 ∷ [] } ∷ []
unfolding outputs_in outputs_by number number_at
five_read = refl

five_counted : count_in 2 (0 ∷ 1 ∷ 0 ∷ 4 ∷ 3 ∷ 0 ∷ 4 ∷ 0 ∷ 0 ∷ 0 ∷ 5 ∷ 9 ∷ 9 ∷ []) ≡ 5
unfolding count_in last_count outputs_in outputs_by number number_at
five_counted = refl
