-- What a writer leaves in its part, as a list that is put there.
use Rattle.std.specs.Prelude.{ℕ, ◌+◌, ◌-◌, ◌≤◌, ◌≡◌, List, ◌++◌, length, take, drop}
use Rattle.std.proofs.Common.{arith, sym, ap, ap₂, ◌∙◌, append-nil, le-leb, length-drop, drop_of_length-le, take_all, drop-drop}
use Rattle.std.proofs.lemmas.Bool.{lt-leb}
use borrow.Rule.Slice.PartMut.{put_mid}
use Rattle.big_endian.specs.Bytes.{put}
use Rattle.big_endian.specs.Laws.Puts.{by_bound, put_within, put_front, put_past, put_all}
use Rattle.big_endian.specs.Written.{Written, written}
use Rattle.wire.specs.Written.{written_echo}

-- the packet at the front, where it fits
pub in_front : (packet old : List ℕ) {w : Written} → w ≡ written packet old → w.part ≡ put 0 packet old
unfolding written
in_front packet old e =
    by_bound (length packet) (length old)
    (λ h. ap (λ (w : Written). w.part) (rw (le-leb _ _ h) at e) ∙ sym (put_front packet old h))
    (λ h. ap (λ (w : Written). w.part) (rw (lt-leb _ _ h) at e) ∙ sym (put_past 0 packet old (omega arith)))

-- an echo that is not too long is refused for no length of its own
pub echo_allowed : (packet : List ℕ → List ℕ) (echo old : List ℕ) → length echo ≤ 503 → written_echo packet echo old ≡ written (packet echo) old
unfolding written_echo
echo_allowed packet echo old h = rw (le-leb (length echo) 503 h)

module _ (packet : List ℕ → List ℕ) (echo old : List ℕ) {w : Written} (h : length echo ≤ 503) (e : w ≡ written_echo packet echo old) where
  pub echo_in_front : w.part ≡ put 0 (packet echo) old
  unfolding written_echo
  echo_in_front = in_front (packet echo) old (rw (le-leb (length echo) 503 h) at e)

  -- a part of exactly the packet's length
  pub echo_filled : length old ≡ length (packet echo) → w.part ≡ packet echo
  echo_filled k = echo_in_front ∙ put_all (packet echo) old k

-- what was put at the front of a part that is the rest from place at on
pub rest_put : (at : ℕ) (bs l : List ℕ) → at + length bs ≤ length l → put_mid at (length l - at) l (put 0 bs (take (length l - at) (drop at l))) ≡ put at bs l
rest_put at bs l h =
    let k : ℕ = length l - at in
    let n : length (drop at l) ≤ k = simp length-drop (omega arith) in
    let b : length bs ≤ length (drop at l) = simp length-drop (omega arith) in
    ap₂ (λ (s t : List ℕ). take at l ++ (put 0 bs s ++ t)) (take_all k (drop at l) n) (drop_of_length-le (drop at l) n)
    ∙ ap (λ (t : List ℕ). take at l ++ t) (append-nil (put 0 bs (drop at l)) ∙ put_front bs (drop at l) b)
    ∙ ap (λ (t : List ℕ). take at l ++ (bs ++ t)) (drop-drop (length bs) at l)
    ∙ sym (put_within at bs l h)
