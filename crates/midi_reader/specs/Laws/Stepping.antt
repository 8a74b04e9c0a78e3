-- What stands in front, by the tests that led there.
use Rattle.std.specs.Prelude.{ℕ, ◌+◌, ◌-◌, ◌<◌, ◌≤◌, ◌&&◌, true, false, List, ltb, eqb, length, take, drop, get_or, Some, None}
use Rattle.std.proofs.Common.{add-zero, ap, ◌∙◌, length-drop, drop-drop}
use native.Mathlib.Omega.{arith}
use Rattle.std.proofs.Math.Path.{◌≡◌, sym}
use borrow.Author.Tests.{lt-ltb, ltb-true}
use Rattle.std.proofs.Math.ListN.{get_or-eq_default}
use Rattle.big_endian.specs.Bytes.{number, number_at}
use Rattle.big_endian.specs.Laws.Puts.{number_at_within, number_at_past, by_bound}
use Rattle.midi_file.specs.Reading.{quantity_size, quantity, body, has_event, event_tempo}
use Rattle.midi_file.specs.Laws.Numbers.{by_test}
use Rattle.midi_reader.specs.declared.vlq.Quantity.{Quantity}
use Rattle.midi_reader.specs.Steps.{quantity_found, event_found}

-- ---- a quantity lies within its list

-- a byte that ends a quantity is there
there : (l : List ℕ) (i : ℕ) → ltb (get_or l i 255) 128 ≡ true → i < length l
there l i e =
    by_bound (length l) i
    (λ h. absurd (omega (arith, get_or-eq_default l 255 h, ltb-true (get_or l i 255) 128 e)))
    (λ h. h)

pub size_within : (l : List ℕ) → quantity_size l ≤ length l
unfolding quantity_size
size_within l =
    by_test (ltb (get_or l 0 255) 128) (λ t. rw t (there l 0 t))
    (λ t. by_test (eqb (get_or l 0 255) 128) (λ u. rw (t, u) (omega arith))
    (λ u. by_test (ltb (get_or l 1 255) 128) (λ v. rw (t, u, v) (there l 1 v))
    (λ v. by_test (ltb (get_or l 2 255) 128) (λ w. rw (t, u, v, w) (there l 2 w))
    (λ w. by_test (ltb (get_or l 3 255) 128) (λ x. rw (t, u, v, w, x) (there l 3 x))
    (λ x. rw (t, u, v, w, x) (omega arith))))))

pub size_most : (l : List ℕ) → quantity_size l ≤ 4
unfolding quantity_size
size_most l =
    by_test (ltb (get_or l 0 255) 128) (λ t. rw t (omega arith))
    (λ t. by_test (eqb (get_or l 0 255) 128) (λ u. rw (t, u) (omega arith))
    (λ u. by_test (ltb (get_or l 1 255) 128) (λ v. rw (t, u, v) (omega arith))
    (λ v. by_test (ltb (get_or l 2 255) 128) (λ w. rw (t, u, v, w) (omega arith))
    (λ w. by_test (ltb (get_or l 3 255) 128) (λ x. rw (t, u, v, w, x) (omega arith))
    (λ x. rw (t, u, v, w, x) (omega arith))))))

-- ---- an event

-- a number in a rest
pub number_in_rest : (w k at : ℕ) (l : List ℕ) → at ≤ length l → number_at w k (drop at l) ≡ number_at w (at + k) l
number_in_rest w k at l h =
    by_bound (at + k + w) (length l)
    (λ f. number_at_within w k (drop at l) (simp length-drop (omega arith))
    ∙ ap (λ (t : List ℕ). number (take w t)) (drop-drop k at l)
    ∙ sym (number_at_within w (at + k) l f))
    (λ f. number_at_past w k (drop at l) (simp length-drop (omega arith)) ∙ sym (number_at_past w (at + k) l f))

-- what the code finds behind a quantity decides whether an event is in front
module _ (l : List ℕ) (q : Quantity) (e : Some q ≡ quantity_found l) where
  record Read : Type 0 where
    pub value : q.value ≡ quantity l
    pub size : q.size ≡ quantity_size l
    pub some : 0 < q.size

  quantity_read : Read
  unfolding quantity_found
  quantity_read =
      by_test (ltb 0 (quantity_size l))
      (λ t. let f : Some q ≡ Some (record { value = quantity l; size = quantity_size l }) = rw t at e in
      let g : q ≡ record { value = quantity l; size = quantity_size l } = cc f in
      let s : q.size ≡ quantity_size l = ap (λ (x : Quantity). x.size) g in
      record { value = ap (λ (x : Quantity). x.value) g; size = s; some = omega (arith, ltb-true 0 (quantity_size l) t) })
      (λ t. let f : Some q ≡ None = rw t at e in let z : ◌≡◌ {A = ℕ} 0 1 = cc f in absurd (omega arith))

  within : (w j : ℕ) → number_at w j (body l) ≡ number_at w (q.size + j) l
  within w j = number_in_rest w j (quantity_size l) l (size_within l) ∙ ap (λ (n : ℕ). number_at w (n + j) l) (sym quantity_read.size)

  pub size_small : q.size ≤ 4
  size_small = omega (arith, quantity_read.size, size_most l)

  module _ (x y : ℕ) (f : x ≡ number_at 2 q.size l) (g : y ≡ number_at 4 (q.size + 2) l) where
    event_test : has_event l ≡ eqb x 0xff51 && (ltb 0x0300_0000 y && ltb y 0x0400_0000)
    unfolding has_event
    event_test =
        let there_is : ltb 0 (quantity_size l) ≡ true = lt-ltb 0 (quantity_size l) (omega (arith, quantity_read.size, quantity_read.some)) in
        let kind : number_at 2 0 (body l) ≡ x = within 2 0 ∙ ap (λ (n : ℕ). number_at 2 n l) (add-zero q.size) ∙ sym f in
        let rest : number_at 4 2 (body l) ≡ y = within 4 2 ∙ sym g in
        rw (there_is, kind, rest)

    pub event_is : eqb x 0xff51 && (ltb 0x0300_0000 y && ltb y 0x0400_0000) ≡ true → Some (record { delta = q.value; tempo = y - 0x0300_0000; size = q.size + 6 }) ≡ event_found l
    unfolding event_found event_tempo
    event_is h =
        let rest : number_at 4 2 (body l) ≡ y = within 4 2 ∙ sym g in
        sym (rw (event_test ∙ h, rest, ← quantity_read.value, ← quantity_read.size))

    pub event_is_none : eqb x 0xff51 && (ltb 0x0300_0000 y && ltb y 0x0400_0000) ≡ false → None ≡ event_found l
    unfolding event_found
    event_is_none h = sym (rw (event_test ∙ h))

pub no_event : (l : List ℕ) → None ≡ quantity_found l → None ≡ event_found l
unfolding quantity_found has_event event_found
no_event l f =
    by_test (ltb 0 (quantity_size l))
    (λ t. let g : None ≡ Some (record { value = quantity l; size = quantity_size l }) = rw t at f in let z : ◌≡◌ {A = ℕ} 0 1 = cc g in absurd (omega arith))
    (λ t. sym (rw t))
