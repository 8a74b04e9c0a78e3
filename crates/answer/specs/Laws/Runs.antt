-- Outputs in a row: one writer after another, and what is left to write.
use Rattle.std.specs.Prelude.{ℕ, ◌+◌, ◌*◌, ◌<◌, ◌≤◌, ◌≡◌, refl, length}
use Rattle.std.proofs.Common.{arith, ◌∙◌, subst, length-append}
use Rattle.std.proofs.Math.Path.{sym, ap}
use mathlib.Core.List.{List, [], ◌∷◌, ◌++◌, flat_map}
use Rattle.big_endian.specs.Bytes.{put}
use Rattle.big_endian.specs.Laws.Puts.{length-put}
use Rattle.model.specs.Engine.{Output}
use Rattle.model.specs.Answer.{kind, content, contents}
use Rattle.answer.specs.declared.cursor.Cursor.{Cursor}
use Rattle.answer.specs.Inner.Laid.{labelled, passed, lay, after, lay_all, after_all, Room, Laid}

-- ---- lengths and places

pub length-contents : (xs ys : List Output) → length (contents (xs ++ ys)) ≡ length (contents xs) + length (contents ys)
unfolding contents flat_map
length-contents [] ys = omega arith
length-contents (x ∷ xs) ys =
    omega (arith, length-contents xs ys, length-append (content x) (flat_map content (xs ++ ys)), length-append (content x) (flat_map content xs))

pub length_one : (o : Output) → length (contents (o ∷ [])) ≡ length (content o)
unfolding contents flat_map
length_one o = omega (arith, length-append (content o) [])

pub length-labelled : (c : Cursor) (k n : ℕ) (buf : List ℕ) → length (labelled c k n buf) ≡ length buf
unfolding labelled
length-labelled c k n buf = simp length-put

length-lay : (c : Cursor) (o : Output) (buf : List ℕ) → length (lay c o buf) ≡ length buf
unfolding lay
length-lay c o buf = length-put _ _ _ ∙ length-labelled c _ _ buf

pub length-lay_all : (c : Cursor) (os : List Output) (buf : List ℕ) → length (lay_all c os buf) ≡ length buf
unfolding lay_all
length-lay_all c [] buf = refl
length-lay_all c (o ∷ os) buf = length-lay_all (after c o) os (lay c o buf) ∙ length-lay c o buf

-- where the cursor is after outputs
record Moved (c : Cursor) (os : List Output) (next : Cursor) : Type 0 where
  total : next.total ≡ c.total
  index : next.index ≡ c.index + length os
  at : next.at ≡ c.at + length (contents os)

moved : (c : Cursor) (os : List Output) → Moved c os (after_all c os)
unfolding after_all after passed contents flat_map
moved c [] = record { total = refl; index = omega arith; at = omega arith }
moved c (o ∷ os) =
    let m = moved (after c o) os in
    record { total = m.total; index = omega (arith, m.index); at = omega (arith, m.at, length-append (content o) (flat_map content os)) }

-- ---- in a row

lay_append : (c : Cursor) (xs ys : List Output) (buf : List ℕ) → lay_all c (xs ++ ys) buf ≡ lay_all (after_all c xs) ys (lay_all c xs buf)
unfolding lay_all after_all
lay_append c [] ys buf = refl
lay_append c (x ∷ xs) ys buf = lay_append (after c x) xs ys (lay c x buf)

after_append : (c : Cursor) (xs ys : List Output) → after_all c (xs ++ ys) ≡ after_all (after_all c xs) ys
unfolding after_all
after_append c [] ys = refl
after_append c (x ∷ xs) ys = after_append (after c x) xs ys

room_front : {c : Cursor} (xs ys : List Output) {buf : List ℕ} → Room c (xs ++ ys) buf → Room c xs buf
room_front xs ys r = record {
  labels = omega (arith, r.labels, length-append xs ys);
  within = omega (arith, r.within, length-contents xs ys);
}

pub room_back : {c : Cursor} (xs ys : List Output) {buf : List ℕ} → Room c (xs ++ ys) buf → Room (after_all c xs) ys (lay_all c xs buf)
room_back {c} xs ys {buf} r =
    let m = moved c xs in
    record {
      labels = omega (arith, r.labels, r.within, length-append xs ys, m.total, m.index, m.at);
      within = omega (arith, r.within, length-contents xs ys, m.at, length-lay_all c xs buf);
    }

-- ---- what is left to write

-- of all the outputs, `os` are left, and to write them makes the whole
pub record Left (start : Cursor) (all : List Output) (old : List ℕ) (c : Cursor) (os : List Output) (buf : List ℕ) : Type 0 where
  pub room : Room c os buf
  pub cursor : after_all c os ≡ after_all start all
  pub buffer : lay_all c os buf ≡ lay_all start all old

pub all_left : {c : Cursor} {os : List Output} {buf : List ℕ} → Room c os buf → Left c os buf c os buf
all_left r = record { room = r; cursor = refl; buffer = refl }

module _ {start : Cursor} {all : List Output} {old : List ℕ} {c : Cursor} {os : List Output} {buf : List ℕ} (l : Left start all old c os buf) where
  -- the room for the next of them
  pub room_for : (xs ys : List Output) → os ≡ xs ++ ys → Room c xs buf
  room_for xs ys e = room_front xs ys (subst (λ (zs : List Output). Room c zs buf) e l.room)

  -- a writer wrote the next of them
  pub then_left : (xs ys : List Output) {next : Cursor} {new : List ℕ} → os ≡ xs ++ ys → Laid c xs buf next new → Left start all old next ys new
  then_left xs ys {next} {new} e w =
      let r = room_back xs ys (subst (λ (zs : List Output). Room c zs buf) e l.room) in
      rw (w.cursor, w.buffer)
      (record {
        room = r;
        cursor = sym (after_append c xs ys) ∙ ap (after_all c) (sym e) ∙ l.cursor;
        buffer = sym (lay_append c xs ys buf) ∙ ap (λ (zs : List Output). lay_all c zs buf) (sym e) ∙ l.buffer;
      })

  -- a writer wrote the last of them
  pub last_laid : {next : Cursor} {new : List ℕ} → Laid c os buf next new → Laid start all old next new
  last_laid w = record { cursor = w.cursor ∙ l.cursor; buffer = w.buffer ∙ l.buffer }

  -- none of them is left
  pub done_laid : os ≡ [] → Laid start all old c buf
  unfolding lay_all after_all
  done_laid e = record {
    cursor = sym (ap (after_all c) e) ∙ l.cursor;
    buffer = sym (ap (λ (zs : List Output). lay_all c zs buf) e) ∙ l.buffer;
  }

  pub left_length : length buf ≡ length old
  left_length = sym (length-lay_all c os buf) ∙ ap length l.buffer ∙ length-lay_all start all old

-- no outputs: nothing moves
pub none_laid : {c : Cursor} {buf : List ℕ} → Laid c [] buf c buf
unfolding lay_all after_all
none_laid = record { cursor = refl; buffer = refl }

-- ---- one output of n bytes

module _ {c : Cursor} (o : Output) {n : ℕ} {buf : List ℕ} (h : length (content o) ≡ n) where
  -- the room for its label and its content
  pub one_room : n < 65536 → Room c (o ∷ []) buf → (4 + c.total + 2 * (c.index + 1) ≤ c.at) × ((c.at + n ≤ length buf) × (n < 65536))
  one_room k r = (r.labels, (omega (arith, r.within, length_one o), k))

  -- its label, and then its content
  pub one_laid : {next : Cursor} {mid new : List ℕ} → next ≡ passed c n → mid ≡ labelled c (kind o) n buf → new ≡ put c.at (content o) mid → Laid c (o ∷ []) buf next new
  unfolding lay_all after_all lay after
  one_laid e f g = record {
    cursor = e ∙ ap (passed c) (sym h);
    buffer = g ∙ ap (put c.at (content o)) (f ∙ ap (λ (m : ℕ). labelled c (kind o) m buf) (sym h));
  }
