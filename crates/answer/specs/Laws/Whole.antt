-- The two numbers in front and all outputs laid behind them make the answer.
use Prim.Native.Nat.{ℕ, ◌+◌, ◌*◌, ◌<◌, ◌≤◌}
use native.Mathlib.Omega.{arith}
use Rattle.std.specs.Prelude.{◌≡◌, true, false, take, drop}
use Rattle.std.proofs.Math.Path.{refl, ap}
use Rattle.std.proofs.Common.{sym, ap₂, ◌∙◌, length-drop, take-append-drop, take_at, length-take-le}
use mathlib.Core.List.{List, [], ◌∷◌, ◌++◌, map, flat_map, append_assoc}
use borrow.Author.Tests.{le-leb, lt-leb}
use Rattle.std.proofs.Math.ListN.{length, length-append, length-map}
use Rattle.std.proofs.lemmas.List.{take-append-le, drop-append-le}
use Rattle.std.proofs.Math.Seq.{drop-append-add}
use Rattle.big_endian.specs.Bytes.{bytes, put}
use Rattle.big_endian.specs.Laws.Numbers.{length-bytes}
use Rattle.big_endian.specs.Laws.Puts.{put_within, put_front, put_empty, put_then, length-put}
use Rattle.model.specs.Engine.{Output, send, state_changed, num_peers_changed, set_timer}
use Rattle.model.specs.Answer.{kind, content, contents, answer}
use Rattle.model.specs.Laws.Calls.Outputs.{sizes}
use Rattle.model.proofs.Laws.Calls.Outputs.{answer_size}
use Rattle.answer.specs.declared.cursor.Cursor.{Cursor}
use Rattle.answer.specs.Inner.Planned.{fits, answered}
use Rattle.answer.specs.Inner.Laid.{labelled, passed, lay, after, lay_all, after_all, Room}
use Rattle.answer.specs.Laws.Runs.{room_back}

-- ---- places that do not meet

put_left : (at : ℕ) (xs p q : List ℕ) → at + length xs ≤ length p → put at xs (p ++ q) ≡ put at xs p ++ q
put_left at xs p q h =
    let g : at + length xs ≤ length (p ++ q) = simp length-append (omega arith) in
    let k : at ≤ length p = omega arith in
    put_within at xs (p ++ q) g
    ∙ ap₂ (λ (s t : List ℕ). s ++ (xs ++ t)) (take-append-le at p q k) (drop-append-le (at + length xs) p q h)
    ∙ ap (λ (t : List ℕ). take at p ++ t) (sym (append_assoc xs (drop (at + length xs) p) q))
    ∙ sym (append_assoc (take at p) (xs ++ drop (at + length xs) p) q)
    ∙ ap (λ (t : List ℕ). t ++ q) (sym (put_within at xs p h))

put_right : (at : ℕ) (ys p q : List ℕ) → length p ≡ at → length ys ≤ length q → put at ys (p ++ q) ≡ p ++ put 0 ys q
put_right at ys p q e h =
    let g : at + length ys ≤ length (p ++ q) = simp length-append (omega arith) in
    put_within at ys (p ++ q) g
    ∙ ap₂ (λ (s t : List ℕ). s ++ (ys ++ t)) (take_at p q at e) (ap (λ (n : ℕ). drop (n + length ys) (p ++ q)) (sym e) ∙ drop-append-add p q (length ys))
    ∙ ap (λ (t : List ℕ). p ++ t) (sym (put_front ys q h))

-- writes at places that do not meet change places
put_swap : (at to : ℕ) (xs ys l : List ℕ) → at + length xs ≤ to → to + length ys ≤ length l → put at xs (put to ys l) ≡ put to ys (put at xs l)
put_swap at to xs ys l h k =
    let p : List ℕ = take to l in
    let q : List ℕ = drop to l in
    let s : p ++ q ≡ l = take-append-drop to l in
    let lp : length p ≡ to = length-take-le to l (omega arith) in
    let lq : length ys ≤ length q = simp length-drop (omega arith) in
    let lx : length (put at xs p) ≡ to = length-put at xs p ∙ lp in
    ap (λ (t : List ℕ). put at xs (put to ys t)) (sym s)
    ∙ ap (put at xs) (put_right to ys p q lp lq)
    ∙ put_left at xs p (put 0 ys q) (omega arith)
    ∙ sym (put_right to ys (put at xs p) q lx lq)
    ∙ ap (put to ys) (sym (put_left at xs p q (omega arith)))
    ∙ ap (λ (t : List ℕ). put to ys (put at xs t)) s

-- ---- the three runs: the kinds, the lengths, the contents

abbrev lengths : List Output → List ℕ
lengths os = flat_map (λ o. bytes 2 (length (content o))) os

length_lengths : (os : List Output) → length (lengths os) ≡ 2 * length os
unfolding flat_map
length_lengths [] = refl
length_lengths (o ∷ os) = omega (arith, length_lengths os, length-append (bytes 2 (length (content o))) (lengths os), length-bytes 2 (length (content o)))

abbrev runs : Cursor → List Output → List ℕ → List ℕ
runs c os buf = put c.at (contents os) (put (4 + c.total + 2 * c.index) (lengths os) (put (4 + c.index) (map kind os) buf))

-- writes in three places, and more in the same three: as if each place were written once
module _ (pk pm pa : ℕ) (ks ks' ms ms' bs bs' l : List ℕ) (hk : pk + length (ks ++ ks') ≤ pm) (hm : pm + length (ms ++ ms') ≤ pa) (ha : pa + length (bs ++ bs') ≤ length l) where
  three : (qk qm qa : ℕ) → qk ≡ pk + length ks → qm ≡ pm + length ms → qa ≡ pa + length bs
      → put qa bs' (put qm ms' (put qk ks' (put pa bs (put pm ms (put pk ks l))))) ≡ put pa (bs ++ bs') (put pm (ms ++ ms') (put pk (ks ++ ks') l))
  three qk qm qa ek em ea =
      let sk : length (ks ++ ks') ≡ length ks + length ks' = length-append ks ks' in
      let sm : length (ms ++ ms') ≡ length ms + length ms' = length-append ms ms' in
      let sa : length (bs ++ bs') ≡ length bs + length bs' = length-append bs bs' in
      let l₁ : List ℕ = put pk ks l in
      let l₂ : List ℕ = put pk (ks ++ ks') l in
      let l₃ : List ℕ = put pm (ms ++ ms') l₂ in
      let n₁ : length l₁ ≡ length l = length-put pk ks l in
      let n₂ : length l₂ ≡ length l = length-put pk (ks ++ ks') l in
      let n₃ : length l₃ ≡ length l = length-put pm (ms ++ ms') l₂ ∙ n₂ in
      let n₄ : length (put pm ms l₁) ≡ length l = length-put pm ms l₁ ∙ n₁ in
      let n₅ : length (put pm ms l₂) ≡ length l = length-put pm ms l₂ ∙ n₂ in
      let first : put qk ks' l₁ ≡ l₂ = put_then pk qk ks ks' l l₁ _ refl refl ek (omega arith) in
      ap (λ (t : List ℕ). put qa bs' (put qm ms' t)) (put_swap qk pa ks' bs (put pm ms l₁) (omega arith) (omega arith))
      ∙ ap (λ (t : List ℕ). put qa bs' (put qm ms' (put pa bs t))) (put_swap qk pm ks' ms l₁ (omega arith) (omega arith) ∙ ap (put pm ms) first)
      ∙ ap (put qa bs') (put_swap qm pa ms' bs (put pm ms l₂) (omega arith) (omega arith))
      ∙ ap (λ (t : List ℕ). put qa bs' (put pa bs t)) (put_then pm qm ms ms' l₂ (put pm ms l₂) _ refl refl em (omega arith))
      ∙ put_then pa qa bs bs' l₃ (put pa bs l₃) _ refl refl ea (omega arith)

kind_byte : (o : Output) → bytes 1 (kind o) ≡ kind o ∷ []
unfolding bytes
kind_byte (send iface to packet) = refl
kind_byte (state_changed s) = refl
kind_byte (num_peers_changed n) = refl
kind_byte (set_timer t) = refl

runs_next : (c : Cursor) (o : Output) (os : List Output) (buf : List ℕ) → c.index + length (o ∷ os) ≤ c.total → Room c (o ∷ os) buf → runs (after c o) os (lay c o buf) ≡ runs c (o ∷ os) buf
unfolding lay labelled after passed contents flat_map
runs_next c o os buf h r =
    let m : List ℕ = bytes 2 (length (content o)) in
    let lm : length m ≡ 2 = length-bytes 2 (length (content o)) in
    let ls : length (m ++ lengths os) ≡ 2 + length (lengths os) = simp (length-append, lm) in
    let lk : length (kind o ∷ map kind os) ≡ length (o ∷ os) = length-map (o ∷ os) kind in
    ap (λ (k : List ℕ). put (c.at + length (content o)) (flat_map content os) (put (4 + c.total + 2 * (c.index + 1)) (lengths os) (put (4 + (c.index + 1)) (map kind os) (put c.at (content o) (put (4 + c.total + 2 * c.index) m (put (4 + c.index) k buf)))))) (kind_byte o)
    ∙ three (4 + c.index) (4 + c.total + 2 * c.index) c.at (kind o ∷ []) (map kind os) m (lengths os) (content o) (flat_map content os) buf
    (omega arith) (omega (arith, r.labels, length_lengths os)) r.within
    (4 + (c.index + 1)) (4 + c.total + 2 * (c.index + 1)) (c.at + length (content o)) (omega arith) (omega arith) refl

lay_runs : (c : Cursor) (os : List Output) (buf : List ℕ) → c.index + length os ≤ c.total → Room c os buf → lay_all c os buf ≡ runs c os buf
unfolding lay_all after_all after passed contents flat_map
lay_runs c [] buf h r = sym (put_empty _ _ ∙ put_empty _ _ ∙ put_empty _ _)
lay_runs c (o ∷ os) buf h r =
    lay_runs (after c o) os (lay c o buf) (omega arith) (room_back (o ∷ []) os r) ∙ runs_next c o os buf h r

-- ---- the answer

sizes_sum : (os : List Output) → sizes os ≡ 3 * length os + length (contents os)
unfolding sizes contents flat_map
sizes_sum [] = refl
sizes_sum (o ∷ os) = omega (arith, sizes_sum os, length-append (content o) (flat_map content os))

pub answer_length : (os : List Output) → length (answer os) ≡ 4 + 3 * length os + length (contents os)
answer_length os = omega (arith, answer_size os, sizes_sum os)

-- the cursor at the first of n outputs
abbrev pub first : ℕ → Cursor
first n = record { total = n; index = 0; at = 4 + 3 * n }

module _ (os : List Output) (old : List ℕ) (h : 4 + 3 * length os + length (contents os) ≤ length old) where
  pub first_room : (buf : List ℕ) → length buf ≡ length old → Room (first (length os)) os buf
  first_room buf e = record { labels = omega arith; within = omega arith }

  -- the two numbers, then all outputs from the first on
  whole : (l₁ l₂ : List ℕ) → l₁ ≡ put 0 (bytes 2 (length os)) old → l₂ ≡ put 2 (bytes 2 (length (contents os))) l₁ → lay_all (first (length os)) os l₂ ≡ answered os old
  unfolding answered answer
  whole l₁ l₂ e₁ e₂ =
      let n : List ℕ = bytes 2 (length os) in
      let b : List ℕ = bytes 2 (length (contents os)) in
      let ks : List ℕ = map kind os in
      let ls : List ℕ = lengths os in
      let ln : length n ≡ 2 = length-bytes 2 (length os) in
      let lb : length b ≡ 2 = length-bytes 2 (length (contents os)) in
      let lk : length ks ≡ length os = length-map os kind in
      let ll : length ls ≡ 2 * length os = length_lengths os in
      let s₂ : length (n ++ b) ≡ 4 = length-append n b ∙ omega arith in
      let s₃ : length ((n ++ b) ++ ks) ≡ 4 + length os = length-append (n ++ b) ks ∙ omega arith in
      let s₄ : length (((n ++ b) ++ ks) ++ ls) ≡ 4 + 3 * length os = length-append ((n ++ b) ++ ks) ls ∙ omega arith in
      let s₅ : length ((((n ++ b) ++ ks) ++ ls) ++ contents os) ≡ 4 + 3 * length os + length (contents os) = length-append (((n ++ b) ++ ks) ++ ls) (contents os) ∙ omega arith in
      let m : length l₂ ≡ length old = ap length e₂ ∙ length-put 2 b l₁ ∙ ap length e₁ ∙ length-put 0 n old in
      let w₂ : l₂ ≡ put 0 (n ++ b) old = put_then 0 2 n b old l₁ l₂ e₁ e₂ (omega arith) (omega arith) in
      let w₃ = put_then 0 (4 + 0) (n ++ b) ks old l₂ (put (4 + 0) ks l₂) w₂ refl (omega arith) (omega arith) in
      let w₄ = put_then 0 (4 + length os + 2 * 0) ((n ++ b) ++ ks) ls old _ _ w₃ refl (omega arith) (omega arith) in
      let w₅ = put_then 0 (4 + 3 * length os) (((n ++ b) ++ ks) ++ ls) (contents os) old _ _ w₄ refl (omega arith) (omega arith) in
      lay_runs (first (length os)) os l₂ (omega arith) (first_room l₂ m)
      ∙ w₅
      ∙ ap (λ (t : List ℕ). put 0 t old) (simp append_assoc)
      ∙ put_front (answer os) old (omega (arith, answer_length os))

  -- the same, of a count and a size that were worked out before
  pub wrote_whole : (n b : ℕ) {l₁ l₂ new : List ℕ} → n ≡ length os → b ≡ length (contents os)
      → l₁ ≡ put 0 (bytes 2 n) old → l₂ ≡ put 2 (bytes 2 b) l₁ → new ≡ lay_all (first n) os l₂ → new ≡ answered os old
  wrote_whole n b {l₁} {l₂} en eb e₁ e₂ e =
      e ∙ ap (λ (k : ℕ). lay_all (first k) os l₂) en
      ∙ whole l₁ l₂ (e₁ ∙ ap (λ (k : ℕ). put 0 (bytes 2 k) old) en) (e₂ ∙ ap (λ (k : ℕ). put 2 (bytes 2 k) l₁) eb)

-- ---- whether it fits

module _ (echo : List ℕ) (os : List Output) (old : List ℕ) where
  pub echo_too_long : 503 < length echo → false ≡ fits echo os old
  unfolding fits
  echo_too_long h = rw (lt-leb (length echo) 503 h)

  module _ (h : length echo ≤ 503) where
    pub too_long : length old < 4 + 3 * length os + length (contents os) → false ≡ fits echo os old
    unfolding fits
    too_long k = rw (le-leb (length echo) 503 h, lt-leb (length (answer os)) (length old) (omega (arith, answer_length os)))

    pub it_fits : 4 + 3 * length os + length (contents os) ≤ length old → true ≡ fits echo os old
    unfolding fits
    it_fits k = rw (le-leb (length echo) 503 h, le-leb (length (answer os)) (length old) (omega (arith, answer_length os)))
