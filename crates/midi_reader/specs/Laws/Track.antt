-- A track, read event by event: the work that is left.
use Prim.Native.Nat.{ℕ, suc, ◌+◌, ◌-◌, ◌*◌, ◌<◌, ◌≤◌}
use Rattle.std.proofs.Common.{arith, sym, ap₂, ◌∙◌, length-append, take_all}
use Rattle.std.specs.Prelude.{true, false, refl, ltb, eqb, length, take, drop, set, replicate, Some, None, Err, Option}
use Rattle.std.proofs.Math.Path.{◌≡◌, ap}
use mathlib.Core.List.{List, [], ◌∷◌, ◌++◌, append-nil}
use borrow.Author.Tests.{ltb-true}
use Rattle.std.proofs.Math.ListN.{length-drop}
use Rattle.std.proofs.Math.Seq.{drop-drop, append_snoc}
use Rattle.std.proofs.lemmas.List.{set_at}
use Rattle.signed.specs.Laws.Tests.{both}
use Rattle.big_endian.specs.Bytes.{number_at}
use Rattle.big_endian.specs.Laws.Puts.{by_bound, number_at_past}
use Rattle.midi_file.specs.declared.TempoChange.{TempoChange}
use Rattle.midi_file.specs.declared.TempoList.{TempoList}
use Rattle.midi_file.specs.declared.Refusal.TheVariants.{NotSuchAFile}
use Rattle.midi_file.specs.Reading.{quantity_size, quantity, body, has_event, event_tempo, after_event, is_end, change, and_first, read_events}
use Rattle.midi_file.specs.Answers.{no_change, list_of, as_read, read_answer}
use Rattle.midi_file.specs.Laws.Numbers.{by_test}
use Rattle.midi_file.specs.Laws.Events.{at_end, at_event, at_other, at_full}
use Rattle.midi_reader.specs.declared.reading.TempoEvent.{TempoEvent}
use Rattle.midi_reader.specs.Steps.{event_found}
use Rattle.midi_reader.specs.Laws.Stepping.{size_within}

-- ---- what an event tells

pub record EventRead (l : List ℕ) (e : TempoEvent) : Type 0 where
  pub has : has_event l ≡ true
  pub delta : e.delta ≡ quantity l
  pub tempo : e.tempo ≡ event_tempo l
  pub size : e.size ≡ quantity_size l + 6

module _ (l : List ℕ) where
  no_event : None ≡ event_found l → has_event l ≡ false
  unfolding event_found
  no_event e =
      by_test (has_event l)
      (λ t. let f : None ≡ Some (record { delta = quantity l; tempo = event_tempo l; size = quantity_size l + 6 }) = rw t at e in let z : ◌≡◌ {A = ℕ} 0 1 = cc f in absurd (omega arith))
      (λ t. t)

  pub event_read : (x : TempoEvent) → Some x ≡ event_found l → EventRead l x
  unfolding event_found
  event_read x e =
      by_test (has_event l)
      (λ t. let f : Some x ≡ Some (record { delta = quantity l; tempo = event_tempo l; size = quantity_size l + 6 }) = rw t at e in
      let g : x ≡ record { delta = quantity l; tempo = event_tempo l; size = quantity_size l + 6 } = cc f in
      record { has = t; delta = ap (λ (y : TempoEvent). y.delta) g; tempo = ap (λ (y : TempoEvent). y.tempo) g; size = ap (λ (y : TempoEvent). y.size) g })
      (λ t. let f : Some x ≡ None = rw t at e in let z : ◌≡◌ {A = ℕ} 0 1 = cc f in absurd (omega arith))

  -- an event lies within its list
  event_within : has_event l ≡ true → quantity_size l + 6 ≤ length l
  unfolding has_event
  event_within e =
      let m : List ℕ = body l in
      let x : ℕ = number_at 4 2 m in
      let e₀ = both (ltb 0 (quantity_size l)) _ e in
      let e₁ = both (eqb (number_at 2 0 m) 0xff51) _ e₀.1 in
      let e₂ = both (ltb 0x0300_0000 x) _ e₁.1 in
      by_bound (2 + 4) (length m)
      (λ h. omega (arith, length-drop (quantity_size l) l, size_within l))
      (λ h. absurd (omega (arith, number_at_past 4 2 m h, ltb-true 0x0300_0000 x e₂.0)))

  after_is : after_event l ≡ drop (quantity_size l + 6) l
  unfolding after_event
  after_is = drop-drop 6 (quantity_size l) l

-- ---- the pairs that were read, before those that are left

unfoldable pub all_first : List TempoChange → Option (List TempoChange) → Option (List TempoChange)
all_first qs None = None
all_first qs (Some ps) = Some (qs ++ ps)

first_moved : (qs : List TempoChange) (p : TempoChange) (o : Option (List TempoChange)) → all_first (qs ++ (p ∷ [])) o ≡ all_first qs (and_first p o)
unfolding all_first and_first
first_moved qs p None = refl
first_moved qs p (Some ps) = ap Some (append_snoc qs p ps)

first_none : (o : Option (List TempoChange)) → all_first [] o ≡ o
unfolding all_first
first_none None = refl
first_none (Some ps) = refl

-- one more pair in a list
added : (qs : List TempoChange) (p : TempoChange) (list : TempoList) (n : ℕ) → list ≡ list_of qs → length qs ≡ n → n < 64 → record { changes = set list.changes n p; count = n + 1 } ≡ list_of (qs ++ (p ∷ []))
unfolding list_of
added qs p list n e k h =
    let m : ℕ = 64 - (n + 1) in
    let a : 64 - length qs ≡ suc m = omega arith in
    let b : 64 - length (qs ++ (p ∷ [])) ≡ m = omega (arith, length-append qs (p ∷ [])) in
    let c : list.changes ≡ qs ++ (no_change ∷ replicate m no_change) = ap (λ (x : TempoList). x.changes) e ∙ ap (λ (j : ℕ). qs ++ replicate j no_change) a in
    ap₂ (λ (x : List TempoChange) (y : ℕ). record { changes = x; count = y })
    (ap (λ (x : List TempoChange). set x n p) c ∙ set_at qs no_change (replicate m no_change) p n k ∙ sym (append_snoc qs p (replicate m no_change)) ∙ ap (λ (j : ℕ). (qs ++ (p ∷ [])) ++ replicate j no_change) (sym b))
    (omega (arith, length-append qs (p ∷ [])))

-- ---- the loop

pub record Progress (bs : List ℕ) (list : TempoList) (rest : List ℕ) (tick : ℕ) : Type 0 where
  pub full : list.count ≤ 64
  pub near : tick ≤ 4294967296 * list.count
  pub pairs : List TempoChange
  pub is : list ≡ list_of pairs
  pub left : all_first pairs (read_events (64 - list.count) tick rest) ≡ read_events 64 0 (drop 22 bs)

many : (list : TempoList) (ps : List TempoChange) → list ≡ list_of ps → length ps ≡ list.count
unfolding list_of
many list ps e = sym (ap (λ (l : TempoList). l.count) e)

-- what is behind a place, as the code takes it
behind : (k : ℕ) (l : List ℕ) → take (length l - k) (drop k l) ≡ drop k l
behind k l = let h : length (drop k l) ≤ length l - k = omega (arith, length-drop k l) in take_all (length l - k) (drop k l) h

pub progress_first : (bs : List ℕ) (list : TempoList) → list ≡ list_of [] → Progress bs list (take (length bs - 22) (drop 22 bs)) 0
unfolding list_of
progress_first bs list e =
    let z : list.count ≡ 0 = ap (λ (l : TempoList). l.count) e in
    record { full = omega arith; near = omega arith; pairs = []; is = e; left = rw (z, behind 22 bs) (first_none _) }

module _ {bs : List ℕ} {list : TempoList} {rest : List ℕ} {tick : ℕ} (g : Progress bs list rest tick) where
  pub progress_end : is_end rest ≡ true → record { number = 0; list = list } ≡ read_answer (read_events 64 0 (drop 22 bs))
  unfolding read_answer all_first
  progress_end e =
      let f : Some (g.pairs ++ []) ≡ read_events 64 0 (drop 22 bs) = ap (all_first g.pairs) (sym (at_end (64 - list.count) tick rest e)) ∙ g.left in
      ap (λ (l : TempoList). record { number = 0; list = l }) g.is
      ∙ ap (λ (ps : List TempoChange). read_answer (Some ps)) (sym (append-nil g.pairs))
      ∙ ap read_answer f

  stopped : read_events (64 - list.count) tick rest ≡ None → as_read (Err NotSuchAFile) ≡ read_answer (read_events 64 0 (drop 22 bs))
  unfolding all_first read_answer
  stopped e = ap read_answer (ap (all_first g.pairs) (sym e) ∙ g.left)

  pub progress_other : is_end rest ≡ false → None ≡ event_found rest → as_read (Err NotSuchAFile) ≡ read_answer (read_events 64 0 (drop 22 bs))
  progress_other e f = stopped (at_other (64 - list.count) tick rest e (no_event rest f))

  pub progress_full : is_end rest ≡ false → list.count ≡ 64 → as_read (Err NotSuchAFile) ≡ read_answer (read_events 64 0 (drop 22 bs))
  progress_full e h =
      let z : 64 - list.count ≡ 0 = omega arith in
      stopped (ap (λ (j : ℕ). read_events j tick rest) z ∙ at_full tick rest e)

  module _ (x : TempoEvent) (f : Some x ≡ event_found rest) where
    pub progress_within : x.size ≤ length rest
    progress_within =
        let r : EventRead rest x = event_read rest x f in
        omega (arith, r.size, event_within rest r.has)

    pub progress_shorter : length (take (length rest - x.size) (drop x.size rest)) < length rest
    progress_shorter =
        let r : EventRead rest x = event_read rest x f in
        omega (arith, r.size, progress_within, length-drop x.size rest, ap length (behind x.size rest))

    pub progress_next :
        is_end rest ≡ false → (d : ℕ) → d ≡ x.delta → (p : TempoChange) → p ≡ change x.tempo (tick + d) → ¬ (list.count ≡ 64) → x.delta < 4294967296
        → Progress bs (record { changes = set list.changes list.count p; count = list.count + 1 }) (take (length rest - x.size) (drop x.size rest)) (tick + d)
    progress_next i d z p e n k =
        let h : list.count < 64 = omega (arith, g.full) in
        let r : EventRead rest x = event_read rest x f in
        let m : ℕ = 64 - (list.count + 1) in
        let a : 64 - list.count ≡ suc m = omega arith in
        let s : List ℕ = take (length rest - x.size) (drop x.size rest) in
        let b : s ≡ after_event rest = behind x.size rest ∙ ap (λ (j : ℕ). drop j rest) r.size ∙ sym (after_is rest) in
        let w : read_events (64 - list.count) tick rest ≡ and_first p (read_events m (tick + d) s) =
        ap (λ (j : ℕ). read_events j tick rest) a ∙ at_event m tick rest i r.has
        ∙ rw (← r.delta, ← z, ← r.tempo, ← b, ← e) in
        record {
          full = omega arith;
          near = omega (arith, g.near);
          pairs = g.pairs ++ (p ∷ []);
          is = added g.pairs p list list.count g.is (many list g.pairs g.is) h;
          left = first_moved g.pairs p (read_events m (tick + d) s) ∙ ap (all_first g.pairs) (sym w) ∙ g.left;
        }
