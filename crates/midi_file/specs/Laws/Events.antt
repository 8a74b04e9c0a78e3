-- The theorem over lists: what is read is exactly what is written.
use Rattle.std.specs.Prelude.{ℕ, zero, suc, ◌+◌, ◌-◌, ◌*◌, ◌/◌, ◌%◌, ◌^◌, ◌<◌, ◌≤◌, true, false, ◌≡◌, refl, List, [], ◌∷◌, ◌++◌, ltb, eqb, ℤ, pos, negsuc, nat_abs, length, drop, Option, None, Some}
use Rattle.std.proofs.Common.{arith, true≢false, sym, ap, ap₂, ◌∙◌, append_assoc, append-nil, lt-ltb, ltb-true, leb-true, le-leb, eqb-true, ne_eqb, eq-eqb, length-append, drop_of_length-le, drop_at}
use Rattle.std.specs.Int.Signed.{le_z}
use Rattle.std.proofs.Math.Seq.{drop-append_seam}
use Rattle.signed.specs.Laws.Tests.{both}
use Rattle.big_endian.specs.Bytes.{bytes, number, number_at}
use Rattle.big_endian.specs.Laws.Numbers.{length-bytes}
use Rattle.midi_file.specs.declared.TempoChange.{TempoChange}
use Rattle.midi_file.specs.Layout.{vlq, event, micros, tempo_of, events, end_of_track}
use Rattle.midi_file.specs.Refusal.{good_tempo, good_tempos, good_origin, good_origins}
use Rattle.midi_file.specs.Reading.{quantity_size, quantity, body, has_event, event_tempo, after_event, is_end, change, and_first, read_events}
use Rattle.midi_file.specs.Laws.Numbers.{Bytes, drop-bytes, field, number_behind, by_test}
use Rattle.midi_file.specs.Laws.Fields.{event_fields, end_fields}
use Rattle.midi_file.specs.Laws.Quantities.{Spells, Back, read_front, written_back, width_pos}

-- ---- an event in front

-- l begins with an event of this delta and tempo, and m follows
pub record Begins (l : List ℕ) (delta tempo : ℕ) (m : List ℕ) : Type 0 where
  pub near : delta < 2 ^ 28
  pub slow : 0 < tempo
  pub fast : tempo < 2 ^ 24
  pub same : l ≡ event delta tempo ++ m

event_read : {l : List ℕ} → Bytes l → has_event l ≡ true → Begins l (quantity l) (event_tempo l) (after_event l)
unfolding has_event event_tempo after_event
event_read {l} b e =
    let m : List ℕ = body l in
    let t : ℕ = number_at 4 2 m in
    let e₀ = both (ltb 0 (quantity_size l)) _ e in
    let e₁ = both (eqb (number_at 2 0 m) 0xff51) _ e₀.1 in
    let e₂ = both (ltb 0x0300_0000 t) _ e₁.1 in
    let p : 0x0300_0000 < t = ltb-true _ _ e₂.0 in
    let q : t < 0x0400_0000 = ltb-true _ _ e₂.1 in
    let s : Spells l (quantity l) (quantity_size l) = read_front b (ltb-true _ _ e₀.0) in
    let bm : Bytes m = drop-bytes (quantity_size l) b in
    let f₁ : m ≡ bytes 2 0xff51 ++ drop 2 m = field 2 0 0xff51 bm (eqb-true _ _ e₁.0) (omega arith) in
    let f₂ : drop 2 m ≡ bytes 4 t ++ drop 6 m = field 4 2 t bm refl (omega arith) in
    let k : t ≡ 0x0300_0000 + (t - 0x0300_0000) = omega arith in
    let w : t - 0x0300_0000 < 2 ^ 24 = omega arith in
    record {
      near = s.small;
      slow = omega arith;
      fast = w;
      same = s.same
          ∙ ap (λ (x : List ℕ). vlq (quantity l) ++ x)
          (f₁ ∙ ap (λ (x : List ℕ). bytes 2 0xff51 ++ x) (f₂ ∙ ap (λ (n : ℕ). bytes 4 n ++ drop 6 m) k)
          ∙ sym (append_assoc (bytes 2 0xff51) (bytes 4 (0x0300_0000 + (t - 0x0300_0000))) (drop 6 m)))
          ∙ sym (append_assoc (vlq (quantity l)) (bytes 2 0xff51 ++ bytes 4 (0x0300_0000 + (t - 0x0300_0000))) (drop 6 m))
          ∙ ap (λ (x : List ℕ). x ++ drop 6 m) (sym (event_fields (quantity l) (t - 0x0300_0000) w));
    }

end_read : {l : List ℕ} → Bytes l → is_end l ≡ true → l ≡ end_of_track
unfolding is_end
end_read {l} b e =
    let e₀ = both (eqb (length l) 4) _ e in
    let n : length l ≡ 4 = eqb-true _ _ e₀.0 in
    let h : length l ≤ 4 = omega arith in
    field 4 0 0x00ff_2f00 b (eqb-true _ _ e₀.1) (omega arith)
    ∙ ap (λ (x : List ℕ). bytes 4 0x00ff_2f00 ++ x) (drop_of_length-le l h)
    ∙ append-nil (bytes 4 0x00ff_2f00)
    ∙ sym end_fields

-- ---- the events, one at a time

pub at_end : (n k : ℕ) (l : List ℕ) → is_end l ≡ true → read_events n k l ≡ Some []
unfolding read_events
at_end zero k l e = rw (e, read_events)
at_end (suc n) k l e = rw (e, read_events)

pub at_event : (n k : ℕ) (l : List ℕ) → is_end l ≡ false → has_event l ≡ true → read_events (suc n) k l ≡ and_first (change (event_tempo l) (k + quantity l)) (read_events n (k + quantity l) (after_event l))
unfolding read_events
at_event n k l e f = rw (e, f)

pub at_other : (n k : ℕ) (l : List ℕ) → is_end l ≡ false → has_event l ≡ false → read_events n k l ≡ None
unfolding read_events
at_other zero k l e f = rw e
at_other (suc n) k l e f = rw (e, f)

pub at_full : (k : ℕ) (l : List ℕ) → is_end l ≡ false → read_events 0 k l ≡ None
unfolding read_events
at_full k l e = rw e

-- ---- from bytes to pairs

-- at most n good pairs behind the tick k, with their events in l and the end of track
pub record Reads (n k : ℕ) (l : List ℕ) (ps : List TempoChange) : Type 0 where
  pub few : length ps ≤ n
  pub tempos : good_tempos ps ≡ true
  pub origins : good_origins (1000 * k) ps ≡ true
  pub same : l ≡ events (1000 * k) ps ++ end_of_track

none_read : (n k : ℕ) {l : List ℕ} {ps : List TempoChange} → l ≡ end_of_track → ps ≡ [] → Reads n k l ps
unfolding good_tempos good_origins events
none_read n k e p = rw p (record { few = omega arith; tempos = refl; origins = refl; same = e })

good_change : (t k d : ℕ) → 0 < t → t < 2 ^ 24 → d < 2 ^ 28 → (good_tempo (change t (k + d)) ≡ true) × (good_origin (1000 * k) (change t (k + d)) ≡ true)
unfolding good_tempo good_origin change
good_change t k d h f n = (
  rw (le-leb 1 t h, le-leb t 16_777_215 (omega arith)),
  rw (le-leb (1000 * k) (1000 * (k + d)) (omega arith), le-leb (1000 * (k + d)) (1000 * k + 268_435_455_000) (omega arith), eq-eqb (1000 * (k + d) % 1000) 0 (omega arith)),
)

one_read : (n k : ℕ) {l m : List ℕ} {d t : ℕ} {qs ps : List TempoChange} → Begins l d t m → Reads n (k + d) m qs → ps ≡ change t (k + d) ∷ qs → Reads (suc n) k l ps
unfolding good_tempos good_origins events change
one_read n k {l} {m} {d} {t} {qs} b r p =
    let g = good_change t k d b.slow b.fast b.near in
    let e : (1000 * (k + d) - 1000 * k) / 1000 ≡ d = omega arith in
    rw p
    (record {
      few = omega (arith, r.few);
      tempos = rw g.0 r.tempos;
      origins = rw g.1 r.origins;
      same = b.same ∙ ap₂ (λ (x : ℕ) (y : List ℕ). event x t ++ y) (sym e) r.same
          ∙ sym (append_assoc (event ((1000 * (k + d) - 1000 * k) / 1000) t) (events (1000 * (k + d)) qs) end_of_track);
    })

-- what is in front, and behind it
parted : (p : TempoChange) (o : Option (List TempoChange)) (ps : List TempoChange) → and_first p o ≡ Some ps → (qs : List TempoChange) × (o ≡ Some qs) × (ps ≡ p ∷ qs)
unfolding and_first
parted p None ps e = let z : ◌≡◌ {A = ℕ} 0 1 = cc in absurd (omega arith)
parted p (Some qs) ps e = (qs, refl, cc)

after_bytes : {l : List ℕ} → Bytes l → Bytes (after_event l)
unfolding after_event
after_bytes {l} b = drop-bytes 6 (drop-bytes (quantity_size l) b)

pub sound : (n k : ℕ) {l : List ℕ} → Bytes l → (ps : List TempoChange) → read_events n k l ≡ Some ps → Reads n k l ps
sound zero k {l} b ps e =
    by_test (is_end l)
    (λ t. let f : Some [] ≡ Some ps = sym (at_end 0 k l t) ∙ e in none_read 0 k (end_read b t) (cc))
    (λ t. let f : None ≡ Some ps = sym (at_full k l t) ∙ e in let z : ◌≡◌ {A = ℕ} 0 1 = cc in absurd (omega arith))
sound (suc n) k {l} b ps e =
    by_test (is_end l)
    (λ t. let f : Some [] ≡ Some ps = sym (at_end (suc n) k l t) ∙ e in none_read (suc n) k (end_read b t) (cc))
    (λ t. by_test (has_event l)
    (λ u. let f = parted (change (event_tempo l) (k + quantity l)) (read_events n (k + quantity l) (after_event l)) ps (sym (at_event n k l t u) ∙ e) in
    one_read n k (event_read b u) (sound n (k + quantity l) (after_bytes b) f.0 f.1) f.2)
    (λ u. let f : None ≡ Some ps = sym (at_other (suc n) k l t u) ∙ e in let z : ◌≡◌ {A = ℕ} 0 1 = cc in absurd (omega arith)))

-- ---- from pairs to bytes

pub length-event : (d t : ℕ) → length (event d t) ≡ length (vlq d) + 6
unfolding event
length-event d t = simp (length-append, length-bytes)

-- an event in front of anything
record EventBack (d t : ℕ) (rest : List ℕ) : Type 0 where
  pub end : is_end (event d t ++ rest) ≡ false
  pub has : has_event (event d t ++ rest) ≡ true
  pub delta : quantity (event d t ++ rest) ≡ d
  pub tempo : event_tempo (event d t ++ rest) ≡ t
  pub after : after_event (event d t ++ rest) ≡ rest

event_back : (d t : ℕ) (rest : List ℕ) → d < 2 ^ 28 → 0 < t → t < 2 ^ 24 → EventBack d t rest
unfolding is_end has_event event_tempo after_event
event_back d t rest hd h ht =
    let m : List ℕ = bytes 2 0xff51 ++ (bytes 4 (0x0300_0000 + t) ++ rest) in
    let laid : event d t ++ rest ≡ vlq d ++ m = rw (event_fields d t ht, append_assoc, append_assoc) in
    let b : Back d m = written_back d m hd in
    let y : body (vlq d ++ m) ≡ m = ap (λ (j : ℕ). drop j (vlq d ++ m)) b.size ∙ drop-append_seam (vlq d) m in
    let n₂ : number_at 2 0 m ≡ 0xff51 = number_behind 2 0xff51 [] (bytes 4 (0x0300_0000 + t) ++ rest) 0 refl in
    let n₄ : number_at 4 2 m ≡ 0x0300_0000 + t = number_behind 4 (0x0300_0000 + t) (bytes 2 0xff51) rest 2 (length-bytes 2 0xff51) ∙ omega arith in
    let e : length (vlq d ++ m) ≡ length (vlq d) + (6 + length rest) = simp (length-append, length-bytes) (omega arith) in
    let p : 0 < length (vlq d) = width_pos d in
    record {
      end = rw (laid, e, ne_eqb (length (vlq d) + (6 + length rest)) 4 (omega arith));
      has = rw (laid, y, n₂, n₄, b.size, lt-ltb 0 (length (vlq d)) p, lt-ltb 0x0300_0000 (0x0300_0000 + t) (omega arith), lt-ltb (0x0300_0000 + t) 0x0400_0000 (omega arith));
      delta = rw laid b.number;
      tempo = rw (laid, y, n₄) (omega arith);
      after = rw (laid, y) (ap (drop 6) (sym (append_assoc (bytes 2 0xff51) (bytes 4 (0x0300_0000 + t)) rest)) ∙ drop_at (bytes 2 0xff51 ++ bytes 4 (0x0300_0000 + t)) rest 6 (simp (length-append, length-bytes)));
    }

-- a number that is not below another, and not above a third
not_negative : (a : ℕ) (z : ℤ) → le_z (pos a) z ≡ true → z ≡ pos (nat_abs z)
not_negative a (pos n) e = refl
not_negative a (negsuc n) e = absurd (true≢false (sym e))

at_least : (a : ℕ) (z : ℤ) → le_z (pos a) z ≡ true → a ≤ nat_abs z
at_least a (pos n) e = leb-true a n e
at_least a (negsuc n) e = absurd (true≢false (sym e))

at_most : (a b : ℕ) (z : ℤ) → le_z (pos a) z ≡ true → le_z z (pos b) ≡ true → nat_abs z ≤ b
at_most a b (pos n) e f = leb-true n b f
at_most a b (negsuc n) e f = absurd (true≢false (sym e))

pub tempo_bounds : (p : TempoChange) → good_tempo p ≡ true → (0 < tempo_of p) × (tempo_of p < 2 ^ 24)
unfolding good_tempo
tempo_bounds p e =
    let t : ℤ = p.tempo.0 in
    let f = both (le_z (pos 1) t) (le_z t (pos 16_777_215)) e in
    (at_least 1 t f.0, omega (arith, at_most 1 16_777_215 t f.0 f.1))

pub origin_bounds : (before : ℕ) (p : TempoChange) → good_origin before p ≡ true → (before ≤ micros p) × (micros p ≤ before + 268_435_455_000) × (micros p % 1000 ≡ 0)
unfolding good_origin
origin_bounds before p e =
    let o : ℤ = p.beat_origin.0 in
    let f = both (le_z (pos before) o) _ e in
    let g = both (le_z o (pos (before + 268_435_455_000))) _ f.1 in
    (at_least before o f.0, at_most before (before + 268_435_455_000) o f.0 g.0, eqb-true _ _ g.1)

pub delta_small : (before : ℕ) (p : TempoChange) → good_origin before p ≡ true → (micros p - before) / 1000 < 268435456
delta_small before p e = omega (arith, (origin_bounds before p e).1)

-- and what such a pair is
pair_is : (before : ℕ) (p : TempoChange) → good_tempo p ≡ true → good_origin before p ≡ true → p ≡ record { tempo = record { 0 = pos (tempo_of p) }; beat_origin = record { 0 = pos (micros p) } }
unfolding good_tempo good_origin
pair_is before p e f =
    ap₂ (λ (x y : ℤ). record { tempo = record { 0 = x }; beat_origin = record { 0 = y } })
    (not_negative 1 p.tempo.0 (both (le_z (pos 1) p.tempo.0) _ e).0)
    (not_negative before p.beat_origin.0 (both (le_z (pos before) p.beat_origin.0) _ f).0)

-- on a tick
ticked : (k m : ℕ) → 1000 * k ≤ m → m % 1000 ≡ 0 → m ≡ 1000 * (k + (m - 1000 * k) / 1000)
ticked k m h e = omega arith

end_back : is_end end_of_track ≡ true
unfolding is_end end_of_track bytes number_at number
end_back = refl

joined : (p : TempoChange) (t k : ℕ) (ps : List TempoChange) → p ≡ record { tempo = record { 0 = pos t }; beat_origin = record { 0 = pos (1000 * k) } } → and_first (change t k) (Some ps) ≡ Some (p ∷ ps)
unfolding and_first change
joined p t k ps e = ap (λ (q : TempoChange). Some (q ∷ ps)) (sym e)

pub complete : (n k : ℕ) (ps : List TempoChange) → length ps ≤ n → good_tempos ps ≡ true → good_origins (1000 * k) ps ≡ true → read_events n k (events (1000 * k) ps ++ end_of_track) ≡ Some ps
unfolding good_tempos good_origins events
complete n k [] h e f = at_end n k end_of_track end_back
complete zero k (p ∷ ps) h e f = absurd (omega arith)
complete (suc n) k (p ∷ ps) h e f =
    let e₀ = both (good_tempo p) (good_tempos ps) e in
    let f₀ = both (good_origin (1000 * k) p) (good_origins (micros p) ps) f in
    let t = tempo_bounds p e₀.0 in
    let o = origin_bounds (1000 * k) p f₀.0 in
    let d : ℕ = (micros p - 1000 * k) / 1000 in
    let m : micros p ≡ 1000 * (k + d) = ticked k (micros p) o.0 o.2 in
    let rest : List ℕ = events (1000 * (k + d)) ps ++ end_of_track in
    let b : d < 2 ^ 28 = omega (arith, o.1) in
    let x : EventBack d (tempo_of p) rest = event_back d (tempo_of p) rest b t.0 t.1 in
    let laid : (event d (tempo_of p) ++ events (micros p) ps) ++ end_of_track ≡ event d (tempo_of p) ++ rest =
    append_assoc (event d (tempo_of p)) (events (micros p) ps) end_of_track ∙ ap (λ (j : ℕ). event d (tempo_of p) ++ (events j ps ++ end_of_track)) m in
    let r : read_events n (k + d) rest ≡ Some ps = complete n (k + d) ps (omega arith) e₀.1 (ap (λ (j : ℕ). good_origins j ps) (sym m) ∙ f₀.1) in
    ap (read_events (suc n) k) laid
    ∙ at_event n k (event d (tempo_of p) ++ rest) x.end x.has
    ∙ rw (x.delta, x.tempo, x.after, r) (joined p (tempo_of p) (k + d) ps (pair_is (1000 * k) p e₀.0 f₀.0 ∙ ap (λ (j : ℕ). record { tempo = record { 0 = pos (tempo_of p) }; beat_origin = record { 0 = pos j } }) m))
