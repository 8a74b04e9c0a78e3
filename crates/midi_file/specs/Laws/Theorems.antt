-- A file is read to a list exactly where it is that list's file.
-- What rests on `accepted` stands in proofs/Laws/Theorems.
use Rattle.std.specs.Prelude.{ℕ, ◌+◌, ◌-◌, ◌*◌, ◌/◌, ◌<◌, ◌≤◌, true, false, ◌≡◌, List, [], ◌∷◌, ◌++◌, ltb, eqb, length, drop, None, Some}
use Rattle.std.proofs.Common.{arith, sym, ap, ◌∙◌, ltb-true, eqb-true, length-append, length-drop}
use Rattle.signed.specs.Laws.Tests.{both}
use Rattle.big_endian.specs.Bytes.{bytes, number_at}
use Rattle.big_endian.specs.Laws.Numbers.{length-bytes}
use Rattle.midi_file.specs.declared.TempoChange.{TempoChange}
use Rattle.midi_file.specs.Layout.{event, micros, tempo_of, events, end_of_track, track, head, file}
use Rattle.midi_file.specs.Refusal.{refusal}
use Rattle.midi_file.specs.Reading.{has_header, has_track_head, has_head, read_events, read_file}
use Rattle.midi_file.specs.Laws.Numbers.{Bytes, drop-bytes, field, by_test}
use Rattle.midi_file.specs.Laws.Refusals.{not_refused}
use Rattle.midi_file.specs.Laws.Fields.{head_fields}
use Rattle.midi_file.specs.Laws.Quantities.{width_most}
use Rattle.midi_file.specs.Laws.Events.{Reads, sound, length-event}

-- ---- sizes

pub length-events : (before : ℕ) (ps : List TempoChange) → length (events before ps) ≤ 10 * length ps
unfolding events
length-events before [] = omega arith
length-events before (p ∷ ps) =
    let d : ℕ = (micros p - before) / 1000 in
    omega (arith, length-append (event d (tempo_of p)) (events (micros p) ps), length-event d (tempo_of p), width_most d, length-events (micros p) ps)

pub length-track : (ps : List TempoChange) → length (track ps) ≡ length (events 0 ps) + 4
unfolding track end_of_track
length-track ps = length-append (events 0 ps) end_of_track

pub length-file : (ps : List TempoChange) → length (file ps) ≡ 22 + length (track ps)
unfolding file head
length-file ps = simp (length-append, length-bytes) (omega arith)

pub most_track : (ps : List TempoChange) → length ps ≤ 64 → length (track ps) ≤ 644
most_track ps h = omega (arith, length-track ps, length-events 0 ps)

-- ---- from bytes to pairs

-- the numbers of a head
record Head (bs : List ℕ) : Type 0 where
  pub type : number_at 4 0 bs ≡ 0x4d54_6864
  pub size : number_at 4 4 bs ≡ 6
  pub format : number_at 4 8 bs ≡ 0x0000_0001
  pub division : number_at 2 12 bs ≡ 1000
  pub track_type : number_at 4 14 bs ≡ 0x4d54_726b
  pub some : 0 < number_at 4 18 bs
  pub whole : number_at 4 18 bs + 22 ≡ length bs

head_parts : (bs : List ℕ) → has_head bs ≡ true → Head bs
unfolding has_head has_header has_track_head
head_parts bs e =
    let f = both (has_header bs) (has_track_head bs) e in
    let e₀ = both (eqb (number_at 4 0 bs) 0x4d54_6864) _ f.0 in
    let e₁ = both (eqb (number_at 4 4 bs) 6) _ e₀.1 in
    let e₂ = both (eqb (number_at 4 8 bs) 1) _ e₁.1 in
    let e₄ = both (eqb (number_at 4 14 bs) 0x4d54_726b) _ f.1 in
    let e₅ = both (ltb 0 (number_at 4 18 bs)) _ e₄.1 in
    record { type = eqb-true _ _ e₀.0; size = eqb-true _ _ e₁.0; format = eqb-true _ _ e₂.0; division = eqb-true _ _ e₂.1; track_type = eqb-true _ _ e₄.0; some = ltb-true _ _ e₅.0; whole = eqb-true _ _ e₅.1 }

head_read : {bs : List ℕ} → Bytes bs → has_head bs ≡ true → bs ≡ head (length (drop 22 bs)) ++ drop 22 bs
unfolding bytes
head_read {bs} b e =
    let h : Head bs = head_parts bs e in
    let k : number_at 4 18 bs ≡ length (drop 22 bs) = simp length-drop (omega (arith, h.whole)) in
    field 4 0 0x4d54_6864 b h.type (omega arith)
    ∙ ap (λ (x : List ℕ). bytes 4 0x4d54_6864 ++ x) (field 4 4 6 b h.size (omega arith)
    ∙ ap (λ (x : List ℕ). bytes 4 6 ++ x) (field 4 8 1 b h.format (omega arith)
    ∙ ap (λ (x : List ℕ). bytes 4 1 ++ x) (field 2 12 1000 b h.division (omega arith)
    ∙ ap (λ (x : List ℕ). bytes 2 1000 ++ x) (field 4 14 0x4d54_726b b h.track_type (omega arith)
    ∙ ap (λ (x : List ℕ). bytes 4 0x4d54_726b ++ x) (field 4 18 (length (drop 22 bs)) b k (omega (arith, h.some)))))))
    ∙ ap (λ (x : List ℕ). x ++ drop 22 bs) (sym (head_fields (length (drop 22 bs))))

-- what is headed has a head's length
pub head_long : (bs : List ℕ) → has_head bs ≡ true → 22 ≤ length bs
head_long bs e = omega (arith, (head_parts bs e).whole)

pub headed : (bs : List ℕ) → has_head bs ≡ true → read_file bs ≡ read_events 64 0 (drop 22 bs)
unfolding read_file
headed bs e = rw e

pub unheaded : (bs : List ℕ) → has_head bs ≡ false → read_file bs ≡ None
unfolding read_file
unheaded bs e = rw e

pub read_sound : {bs : List ℕ} → Bytes bs → (ps : List TempoChange) → read_file bs ≡ Some ps → (refusal ps ≡ 0) × (bs ≡ file ps)
unfolding file track
read_sound {bs} b ps e =
    by_test (has_head bs)
    (λ t. let r : Reads 64 0 (drop 22 bs) ps = sound 64 0 (drop-bytes 22 b) ps (sym (headed bs t) ∙ e) in (
      not_refused ps (record { few = r.few; tempos = r.tempos; origins = r.origins }),
      head_read b t
          ∙ ap (λ (x : List ℕ). head (length x) ++ x) r.same,
    ))
    (λ t. let f : None ≡ Some ps = sym (unheaded bs t) ∙ e in let z : ◌≡◌ {A = ℕ} 0 1 = cc in absurd (omega arith))

-- what is read writes to the same bytes
pub read_writes_back : {bs : List ℕ} → Bytes bs → (ps : List TempoChange) → read_file bs ≡ Some ps → file ps ≡ bs
read_writes_back b ps e = sym (read_sound b ps e).1
