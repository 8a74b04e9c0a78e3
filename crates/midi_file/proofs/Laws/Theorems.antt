-- A file is read to a list exactly where it is that list's file.
use Rattle.std.specs.Prelude.{ℕ, ◌+◌, ◌≤◌, true, ◌≡◌, refl, ◌↔◌, List, [], ◌++◌, length, drop, Option, None, Some}
use Rattle.std.proofs.Common.{arith, sym, ap, ◌∙◌, lt-ltb, eq-eqb}
use Rattle.big_endian.specs.Bytes.{bytes, number_at}
use Rattle.midi_file.specs.declared.TempoChange.{TempoChange}
use Rattle.midi_file.specs.Layout.{track, head, file}
use Rattle.midi_file.specs.Refusal.{refusal}
use Rattle.midi_file.specs.Reading.{has_header, has_track_head, has_head, read_events, read_file}
use Rattle.midi_file.specs.Laws.Numbers.{Bytes, number_behind}
use Rattle.midi_file.specs.Laws.Refusals.{Accepted, accepted}
use Rattle.midi_file.specs.Laws.Events.{complete}
use Rattle.midi_file.specs.Laws.Theorems.{length-track, length-file, most_track, headed, read_sound}

-- ---- from pairs to bytes

file_headed : (ps : List TempoChange) → length ps ≤ 64 → has_head (file ps) ≡ true
unfolding file head has_head has_header has_track_head bytes
file_headed ps h =
    let n : ℕ = length (track ps) in
    let m : n ≤ 644 = most_track ps h in
    let p : 4 ≤ n = omega (arith, length-track ps) in
    let f₀ : List ℕ = bytes 4 0x4d54_6864 in
    let f₁ : List ℕ = f₀ ++ bytes 4 6 in
    let f₂ : List ℕ = f₁ ++ bytes 4 1 in
    let f₃ : List ℕ = f₂ ++ bytes 2 1000 in
    let f₄ : List ℕ = f₃ ++ bytes 4 0x4d54_726b in
    let e₀ : number_at 4 0 (file ps) ≡ 0x4d54_6864 = number_behind 4 0x4d54_6864 [] _ 0 refl in
    let e₁ : number_at 4 4 (file ps) ≡ 6 = number_behind 4 6 f₀ _ 4 refl in
    let e₂ : number_at 4 8 (file ps) ≡ 1 = number_behind 4 1 f₁ _ 8 refl in
    let e₃ : number_at 2 12 (file ps) ≡ 1000 = number_behind 2 1000 f₂ _ 12 refl in
    let e₄ : number_at 4 14 (file ps) ≡ 0x4d54_726b = number_behind 4 0x4d54_726b f₃ _ 14 refl in
    let e₅ : number_at 4 18 (file ps) ≡ n = number_behind 4 n f₄ (track ps) 18 refl ∙ omega arith in
    rw (e₀, e₁, e₂, e₃, e₄, e₅, lt-ltb 0 n (omega arith)) (eq-eqb (n + 22) (length (file ps)) (omega (arith, length-file ps)))

file_track : (ps : List TempoChange) → drop 22 (file ps) ≡ track ps
unfolding file head bytes
file_track ps = refl

in_track : (ps : List TempoChange) → Accepted ps → read_events 64 0 (track ps) ≡ Some ps
unfolding track
in_track ps a = complete 64 0 ps a.few a.tempos a.origins

-- what is written reads back to the same pairs
pub written_reads_back : (ps : List TempoChange) → refusal ps ≡ 0 → read_file (file ps) ≡ Some ps
written_reads_back ps e =
    let a : Accepted ps = accepted ps e in
    headed (file ps) (file_headed ps a.few) ∙ ap (read_events 64 0) (file_track ps) ∙ in_track ps a

-- ---- the theorem, and what follows from it

-- bytes are read to a list exactly where the list is not refused and they are its file
pub reads_exactly_files : {bs : List ℕ} → Bytes bs → (ps : List TempoChange) → read_file bs ≡ Some ps ↔ (refusal ps ≡ 0) × (bs ≡ file ps)
reads_exactly_files b ps = (read_sound b ps, λ h. ap read_file h.1 ∙ written_reads_back ps h.0)

-- lists that are not refused differ in their files
pub file_injective : (ps qs : List TempoChange) → refusal ps ≡ 0 → refusal qs ≡ 0 → file ps ≡ file qs → ps ≡ qs
file_injective ps qs p q e =
    let f : Some ps ≡ Some qs = sym (written_reads_back ps p) ∙ ap read_file e ∙ written_reads_back qs q in
    cc f

-- none is read exactly where no list that is not refused has these bytes for its file
pub refuses_exactly_others : {bs : List ℕ} → Bytes bs → read_file bs ≡ None ↔ ((ps : List TempoChange) → refusal ps ≡ 0 → bs ≡ file ps → ⊥)
refuses_exactly_others {bs} b = (
  λ e ps r f. let g : None ≡ Some ps = sym e ∙ ap read_file f ∙ written_reads_back ps r in let z : ◌≡◌ {A = ℕ} 0 1 = cc g in omega arith,
  λ h. by_read (read_file bs) refl h,
)
  where
    by_read : (o : Option (List TempoChange)) → read_file bs ≡ o → ((ps : List TempoChange) → refusal ps ≡ 0 → bs ≡ file ps → ⊥) → read_file bs ≡ None
    by_read None e h = e
    by_read (Some ps) e h = let x = read_sound b ps e in absurd (h ps x.0 x.1)
