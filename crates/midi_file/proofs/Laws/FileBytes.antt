-- The file of a list that is not refused is made of bytes.
use Rattle.std.specs.Prelude.{ℕ, zero, suc, ◌+◌, ◌-◌, ◌/◌, ◌%◌, ◌^◌, ◌<◌, true, ◌≡◌, List, [], ◌∷◌, ◌++◌, length}
use Rattle.std.proofs.Common.{arith, lit<}
use Rattle.signed.specs.Laws.Tests.{both}
use Rattle.big_endian.specs.Bytes.{bytes}
use Rattle.midi_file.specs.declared.TempoChange.{TempoChange}
use Rattle.midi_file.specs.Layout.{vlq, event, micros, tempo_of, events, end_of_track, track, head, file}
use Rattle.midi_file.specs.Refusal.{good_origin, good_origins, refusal}
use Rattle.midi_file.specs.Laws.Numbers.{Bytes, no_bytes, byte}
use Rattle.midi_file.specs.Laws.Fields.{end_fields, head_fields}
use Rattle.midi_file.specs.Laws.Quantities.{vlq_1, vlq_2, vlq_3, vlq_4, by_width}
use Rattle.midi_file.specs.Laws.Events.{delta_small}
use Rattle.midi_file.specs.Laws.Refusals.{accepted}

join : {l m : List ℕ} → Bytes l → Bytes m → Bytes (l ++ m)
join no_bytes k = k
join (byte h r) k = byte h (join r k)

low_bytes : (w n : ℕ) → Bytes (bytes w n)
unfolding bytes
low_bytes zero n = no_bytes
low_bytes (suc w) n = byte (small (n / 256 ^ w)) (low_bytes w n)
  where
    small : (x : ℕ) → x % 256 < 256
    small x = omega arith

vlq_bytes : (n : ℕ) → n < 268435456 → Bytes (vlq n)
vlq_bytes n h =
    let d₀ : n % 128 < 256 = omega arith in
    let d₁ : 128 + n / 0x80 % 128 < 256 = omega arith in
    let d₂ : 128 + n / 0x4000 % 128 < 256 = omega arith in
    by_width n
    (λ a. let t : n < 256 = omega arith in rw (vlq_1 n a) (byte t no_bytes))
    (λ a b. let t : 128 + n / 0x80 < 256 = omega arith in rw (vlq_2 n a b) (byte t (byte d₀ no_bytes)))
    (λ a b. let t : 128 + n / 0x4000 < 256 = omega arith in rw (vlq_3 n a b) (byte t (byte d₁ (byte d₀ no_bytes))))
    (λ a. let t : 128 + n / 0x20_0000 < 256 = omega arith in rw (vlq_4 n a) (byte t (byte d₂ (byte d₁ (byte d₀ no_bytes)))))

events_bytes : (before : ℕ) (ps : List TempoChange) → good_origins before ps ≡ true → Bytes (events before ps)
unfolding events event good_origins
events_bytes before [] e = no_bytes
events_bytes before (p ∷ ps) e =
    let f = both (good_origin before p) (good_origins (micros p) ps) e in
    let d : Bytes (vlq ((micros p - before) / 1000)) = vlq_bytes ((micros p - before) / 1000) (delta_small before p f.0) in
    join (join d (byte (lit< tt) (byte (lit< tt) (byte (lit< tt) (low_bytes 3 (tempo_of p)))))) (events_bytes (micros p) ps f.1)

end_bytes : Bytes end_of_track
end_bytes = rw end_fields (low_bytes 4 0x00ff_2f00)

head_bytes : (n : ℕ) → Bytes (head n)
head_bytes n = rw (head_fields n) (join (low_bytes 4 0x4d54_6864) (join (low_bytes 4 6) (join (low_bytes 4 1) (join (low_bytes 2 1000) (join (low_bytes 4 0x4d54_726b) (low_bytes 4 n))))))

pub file_bytes : (ps : List TempoChange) → refusal ps ≡ 0 → Bytes (file ps)
unfolding file track
file_bytes ps e = join (head_bytes (length (track ps))) (join (events_bytes 0 ps (accepted ps e).origins) end_bytes)
