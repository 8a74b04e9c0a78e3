-- What is written reads back: an entry in front of anything, and packets made of any entries.
use Rattle.std.specs.Prelude.{◌≡◌, refl, Bool, true, false, ◌&&◌, cond, ℕ, ◌+◌, ◌-◌, ◌%◌, ◌^◌, ◌<◌, eqb, take, drop, Option, Some, None}
use Rattle.std.proofs.Common.{sym, ap, ◌∙◌, length-append, take_at, drop_at}
use Rattle.std.proofs.Math.Path.{ap₂}
use mathlib.Core.List.{List, [], ◌∷◌, ◌++◌, append_assoc, append-nil}
use native.Mathlib.Omega.{arith}
use borrow.Author.Tests.{le-leb, lt-leb}
use Rattle.std.proofs.Math.ListN.{length}
use Rattle.std.proofs.Math.Seq.{take-append_seam, drop-append_seam}
use Rattle.big_endian.specs.Bytes.{bytes, number, number_at}
use Rattle.big_endian.specs.Laws.Numbers.{length-bytes, number_bytes}
use Rattle.big_endian.specs.Laws.Puts.{number_at_within}
use Rattle.wire.specs.declared.DiscoveryMsg.TheVariants.{Alive}
use Rattle.wire.specs.declared.Message.TheVariants.{Discovery}
use Rattle.wire.specs.Layout.{entry, asdp_magic, discovery_kinds, keys, sizes}
use Rattle.wire.specs.Parse.{Entry, size_of, has_entry, first_entry, after_entry, scan, entries, last_good, timeline_of, start_stop_of, node_of, addr_of, alive_of, parse_discovery, parse}
use Rattle.wire.specs.Laws.Entries.{entries_end, entries_step}

-- a number that stands behind others
pub number_behind : (w n : ℕ) (front rest : List ℕ) (at : ℕ) → length front ≡ at → number_at w at (front ++ (bytes w n ++ rest)) ≡ n % 256 ^ w
number_behind w n front rest at e =
    number_at_within w at (front ++ (bytes w n ++ rest)) (simp (length-append, length-bytes) (omega arith))
    ∙ ap (λ (t : List ℕ). number (take w t)) (drop_at front (bytes w n ++ rest) at e)
    ∙ ap number (take_at (bytes w n) rest w (length-bytes w n))
    ∙ number_bytes w n

-- ---- an entry in front of anything

module _ (k : ℕ) (v rest : List ℕ) (hk : k < 2 ^ 32) (hv : length v < 2 ^ 32) where
  abbrev laid : List ℕ
  laid = bytes 4 k ++ (bytes 4 (length v) ++ (v ++ rest))

  laid_is : entry k v ++ rest ≡ laid
  unfolding entry
  laid_is = rw (append_assoc, append_assoc)

  key_is : number_at 4 0 laid ≡ k
  key_is = number_behind 4 k [] (bytes 4 (length v) ++ (v ++ rest)) 0 refl ∙ omega arith

  size_is : size_of laid ≡ length v
  unfolding size_of
  size_is = number_behind 4 (length v) (bytes 4 k) (v ++ rest) 4 (length-bytes 4 k) ∙ omega arith

  laid_length : length laid ≡ 8 + (length v + length rest)
  laid_length = simp (length-append, length-bytes) (omega arith)

  behind : drop 8 laid ≡ v ++ rest
  behind =
      ap (drop 8) (sym (append_assoc (bytes 4 k) (bytes 4 (length v)) (v ++ rest)))
      ∙ drop_at (bytes 4 k ++ bytes 4 (length v)) (v ++ rest) 8 (simp (length-append, length-bytes))

  has : has_entry laid ≡ true
  unfolding has_entry
  has = rw (size_is, laid_length, le-leb 8 (8 + (length v + length rest)) (omega arith), le-leb (length v) (8 + (length v + length rest) - 8) (omega arith))

  first : first_entry laid ≡ record { key = k; value = v }
  unfolding first_entry
  first = ap₂ (λ (n : ℕ) (w : List ℕ). record { key = n; value = w }) key_is (rw (size_is, behind) (take-append_seam v rest))

  after : after_entry laid ≡ rest
  unfolding after_entry
  after = rw (size_is, behind) (drop-append_seam v rest)

  pub entries_entry : entries (entry k v ++ rest) ≡ record { key = k; value = v } ∷ entries rest
  entries_entry = ap entries laid_is ∙ entries_step laid has ∙ ap₂ (λ (e : Entry) (bs : List ℕ). e ∷ entries bs) first after

-- ---- which entries count

-- an entry is good for a key and a size
abbrev pub good : ℕ → ℕ → Entry → Bool
good key size e = eqb e.key key && eqb (length e.value) size

-- of two good ones the last counts
pub last_of_two : last_good 1 1 None (record { key = 1; value = 7 ∷ [] } ∷ record { key = 1; value = 8 ∷ [] } ∷ []) ≡ Some (8 ∷ [])
unfolding last_good
last_of_two = refl

-- other keys and other sizes are skipped, wherever they stand
pub skipped : (key size : ℕ) (found : Option (List ℕ)) (es : List Entry) (e : Entry) (rest : List Entry) → good key size e ≡ false
    → last_good key size found (es ++ (e ∷ rest)) ≡ last_good key size found (es ++ rest)
unfolding last_good
skipped key size found [] e rest g = ap (λ (t : Bool). last_good key size (cond t (Some e.value) found) rest) g
skipped key size found (x ∷ es) e rest g = skipped key size (cond (good key size x) (Some x.value) found) es e rest g

-- the last good duplicate counts, whatever stands before it
pub last_counts : (key size : ℕ) (found : Option (List ℕ)) (es : List Entry) (e : Entry) → good key size e ≡ true → last_good key size found (es ++ (e ∷ [])) ≡ Some e.value
unfolding last_good
last_counts key size found [] e g = ap (λ (t : Bool). cond t (Some e.value) found) g
last_counts key size found (x ∷ es) e g = last_counts key size (cond (good key size x) (Some x.value) found) es e g

-- ---- packets of any entries, one after the other

pub encode : List Entry → List ℕ
encode [] = []
encode (e ∷ es) = entry e.key e.value ++ encode es

-- keys and sizes that four bytes hold
pub data Encodable : List Entry → Type 0 where
  end : Encodable []
  more : {e : Entry} {es : List Entry} → e.key < 2 ^ 32 → length e.value < 2 ^ 32 → Encodable es → Encodable (e ∷ es)

pub entries_encode : {es : List Entry} (rest : List ℕ) → Encodable es → entries (encode es ++ rest) ≡ es ++ entries rest
unfolding encode
entries_encode rest end = refl
entries_encode {es = e ∷ es} rest (more k v f) =
    ap entries (append_assoc (entry e.key e.value) (encode es) rest)
    ∙ entries_entry e.key e.value (encode es ++ rest) k v
    ∙ ap (λ (xs : List Entry). e ∷ xs) (entries_encode rest f)

-- bytes behind entries that end exactly where they begin, and that end the scan at once, change nothing
pub appended : {es : List Entry} (tail : List ℕ) → Encodable es → has_entry tail ≡ false → entries (encode es ++ tail) ≡ es
appended {es} tail f e = entries_encode tail f ∙ ap (λ (xs : List Entry). es ++ xs) (entries_end tail e) ∙ append-nil es

pub exact : {es : List Entry} → Encodable es → entries (encode es) ≡ es
unfolding entries scan
exact {es} f = ap entries (sym (append-nil (encode es))) ∙ entries_encode [] f ∙ append-nil es

-- what ends the scan at once: fewer than 8 bytes, or a size past the end
pub too_few : (tail : List ℕ) → length tail < 8 → has_entry tail ≡ false
unfolding has_entry
too_few tail h = rw (lt-leb 8 (length tail) h)

pub overrun : (k n : ℕ) (v : List ℕ) → n < 2 ^ 32 → length v < n → has_entry (bytes 4 k ++ (bytes 4 n ++ v)) ≡ false
unfolding has_entry size_of
overrun k n v h l =
    let t = bytes 4 k ++ (bytes 4 n ++ v) in
    let len : length t ≡ 8 + length v = simp (length-append, length-bytes) (omega arith) in
    let size : number_at 4 4 t ≡ n = number_behind 4 n (bytes 4 k) v 4 (length-bytes 4 k) ∙ omega arith in
    rw (size, len, le-leb 8 (8 + length v) (omega arith), lt-leb n (8 + length v - 8) (omega arith))

-- An alive of node 5 with session 7, whose last entry gives 24 bytes and has two: what stands before it is read.
pub cut_alive : parse (bytes 8 asdp_magic ++ (discovery_kinds.alive ∷ 0 ∷ 0 ∷ 0 ∷ bytes 8 5) ++ entry keys.sess (bytes 8 7) ++ bytes 4 keys.tmln ++ bytes 4 sizes.tmln ++ (0 ∷ 0 ∷ []))
    ≡ Some (Discovery (Alive (record { 0 = 5 }) None None (Some (record { 0 = 7 })) None))
unfolding parse parse_discovery bytes entry number_at number alive_of entries scan has_entry size_of first_entry after_entry last_good timeline_of start_stop_of node_of addr_of
cut_alive = refl
