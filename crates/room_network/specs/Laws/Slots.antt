-- What a slot says after one was written: its own packet, and every other slot what it said.
use Rattle.std.specs.Prelude.{ℕ, ◌+◌, ◌^◌, ◌<◌, ◌≤◌, Bool, true, false, ◌&&◌, cond, List, [], ◌++◌, ◌⊎◌, ◌≡◌, refl, leb, length, take, drop}
use Rattle.std.proofs.Common.{mod-eq_of_lt, ⊎_elim, sym, ap, ap₂, ◌∙◌, le-leb, leb-true, length-append}
use native.Mathlib.Omega.{arith}
use Rattle.big_endian.specs.Bytes.{bytes, put, number_at}
use Rattle.big_endian.specs.Laws.Numbers.{length-bytes}
use Rattle.big_endian.specs.Laws.Puts.{length-put, put_put, part_put, part_put_before, drop-put_past, number_at_put, number_at_put_before, number_at_put_past}
use Rattle.room_network.specs.Queue.{Packet, slot_bytes, packet_bytes, packet_at}

-- ---- the slot itself

-- a number in front of what is put, and what is behind it
behind : (w at next n : ℕ) (rest l : List ℕ) → next ≡ at + w → at + (w + length rest) ≤ length l → put at (bytes w n ++ rest) l ≡ put next rest (put at (bytes w n) l)
behind w at next n rest l k h =
    let e : length (bytes w n) ≡ w = length-bytes w n in
    sym (put_put at (bytes w n) rest l (rw (length-append (bytes w n) rest) (omega (arith, e))))
    ∙ ap (λ (m : ℕ). put m rest (put at (bytes w n) l)) (ap (λ (m : ℕ). at + m) e ∙ sym k)

in_front : (w at n : ℕ) (rest l : List ℕ) → at + (w + length rest) ≤ length l → n < 256 ^ w → number_at w at (put at (bytes w n ++ rest) l) ≡ n
in_front w at n rest l h f =
    ap (number_at w at) (behind w at (at + w) n rest l refl h)
    ∙ number_at_put_before w at (at + w) rest (put at (bytes w n) l) (omega arith)
    ∙ number_at_put w at n l (omega arith)
    ∙ mod-eq_of_lt f

-- the numbers of a packet fit the bytes that they are written in
pub record Fitting (p : Packet) : Type 0 where
  pub arrival : p.arrival < 2 ^ 64
  pub sender : p.head.sender < 2 ^ 64
  pub interface : p.head.interface < 2 ^ 32
  pub ip : p.head.ip < 2 ^ 32
  pub port : p.head.port < 2 ^ 16
  pub short : length p.bytes ≤ 512

-- a slot is 28 bytes and the packet
pub slot_length : (p : Packet) → length (slot_bytes p) ≡ 28 + length p.bytes
unfolding slot_bytes bytes
slot_length p = omega arith

module _ (place : ℕ) (p : Packet) (queue : List ℕ) (fits : Fitting p) (room : place + 28 + length p.bytes ≤ length queue) where
  abbrev size : ℕ
  size = length p.bytes

  -- what is left to write behind each number, and the queue up to there
  abbrev rest₅ : List ℕ
  rest₅ = bytes 2 size ++ p.bytes

  abbrev rest₄ : List ℕ
  rest₄ = bytes 2 p.head.port ++ rest₅

  abbrev rest₃ : List ℕ
  rest₃ = bytes 4 p.head.ip ++ rest₄

  abbrev rest₂ : List ℕ
  rest₂ = bytes 4 p.head.interface ++ rest₃

  abbrev rest₁ : List ℕ
  rest₁ = bytes 8 p.head.sender ++ rest₂

  abbrev q₁ : List ℕ
  q₁ = put place (bytes 8 p.arrival) queue

  abbrev q₂ : List ℕ
  q₂ = put (place + 8) (bytes 8 p.head.sender) q₁

  abbrev q₃ : List ℕ
  q₃ = put (place + 16) (bytes 4 p.head.interface) q₂

  abbrev q₄ : List ℕ
  q₄ = put (place + 20) (bytes 4 p.head.ip) q₃

  abbrev q₅ : List ℕ
  q₅ = put (place + 24) (bytes 2 p.head.port) q₄

  abbrev q₆ : List ℕ
  q₆ = put (place + 26) (bytes 2 size) q₅

  -- the lengths of what is left
  left₅ : length rest₅ ≡ 2 + size
  unfolding bytes
  left₅ = omega arith

  left₄ : length rest₄ ≡ 4 + size
  unfolding bytes
  left₄ = omega arith

  left₃ : length rest₃ ≡ 8 + size
  unfolding bytes
  left₃ = omega arith

  left₂ : length rest₂ ≡ 12 + size
  unfolding bytes
  left₂ = omega arith

  left₁ : length rest₁ ≡ 20 + size
  unfolding bytes
  left₁ = omega arith

  -- every one of these queues is as long
  long₁ : length q₁ ≡ length queue
  long₁ = length-put _ _ _

  long₂ : length q₂ ≡ length queue
  long₂ = length-put _ _ _ ∙ long₁

  long₃ : length q₃ ≡ length queue
  long₃ = length-put _ _ _ ∙ long₂

  long₄ : length q₄ ≡ length queue
  long₄ = length-put _ _ _ ∙ long₃

  long₅ : length q₅ ≡ length queue
  long₅ = length-put _ _ _ ∙ long₄

  long₆ : length q₆ ≡ length queue
  long₆ = length-put _ _ _ ∙ long₅

  -- the slot's bytes, put number by number
  abbrev written : List ℕ
  written = put place (slot_bytes p) queue

  by₁ : written ≡ put (place + 8) rest₁ q₁
  unfolding slot_bytes
  by₁ = behind 8 place (place + 8) p.arrival rest₁ queue (omega arith) (omega (arith, left₁))

  by₂ : written ≡ put (place + 16) rest₂ q₂
  by₂ = by₁ ∙ behind 8 (place + 8) (place + 16) p.head.sender rest₂ q₁ (omega arith) (omega (arith, left₂, long₁))

  by₃ : written ≡ put (place + 20) rest₃ q₃
  by₃ = by₂ ∙ behind 4 (place + 16) (place + 20) p.head.interface rest₃ q₂ (omega arith) (omega (arith, left₃, long₂))

  by₄ : written ≡ put (place + 24) rest₄ q₄
  by₄ = by₃ ∙ behind 4 (place + 20) (place + 24) p.head.ip rest₄ q₃ (omega arith) (omega (arith, left₄, long₃))

  by₅ : written ≡ put (place + 26) rest₅ q₅
  by₅ = by₄ ∙ behind 2 (place + 24) (place + 26) p.head.port rest₅ q₄ (omega arith) (omega (arith, left₅, long₄))

  by₆ : written ≡ put (place + 28) p.bytes q₆
  by₆ = by₅ ∙ behind 2 (place + 26) (place + 28) size p.bytes q₅ (omega arith) (omega (arith, long₅))

  -- and so read back
  size_read : number_at 2 (place + 26) written ≡ size
  size_read = ap (number_at 2 (place + 26)) by₅ ∙ in_front 2 (place + 26) size p.bytes q₅ (omega (arith, long₅)) (omega (arith, fits.short))

  bytes_read : packet_bytes place size written ≡ p.bytes
  bytes_read =
      let n : length written ≡ length queue = length-put _ _ _ in
      let a : leb size 512 ≡ true = le-leb size 512 fits.short in
      let b : leb (place + 28 + size) (length written) ≡ true = le-leb (place + 28 + size) (length written) (omega arith) in
      ap₂ (λ (s t : Bool). cond (s && t) (take size (drop (place + 28) written)) []) a b
      ∙ ap (λ (l : List ℕ). take size (drop (place + 28) l)) by₆
      ∙ part_put (place + 28) p.bytes q₆ (omega (arith, long₆))

  pub slot_reads : packet_at place written ≡ p
  unfolding packet_at slot_bytes
  slot_reads = λ i. record {
    arrival = in_front 8 place p.arrival rest₁ queue (omega (arith, left₁)) fits.arrival i;
    head = record {
      sender = (ap (number_at 8 (place + 8)) by₁ ∙ in_front 8 (place + 8) p.head.sender rest₂ q₁ (omega (arith, left₂, long₁)) fits.sender) i;
      interface = (ap (number_at 4 (place + 16)) by₂ ∙ in_front 4 (place + 16) p.head.interface rest₃ q₂ (omega (arith, left₃, long₂)) fits.interface) i;
      ip = (ap (number_at 4 (place + 20)) by₃ ∙ in_front 4 (place + 20) p.head.ip rest₄ q₃ (omega (arith, left₄, long₃)) fits.ip) i;
      port = (ap (number_at 2 (place + 24)) by₄ ∙ in_front 2 (place + 24) p.head.port rest₅ q₄ (omega (arith, left₅, long₄)) fits.port) i;
    };
    bytes = (ap (λ (n : ℕ). packet_bytes place n written) size_read ∙ bytes_read) i;
  }

-- ---- every other slot

module _ (place other : ℕ) (bs queue : List ℕ) (short : length bs ≤ 544) (apart : (other + 544 ≤ place) ⊎ (place + 544 ≤ other)) where
  -- a number that lies within the other slot
  number_kept : (w at : ℕ) → other ≤ at → at + w ≤ other + 544 → number_at w at (put place bs queue) ≡ number_at w at queue
  number_kept w at g h = ⊎_elim
      (λ a. number_at_put_before w at place bs queue (omega (arith, a)))
      (λ a. number_at_put_past w at place bs queue (omega (arith, a, short)))
      apart

  bytes_kept : (size : ℕ) → packet_bytes other size (put place bs queue) ≡ packet_bytes other size queue
  bytes_kept size = go (leb size 512) refl
    where
      go : (t : Bool) → leb size 512 ≡ t → packet_bytes other size (put place bs queue) ≡ packet_bytes other size queue
      go true t =
          let h : size ≤ 512 = leb-true size 512 t in
          let same : take size (drop (other + 28) (put place bs queue)) ≡ take size (drop (other + 28) queue) = ⊎_elim
          (λ a. part_put_before size (other + 28) place bs queue (omega (arith, a)))
          (λ a. ap (take size) (drop-put_past (other + 28) place bs queue (omega (arith, a, short))))
          apart in
          ap₂ (λ (n : ℕ) (l : List ℕ). cond (leb size 512 && leb (other + 28 + size) n) l []) (length-put place bs queue) same
      go false t = ap (λ (b : Bool). cond (b && leb (other + 28 + size) (length (put place bs queue))) (take size (drop (other + 28) (put place bs queue))) []) t
          ∙ sym (ap (λ (b : Bool). cond (b && leb (other + 28 + size) (length queue)) (take size (drop (other + 28) queue)) []) t)

  pub slot_kept : packet_at other (put place bs queue) ≡ packet_at other queue
  unfolding packet_at
  slot_kept = λ i. record {
    arrival = number_kept 8 other (omega arith) (omega arith) i;
    head = record {
      sender = number_kept 8 (other + 8) (omega arith) (omega arith) i;
      interface = number_kept 4 (other + 16) (omega arith) (omega arith) i;
      ip = number_kept 4 (other + 20) (omega arith) (omega arith) i;
      port = number_kept 2 (other + 24) (omega arith) (omega arith) i;
    };
    bytes = (ap (λ (n : ℕ). packet_bytes other n (put place bs queue)) (number_kept 2 (other + 26) (omega arith) (omega arith)) ∙ bytes_kept (number_at 2 (other + 26) queue)) i;
  }
