-- First in, first out: a packet that is sent goes behind those under way, and the first leaves the others in their order.
use Rattle.std.specs.Prelude.{ℕ, zero, suc, ◌+◌, ◌-◌, ◌*◌, ◌%◌, ◌<◌, ◌≤◌, Bool, true, false, ◌&&◌, cond, List, [], ◌∷◌, ◌++◌, ◌⊎◌, ◌≡◌, refl, eqb, leb, ltb, length}
use Rattle.std.proofs.Common.{arith, inl, inr, sym, ap, ap₂, ◌∙◌, ltb-true, ltb-false, leb-true, ne_eqb}
use Rattle.signed.specs.Laws.Tests.{both}
use Rattle.big_endian.specs.Bytes.{put}
use Rattle.room_network.specs.declared.Network.{Network}
use Rattle.room_network.specs.Queue.{Packet, slot_place, slot_bytes, packet_at, packets_from, under_way, takes, after_send, queue_after_send, without_first}
use Rattle.room_network.specs.Laws.Slots.{Fitting, slot_length, slot_reads, slot_kept}

-- what a network that takes a packet has
pub takes_all : (w : Network) (room size : ℕ) → takes w room size ≡ true → (w.count < 1024) × (557056 ≤ room) × (size ≤ 512)
takes_all w room size t =
    let a = both (ltb w.count 1024) (leb 557056 room && leb size 512) t in
    let b = both (leb 557056 room) (leb size 512) a.1 in
    (ltb-true w.count 1024 a.0, leb-true 557056 room b.0, leb-true size 512 b.1)

-- two slots that differ do not overlap
apart : (m n : ℕ) → (m ≡ n → ⊥) → (m * 544 + 544 ≤ n * 544) ⊎ (n * 544 + 544 ≤ m * 544)
apart m n f = go (ltb m n) refl
  where
    below : n ≤ m → (m ≡ n → ⊥) → n < m
    below h g = go' (ltb n m) refl
      where
        go' : (t : Bool) → ltb n m ≡ t → n < m
        go' true t = ltb-true n m t
        go' false t = let l : m ≤ n = ltb-false n m t in absurd (g (omega arith))

    go : (t : Bool) → ltb m n ≡ t → (m * 544 + 544 ≤ n * 544) ⊎ (n * 544 + 544 ≤ m * 544)
    go true t = inl (let h : m < n = ltb-true m n t in omega arith)
    go false t = inr (let h : n ≤ m = ltb-false m n t in let k : n < m = below h f in omega arith)

-- the slots before one that is written, within one turn of the ring, say what they said
kept_before : (n number last : ℕ) (bs queue : List ℕ) → length bs ≤ 544 → number + n ≤ last → last < number + 1024
    → packets_from n number (put (slot_place last) bs queue) ≡ packets_from n number queue
unfolding packets_from
kept_before zero number last bs queue s h k = refl
kept_before (suc n) number last bs queue s h k =
    ap₂ ◌∷◌
    (slot_kept (slot_place last) (slot_place number) bs queue s (apart (number % 1024) (last % 1024) (λ e. omega (arith, e))))
    (kept_before n (number + 1) last bs queue s (omega arith) (omega arith))

-- the packet of one slot more stands last
one_more : (n number : ℕ) (queue : List ℕ) → packets_from (n + 1) number queue ≡ packets_from n number queue ++ (packet_at (slot_place (number + n)) queue ∷ [])
unfolding packets_from
one_more zero number queue = let e : number ≡ number + 0 = omega arith in ap (λ (k : ℕ). packet_at (slot_place k) queue ∷ []) e
one_more (suc n) number queue =
    let c : suc n + 1 ≡ suc (n + 1) = omega arith in
    let l : number + 1 + n ≡ number + suc n = omega arith in
    ap (λ (k : ℕ). packets_from k number queue) c
    ∙ ap (λ (ps : List Packet). packet_at (slot_place number) queue ∷ ps)
    (one_more n (number + 1) queue ∙ ap (λ (k : ℕ). packets_from n (number + 1) queue ++ (packet_at (slot_place k) queue ∷ [])) l)

-- a slot's number counts modulo 1,024
alike : (n a b : ℕ) (queue : List ℕ) → a % 1024 ≡ b % 1024 → packets_from n a queue ≡ packets_from n b queue
unfolding packets_from
alike zero a b queue e = refl
alike (suc n) a b queue e = ap₂ ◌∷◌ (ap (λ (k : ℕ). packet_at (k * 544) queue) e) (alike n (a + 1) (b + 1) queue (omega (arith, e)))

-- ---- what is sent last arrives last

-- a packet that the network takes is under way behind all others
pub sent_last : (w : Network) (p : Packet) (queue : List ℕ) → Fitting p → takes w (length queue) (length p.bytes) ≡ true
    → under_way (after_send w (length queue) (length p.bytes)) (queue_after_send w p queue) ≡ under_way w queue ++ (p ∷ [])
sent_last w p queue fits t =
    let place : ℕ = slot_place (w.first + w.count) in
    let (few, whole, short) = takes_all w (length queue) (length p.bytes) t in
    let size : length (slot_bytes p) ≡ 28 + length p.bytes = slot_length p in
    ap₂ under_way (ap (λ (b : Bool). cond b (record { first = w.first; count = w.count + 1 }) w) t) (ap (λ (b : Bool). cond b (put place (slot_bytes p) queue) queue) t)
    ∙ one_more w.count w.first (put place (slot_bytes p) queue)
    ∙ ap₂ (λ (ps : List Packet) (x : Packet). ps ++ (x ∷ []))
    (kept_before w.count w.first (w.first + w.count) (slot_bytes p) queue (omega (arith, size, short)) (omega arith) (omega (arith, few)))
    (slot_reads place p queue fits (omega (arith, whole, short)))

-- ---- what was sent first arrives first

-- the first of those under way is the one in the first slot, and the others stay in their order
pub first_leaves : (w : Network) (n : ℕ) (queue : List ℕ) → w.count ≡ suc n → under_way w queue ≡ packet_at (slot_place w.first) queue ∷ under_way (without_first w) queue
unfolding packets_from without_first
first_leaves w n queue e =
    let head : Packet = packet_at (slot_place w.first) queue in
    let next : ℕ = (w.first % 1024 + 1) % 1024 in
    let some : eqb w.count 0 ≡ false = ne_eqb w.count 0 (omega (arith, e)) in
    let one_less : w.count - 1 ≡ n = omega (arith, e) in
    let after : without_first w ≡ record { first = next; count = n } =
    ap (λ (b : Bool). cond b w (record { first = next; count = w.count - 1 })) some ∙ ap (λ (k : ℕ). record { first = next; count = k }) one_less in
    ap (λ (c : ℕ). packets_from c w.first queue) e
    ∙ ap (λ (ps : List Packet). head ∷ ps) (alike n (w.first + 1) next queue (omega arith))
    ∙ sym (ap (λ (v : Network). head ∷ under_way v queue) after)
