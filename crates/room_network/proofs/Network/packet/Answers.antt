use Rattle.std.proofs.Common.{arith, ◌≡◌, ◌∙◌, ◌+◌, ◌-◌, ◌<◌, ◌≤◌, ℕ, List, [], Bool, true, false, cond, ◌&&◌, ◌⊎◌, inl, inr, refl, sym, ap, leb, length, take, drop, length-drop, length-take, le-leb}
use borrow.Author.Tests.{lt-leb}
use Rattle.big_endian.specs.Bytes.{put, number_at}
use Rattle.big_endian.specs.Laws.Puts.{put_empty}
use Rattle.room_network.specs.Queue.{slot_place, packet_bytes, packet_at}
use Rattle.room_network.proofs.Network.packet.Goals as goal

-- the bytes that a slot has, by its place and the size that was read
module _ (place size : ℕ) (queue : List ℕ) where
  too_long : 512 < size → packet_bytes place size queue ≡ []
  too_long h = rw (lt-leb size 512 h)

  past_the_end : length queue < place + 28 + size → packet_bytes place size queue ≡ []
  past_the_end h = go (leb size 512)
    where
      go : (b : Bool) → cond (b && leb (place + 28 + size) (length queue)) (take size (drop (place + 28) queue)) [] ≡ []
      go true = rw (lt-leb (place + 28 + size) (length queue) h)
      go false = refl

  none : (512 < size) ⊎ ((size ≤ 512) × (length queue < place + 28 + size)) → packet_bytes place size queue ≡ []
  none (inl h) = too_long h
  none (inr h) = past_the_end h.1

  whole : size ≤ 512 → place + 28 + size ≤ length queue → packet_bytes place size queue ≡ take size (drop (place + 28) queue)
  whole h k = rw (le-leb size 512 h, le-leb (place + 28 + size) (length queue) k)

bytes_read : (q : List ℕ) (first place size : ℕ) → place ≡ slot_place first → size ≡ number_at 2 (place + 26) q → (packet_at (slot_place first) q).bytes ≡ packet_bytes place size q
unfolding packet_at
bytes_read q first place size e f = ap (λ (k : ℕ). packet_bytes k (number_at 2 (k + 26) q) q) (sym e) ∙ ap (λ (n : ℕ). packet_bytes place n q) (sym f)

pub returns-then-size-gt-MOST_PACKET-clause-value : goal.returns-then-size-gt-MOST_PACKET-clause-value
returns-then-size-gt-MOST_PACKET-clause-value c =
    let q = c.args.queue.now in
    sym (ap length (bytes_read q c.args.self.first _ _ c.slot_at-slot.ensures c.read-size.ensures ∙ none _ _ q c.then-size-gt-MOST_PACKET.either))

pub returns-then-size-gt-MOST_PACKET-clause-part_after : goal.returns-then-size-gt-MOST_PACKET-clause-part_after
returns-then-size-gt-MOST_PACKET-clause-part_after c =
    let q = c.args.queue.now in
    let part = c.args.part.now in
    let e = bytes_read q c.args.self.first _ _ c.slot_at-slot.ensures c.read-size.ensures ∙ none _ _ q c.then-size-gt-MOST_PACKET.either in
    sym (ap (λ (bs : List ℕ). put 0 bs part) e ∙ put_empty 0 part)

pub returns-clause-value : goal.returns-clause-value
returns-clause-value c =
    let q = c.args.queue.now in
    let place = c.slot_at-slot.result in
    let size = c.read-size.result in
    let e = bytes_read q c.args.self.first place size c.slot_at-slot.ensures c.read-size.ensures ∙ whole place size q (omega arith) (omega arith) in
    sym (ap length e ∙ length-take size (drop (place + 28) q) ∙ omega (arith, length-drop (place + 28) q))

pub returns-clause-part_after : goal.returns-clause-part_after
returns-clause-part_after c =
    let q = c.args.queue.now in
    let place = c.slot_at-slot.result in
    let size = c.read-size.result in
    let e = bytes_read q c.args.self.first place size c.slot_at-slot.ensures c.read-size.ensures ∙ whole place size q (omega arith) (omega arith) in
    let n : place + 28 + size - (place + 28) ≡ size = omega arith in
    let part = c.args.part.now in
    c.write_bytes.ensures ∙ ap (λ (k : ℕ). put 0 (take k (drop (place + 28) q)) part) n ∙ sym (ap (λ (bs : List ℕ). put 0 bs part) e)
