-- Which of an `at` line, a packet and the first timer happens next; and there is one answer.
use Rattle.std.specs.Prelude.{◌≡◌, ℕ, ◌<◌, ◌≤◌, Bool, true, false, nat_lt, refl}
use Rattle.std.proofs.Common.{arith, sym, ap, ◌∙◌, ltb-true, ltb-false}
use Rattle.room_world.specs.declared.next.Kind.{Kind}
use Rattle.room_world.specs.declared.next.Kind.TheVariants.{Event, Packet, Timer}
use Rattle.room_world.specs.Next.{IsFirst, IsNext}

module _ (event packet : ℕ) (timer : ℕ → ℕ) (i time : ℕ) (f : IsFirst timer 16 i) where
  pub is_event : time ≡ event → event ≤ packet → event ≤ timer i → IsNext event packet timer time Event
  is_event is h k = (is, h, λ j l. omega (arith, k, f.earliest j l))

  pub is_packet : time ≡ packet → packet < event → packet ≤ timer i → IsNext event packet timer time Packet
  is_packet is h k = (is, h, λ j l. omega (arith, k, f.earliest j l))

  pub is_timer : time ≡ timer i → timer i < event → timer i < packet → IsNext event packet timer time (Timer i)
  is_timer is h k = (is, h, k, f)

-- ---- there is one answer

one_first : (timer : ℕ → ℕ) (i j : ℕ) → IsFirst timer 16 i → IsFirst timer 16 j → i ≡ j
one_first timer i j f g = go (nat_lt i j) (nat_lt j i) refl refl
  where
    go : (s t : Bool) → nat_lt i j ≡ s → nat_lt j i ≡ t → i ≡ j
    go true t l m = absurd (omega (arith, f.earliest j g.is_among, g.first i (ltb-true i j l)))
    go false true l m = absurd (omega (arith, g.earliest i f.is_among, f.first j (ltb-true j i m)))
    go false false l m = omega (arith, ltb-false i j l, ltb-false j i m)

pub one_next : (event packet : ℕ) (timer : ℕ → ℕ) (s t : ℕ) (k l : Kind) → IsNext event packet timer s k → IsNext event packet timer t l → (s ≡ t) × (k ≡ l)
one_next event packet timer s t Event Event a b = (a.0 ∙ sym b.0, refl)
one_next event packet timer s t Event Packet a b = absurd (omega (arith, a.1, b.1))
one_next event packet timer s t Event (Timer j) a b = absurd (omega (arith, a.2 j b.3.is_among, b.1))
one_next event packet timer s t Packet Event a b = absurd (omega (arith, a.1, b.1))
one_next event packet timer s t Packet Packet a b = (a.0 ∙ sym b.0, refl)
one_next event packet timer s t Packet (Timer j) a b = absurd (omega (arith, a.2 j b.3.is_among, b.2))
one_next event packet timer s t (Timer i) Event a b = absurd (omega (arith, b.2 i a.3.is_among, a.1))
one_next event packet timer s t (Timer i) Packet a b = absurd (omega (arith, b.2 i a.3.is_among, a.2))
one_next event packet timer s t (Timer i) (Timer j) a b =
    let same = one_first timer i j a.3 b.3 in
    (a.0 ∙ ap timer same ∙ sym b.0, ap Timer same)
