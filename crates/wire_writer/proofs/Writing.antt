-- What a writer's answer is.
use Rattle.std.specs.Prelude.{ℕ, ◌<◌, ◌≤◌, cond, List, ◌≡◌, length, is_some, Option, Some, None}
use Rattle.std.proofs.Common.{arith, ap, ◌∙◌, le-leb, refl}
use Rattle.std.proofs.lemmas.Bool.{lt-leb}
use Rattle.big_endian.specs.Laws.Puts.{put_front}
use Rattle.big_endian.specs.Laws.Writing.{Wrote, wrote}
use Rattle.big_endian.specs.Written.{Written, written}
use Rattle.time.specs.declared.HostTime.{HostTime}
use Rattle.wire.specs.declared.SocketAddrPlain.{SocketAddrPlain}
use Rattle.wire.specs.Layout.{mep4_entry, pgt_entry}
use Rattle.wire.specs.Laws.Sizes.{mep4_14, pgt_16}
use Rattle.wire.specs.Written.{written_echo}

-- a packet that fits is written at the front, and one that does not is refused
pub done : {packet old new : List ℕ} → Wrote 0 packet old new → length packet ≤ length old → record { number = 0; part = new } ≡ written packet old
unfolding written
done {packet} {old} w h = rw (le-leb _ _ h) (ap (λ (p : List ℕ). record { number = 0; part = p }) (wrote w (omega arith) ∙ put_front packet old h))

pub refused : (packet old : List ℕ) → length old < length packet → record { number = 7; part = old } ≡ written packet old
unfolding written
refused packet old h = rw (lt-leb _ _ h)

-- the same of a packet that is made of an echo
pub echo_refused : (packet : List ℕ → List ℕ) (echo old : List ℕ) → 503 < length echo → record { number = 3; part = old } ≡ written_echo packet echo old
unfolding written_echo
echo_refused packet echo old h = rw (lt-leb _ _ h)

pub echo_taken : (packet : List ℕ → List ℕ) (echo old : List ℕ) {w : Written} → length echo ≤ 503 → w ≡ written (packet echo) old → w ≡ written_echo packet echo old
unfolding written_echo
echo_taken packet echo old h e = rw (le-leb _ _ h) e

-- how long the entries are that may be absent
pub mep4_length : (mep4 : Option SocketAddrPlain) → length (mep4_entry mep4) ≡ cond (is_some mep4) 14 0
unfolding mep4_entry
mep4_length (Some addr) = mep4_14 addr
mep4_length None = refl

pub pgt_length : (prev : Option HostTime) → length (pgt_entry prev) ≡ cond (is_some prev) 16 0
unfolding pgt_entry
pgt_length (Some time) = pgt_16 time
pgt_length None = refl
