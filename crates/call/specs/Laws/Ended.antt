-- How a call in place with a time and an answer buffer ends: what it returns, and what the buffer then holds.
use Rattle.std.specs.Prelude.{ℕ, ◌≤◌, ◌≡◌, refl, List, [], ℤ, length}
use Rattle.std.proofs.Common.{sym, ap, ◌∙◌}
use Rattle.time.specs.declared.HostTime.{HostTime}
use Rattle.big_endian.specs.Bytes.{bytes, put}
use Rattle.model.specs.Engine.{Box, Output}
use Rattle.model.specs.Calls.{Call, Outcome, refused, done, admit, step}
use Rattle.model.specs.Answer.{buffer_after}
use Rattle.engine_state.specs.declared.core_state.Core.{Core}
use Rattle.engine_state.specs.Held.{held_in}
use Rattle.call.specs.declared.Told.{Told}
use Rattle.call.specs.Called.{ReturnsIn}
use Rattle.call.specs.Inner.Refusal.{refusal}
use Rattle.call.specs.Inner.Answered.{written_answer}
use Rattle.call.specs.Laws.Admitted.{admit_refused, admit_taken, enough_room}
use Rattle.call.specs.Laws.Empty.{empty_answer}
use Rattle.call.specs.Laws.ReturnedIn.{told_refused, told_done}
use Rattle.call.specs.Laws.Within.{few_peers, few_interfaces, buffer_done, buffer_refused}

module _ (e : Core) (words : List ℕ) (numbers : List ℤ) where
  abbrev pub before : Box
  before = held_in e words numbers

  module _ (c : Call) (old : List ℕ) where
    -- what the contract of such a call says
    abbrev pub Ended : Told → List ℕ → List ℤ → List ℕ → Type 0
    Ended r words' numbers' new = ReturnsIn e words numbers c r words' numbers' × (new ≡ buffer_after (step before c) old)

    refused_ends : (n : ℕ) → step before c ≡ refused n → Ended (record { core = e; number = n }) words numbers old
    refused_ends n h = (told_refused e words numbers c n h, buffer_refused before c old n h)

    -- `o` is what becomes of it at a time and with a buffer that are taken
    module _ (at : HostTime) (o : Outcome) (admits : step before c ≡ admit at (length old) o) (n : ℕ) (told : n ≡ refusal at (length old)) where
      -- turned down for its time or its buffer
      pub ends_at_once : (n ≡ 0 → ⊥) → Ended (record { core = e; number = n }) words numbers old
      ends_at_once f = refused_ends n (admits ∙ admit_refused at (length old) o n (sym told) f)

      module _ (zero : n ≡ 0) where
        taken : step before c ≡ o
        taken = admits ∙ admit_taken at (length old) o (sym told ∙ zero)

        -- turned down later
        pub ends_refused : (m : ℕ) → o ≡ refused m → Ended (record { core = e; number = m }) words numbers old
        ends_refused m h = refused_ends m (taken ∙ h)

        pub ends_done : (b : Box) (os : List Output) (echo : List ℕ) (last : Core) (words' : List ℕ) (numbers' : List ℤ) (new : List ℕ) → o ≡ done b os → length echo ≤ 503
            → held_in last words' numbers' ≡ b → new ≡ written_answer echo os old → Ended (record { core = last; number = n }) words' numbers' new
        ends_done b os echo last words' numbers' new h short means wrote = (
          told_done e words numbers c _ words' numbers' b os (taken ∙ h) zero means,
          wrote ∙ buffer_done before c old (few_peers e words numbers) (few_interfaces e words numbers) b os echo (taken ∙ h) short (enough_room at (length old) (sym told ∙ zero)),
        )

        -- done, with nothing changed and nothing put out
        pub ends_empty : (new : List ℕ) → o ≡ done before [] → new ≡ put 0 (bytes 4 0) old → Ended (record { core = e; number = n }) words numbers new
        ends_empty new h wrote = (
          told_done e words numbers c _ words numbers before [] (taken ∙ h) zero refl,
          wrote ∙ empty_answer before old (enough_room at (length old) (sym told ∙ zero)) ∙ sym (ap (λ (x : Outcome). buffer_after x old) (taken ∙ h)),
        )
