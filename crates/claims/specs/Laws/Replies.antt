-- What a host makes of each call of a list is what the definition gives.
use Rattle.std.specs.Prelude.{ℕ, ◌<◌, ◌≡◌, refl, eqb, None}
use Rattle.std.proofs.Common.{arith, sym, ◌∙◌, subst, ne_eqb}
use Rattle.std.proofs.Math.Path.{ap, ap₂}
use Rattle.std.proofs.Math.Bool.{cond}
use mathlib.Core.List.{List, [], ◌∷◌, map}
use Rattle.model.specs.Engine.{Box}
use Rattle.model.specs.Calls.{Call, packet, tick, commit, switch, interface_added, interface_removed, io_error, Outcome, refused, done, remove_interface, handle_io_error, step, outcome_number, outputs_of, outcomes}
use Rattle.model.specs.Answer.{buffer_after}
use Rattle.lists.specs.Laws.Bools.{none_some, cond-false}
use Rattle.model.proofs.Laws.Calls.Steps.{by_add}
use Rattle.engine_state.specs.declared.Engine.{Engine}
use Rattle.engine_state.specs.Held.{held}
use Rattle.call.specs.declared.Called.{Called}
use Rattle.call.specs.Called.{Returns}
use Rattle.call.specs.Laws.Within.{within_16, within_4}
use Rattle.claims.specs.Read.{Read, outputs_in, Reply, reply}
use Rattle.claims.specs.Host.{buf_size_of, nothing, buffer, Led, led_on, call, replies}
use Rattle.claims.specs.Laws.ReadBack.{as_read, call_back}
use Rattle.claims.specs.Laws.Counted.{Numbered, numbered}

-- an outcome as a host has it
abbrev pub as_reply : Outcome → Reply
as_reply o = record { number = outcome_number o; outputs = map as_read (outputs_of o) }

-- ---- one call

-- one that takes no buffer puts nothing out
unlent_silent : (e : Box) (c : Call) → buf_size_of c ≡ None → outputs_of (step e c) ≡ []
unfolding step remove_interface handle_io_error
unlent_silent e (packet iface from bytes now buf_size) h = none_some buf_size (sym h)
unlent_silent e (tick now buf_size) h = none_some buf_size (sym h)
unlent_silent e (commit s now buf_size) h = none_some buf_size (sym h)
unlent_silent e (switch enabled now buf_size) h = none_some buf_size (sym h)
unlent_silent e (interface_added iface addr) h = by_add (λ (o : Outcome). outputs_of o ≡ []) (λ n. refl) e (record { id = iface; addr = addr }) (λ free. refl)
unlent_silent e (interface_removed iface) h = refl
unlent_silent e (io_error iface error) h = refl

module _ (e : Engine) (c : Call) (r : Called) (says : Returns e c r) where
  reply_unlent : buf_size_of c ≡ None → record { number = r.number; outputs = [] } ≡ as_reply (step (held e) c)
  reply_unlent h =
      ap₂ (λ (n : ℕ) (os : List Read). record { number = n; outputs = os }) says.number_is (sym (ap (map as_read) (unlent_silent (held e) c h)))

  -- the outputs that are read, if they are
  reply_outputs : (before : List ℕ) → cond (eqb (outcome_number (step (held e) c)) 0) (outputs_in (buffer_after (step (held e) c) before)) [] ≡ map as_read (outputs_of (step (held e) c))
  reply_outputs before = go (step (held e) c) refl
    where
      go : (o : Outcome) → step (held e) c ≡ o → cond (eqb (outcome_number o) 0) (outputs_in (buffer_after (step (held e) c) before)) [] ≡ map as_read (outputs_of o)
      go (refused n) h =
          let above : 0 < n = subst Numbered h (numbered (held e) c) in
          cond-false _ _ (ne_eqb n 0 (λ zero. omega arith))
      go (done b os) h = call_back (held e) c b os (within_16 e) (within_4 e) h before

  reply_lent : (before after : List ℕ) → after ≡ buffer_after (step (held e) c) before → reply (record { number = r.number; buffer = after }) ≡ as_reply (step (held e) c)
  unfolding reply
  reply_lent before after written =
      ap₂ (λ (n : ℕ) (bs : List ℕ). record { number = n; outputs = cond (eqb n 0) (outputs_in bs) [] }) says.number_is written
      ∙ ap (λ (os : List Read). record { number = outcome_number (step (held e) c); outputs = os }) (reply_outputs before)

-- ---- lists of calls

-- on every engine
pub led_replies : (e : Engine) (cs : List Call) (last : Engine) → (led : Led e cs last) → replies led ≡ map as_reply (outcomes (held e) cs)
unfolding replies outcomes
led_replies e _ _ (led_on _) = refl
led_replies e _ last (call _ c r says (nothing TakesNone) cs _ rest) =
    ap₂ (λ (x : Reply) (xs : List Reply). x ∷ xs) (reply_unlent e c r says TakesNone) (led_replies r.engine cs last rest ∙ ap (λ (b : Box). map as_reply (outcomes b cs)) says.engine_is)
led_replies e _ last (call _ c r says (buffer before after takes written) cs _ rest) =
    ap₂ (λ (x : Reply) (xs : List Reply). x ∷ xs) (reply_lent e c r says before after written) (led_replies r.engine cs last rest ∙ ap (λ (b : Box). map as_reply (outcomes b cs)) says.engine_is)
