-- What becomes of a packet at a time and with a buffer that are taken, by the tests that the code makes.
use Rattle.std.specs.Prelude.{ℕ, ◌≤◌, ◌<◌, ◌≡◌, Bool, false, eqb, length, Option}
use Rattle.std.proofs.Math.Path.{sym, ap}
use Rattle.std.proofs.Common.{◌∙◌, lt-ltb, le-ltb}
use Rattle.std.proofs.Math.Bool.{true, cond}
use mathlib.Core.List.{List, [], append_assoc}
use Rattle.wire.specs.Parse.{parse}
use Rattle.model.specs.Engine.{Box, Output}
use Rattle.model.specs.Produce.{produce_outputs}
use Rattle.model.specs.Packet.{Arrival, handle_message}
use Rattle.model.specs.Calls.{refused, done, read_refusal, unless_refused, then_produce, resolved_if_needed, take_message, handle_read, handle_packet, hears}
use Rattle.lists.specs.Laws.Bools.{cond-true, cond-false}
use Rattle.call_packet.specs.Inner.Received.{after_message}
use Rattle.wire.specs.declared.Message.{Message}

module _ (b : Box) (a : Arrival) (bytes : List ℕ) where
  pub too_long : 512 < length bytes → handle_packet b a bytes ≡ refused 3
  unfolding handle_packet
  too_long h = cond-true _ _ (lt-ltb _ _ h)

  -- the message is what the reader finds in the packet
  module _ (m : Option Message) (read : m ≡ parse bytes) (short : length bytes ≤ 512) where
    by_hearing : (t : Bool) → hears b m ≡ t
        → handle_packet b a bytes ≡ cond t (unless_refused (read_refusal b a.from m) (take_message b a bytes m)) (done b [])
    unfolding handle_packet handle_read
    by_hearing t h =
        cond-false _ _ (le-ltb _ _ short)
        ∙ sym (ap (λ (x : Option Message). cond (hears b x) (unless_refused (read_refusal b a.from x) (take_message b a bytes x)) (done b [])) read)
        ∙ ap (λ (x : Bool). cond x (unless_refused (read_refusal b a.from m) (take_message b a bytes m)) (done b [])) h

    pub unheard : hears b m ≡ false → handle_packet b a bytes ≡ done b []
    unheard h = by_hearing false h

    module _ (heard : hears b m ≡ true) where
      pub turned_down : (n : ℕ) → eqb n 0 ≡ false → read_refusal b a.from m ≡ n → handle_packet b a bytes ≡ refused n
      turned_down n above h = by_hearing true heard ∙ ap (λ (k : ℕ). unless_refused k (take_message b a bytes m)) h ∙ cond-false _ _ above

      pub handled_so : read_refusal b a.from m ≡ 0
          → handle_packet b a bytes
          ≡ done (produce_outputs a.now (resolved_if_needed a.now (handle_message b a bytes m)).box).box (after_message a.now (handle_message b a bytes m))
      unfolding take_message then_produce
      handled_so h =
          let x = handle_message b a bytes m in
          let r = resolved_if_needed a.now x in
          by_hearing true heard ∙ ap (λ (k : ℕ). unless_refused k (take_message b a bytes m)) h
          ∙ ap (λ (os : List Output). done (produce_outputs a.now r.box).box os) (append_assoc x.outputs r.outputs (produce_outputs a.now r.box).outputs)
