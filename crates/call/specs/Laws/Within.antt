-- What an engine holds is within 16 neighbours and 4 interfaces, whatever its counts are. So every answer fits a buffer that is taken.
use Rattle.std.specs.Prelude.{ℕ, min, ◌≤◌, ◌≡◌, Bool, ◌&&◌, List, ℤ, take}
use Rattle.std.proofs.Common.{arith, ◌∙◌, le-leb, length-take}
use Rattle.std.proofs.Math.Path.{sym, ap}
use Rattle.std.proofs.Math.Bool.{cond}
use Rattle.std.proofs.Math.Dec.{leb}
use Rattle.std.proofs.Math.ListN.{length}
use Rattle.std.proofs.lemmas.List.{length-map}
use Rattle.model.specs.Engine.{Box, Output}
use Rattle.model.specs.Calls.{Call, refused, done, step}
use Rattle.model.specs.Answer.{answer, buffer_after}
use Rattle.model.proofs.Laws.Calls.Outputs.{fits_buffer}
use Rattle.interface_map.specs.Held.{interface, interfaces_of}
use Rattle.peer_table.specs.Laws.Peers.{length_peers}
use Rattle.engine_state.specs.declared.core_state.Core.{Core}
use Rattle.engine_state.specs.declared.Engine.{Engine}
use Rattle.engine_state.specs.Held.{core_box, held_in, held}
use Rattle.answer.specs.Inner.Planned.{fits, answered}
use Rattle.call.specs.Inner.Answered.{written_answer}

-- in place
pub few_peers : (e : Core) (words : List ℕ) (numbers : List ℤ) → length (held_in e words numbers).peers ≤ 16
unfolding core_box
few_peers e words numbers = omega (arith, length_peers e.count words numbers)

pub few_interfaces : (e : Core) (words : List ℕ) (numbers : List ℤ) → length (held_in e words numbers).interfaces ≤ 4
unfolding core_box interfaces_of
few_interfaces e words numbers =
    let l = take (min e.interfaces.count 4) e.interfaces.slots in
    omega (arith, length-map l interface, length-take (min e.interfaces.count 4) e.interfaces.slots)

-- by value
pub within_16 : (e : Engine) → length (held e).peers ≤ 16
within_16 e = few_peers e.core e.words e.numbers

pub within_4 : (e : Engine) → length (held e).interfaces ≤ 4
within_4 e = few_interfaces e.core e.words e.numbers

-- the buffer after a call that is done, on a box of few neighbours and interfaces, and after one that is turned down
module _ (e : Box) (c : Call) (old : List ℕ) where
  pub buffer_done : length e.peers ≤ 16 → length e.interfaces ≤ 4 → (b : Box) (os : List Output) (echo : List ℕ) → step e c ≡ done b os → length echo ≤ 503 → 4096 ≤ length old
      → written_answer echo os old ≡ buffer_after (step e c) old
  unfolding fits answered buffer_after
  buffer_done peers interfaces b os echo h short room =
      let small = fits_buffer e c b os peers interfaces h in
      let g : length (answer os) ≤ length old = omega (arith, small) in
      ap (λ (t : Bool). cond (t && leb (length (answer os)) (length old)) (answered os old) old) (le-leb _ _ short)
      ∙ ap (λ (t : Bool). cond t (answered os old) old) (le-leb _ _ g)
      ∙ sym (ap (λ o. buffer_after o old) h)

  pub buffer_refused : (n : ℕ) → step e c ≡ refused n → old ≡ buffer_after (step e c) old
  unfolding buffer_after
  buffer_refused n h = sym (ap (λ o. buffer_after o old) h)
