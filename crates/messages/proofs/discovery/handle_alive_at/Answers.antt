-- The row after both steps, and what is told of it.
use Rattle.std.specs.Prelude.{Bool, cond, length, ◌≡◌}
use Rattle.std.proofs.Common.{refl, ap, subst, ◌∙◌}
use Rattle.model.specs.Peers.{Samples, Peer, no_samples}
use Rattle.model.specs.Packet.{after_alive, handle_alive_of}
use Rattle.peer.specs.Held.{peer}
use Rattle.peer.specs.Inner.Said.{alive_msg}
use Rattle.peer_table.specs.Rows.{peer_at}
use Rattle.peer_table.specs.Inner.Changed.{with_samples, Changed}
use Rattle.peer_table.specs.Laws.Changed.{changed_then}
use Rattle.messages.specs.Inner.Heard.{arrival_of, box_of, Tells}
use Rattle.messages.proofs.Choices.{change, stay}
use Rattle.messages.proofs.discovery.handle_alive_at.Goals as goal
use Rattle.messages.proofs.discovery.handle_alive_at.Goals.{then-session_changed, else-session_changed}

pub returns : goal.returns
unfolding with_samples peer
returns c =
    let a = c.args in
    let w = a.words.now in
    let l = a.numbers.now in
    let w₁ = c.if-session_changed.words in
    let w₂ = c.put_peer.new.words in
    let l₂ = c.put_peer.new.numbers in
    let m = alive_msg a.said in
    let row = peer_at w l a.i in
    let held = c.peer_at-p.ensures in
    let heard = c.after_alive-heard.result in
    let other = c.session_changed.result in
    let left : Samples = cond other no_samples row.samples in
    let same = ap (λ (b : Bool). peer heard (cond b no_samples row.samples)) (c.session_changed.ensures row.samples) ∙ c.after_alive-heard.ensures row.samples in
    let cleared : Changed w w₁ l l a.i (with_samples (λ s. cond other no_samples s) row) =
    elim c.if-session_changed.branch [
      | then-session_changed b ↦ change other (λ _. no_samples) w b.clear_samples.new.words w₁ l l l a.i b.words-is refl b.if-session_changed.true (b.clear_samples.ensures l)
      | else-session_changed b ↦ stay other (λ _. no_samples) w w₁ l l a.i b.words-is refl b.if-session_changed.false
    ] in
    let put : Changed w w₂ l l₂ a.i (peer heard left) = changed_then w w₁ w₂ l l l₂ a.i _ (λ (p : Peer). peer heard p.samples) cleared c.put_peer.ensures in
    let many : c.sample_count-samples.result ≡ length left.offsets = c.sample_count-samples.ensures l₂ ∙ ap (λ (p : Peer). length p.samples.offsets) (put.here c.requires) in
    record {
      changed = subst (Changed w w₂ l l₂ a.i) (same ∙ ap (after_alive a.arrival.from m a.arrival.now) held) put;
      tells =
          λ ps.
          subst (λ (p : Peer). Tells c.answer_alive.result a.count (handle_alive_of (box_of a.own a.interfaces ps) (arrival_of a.arrival) m p)) held (c.answer_alive.ensures a.arrival.from a.arrival.now ps row.samples left same many);
    }
